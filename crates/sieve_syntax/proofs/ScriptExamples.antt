-- Examples of what whole texts mean: a right one and a near miss.
use Rattle.std.proofs.Common.{◌≡◌, ℕ, ◌<◌, zero, suc, Bool, true, false, List, [], ◌∷◌, length, get_or, Some, None, refl, ap, sym, subst, arith, lit<, lit≤}
use Rattle.std.specs.Prelude.{codes, nat_lt}
use Rattle.std.specs.List.{list_all}
use Rattle.std.specs.Str.{IsAscii}
use Rattle.std.proofs.lemmas.Str.{IsUtf8-from_ascii}
use Rattle.std.proofs.lemmas.Bool.Decides.{nat_tests}
use Rattle.octets.proofs.Lists.{some_is}
use Rattle.sieve_lex.specs.declared.token.Mark.TheVariants as K
use Rattle.sieve_lex.specs.declared.token.Content.TheVariants as C
use Rattle.sieve_lex.specs.Contents.{contents_of}
use Rattle.sieve_lex.specs.declared.token.Token.{Token}
use Rattle.sieve_lex.specs.Space.{IsTail}
use Rattle.sieve_lex.specs.Space.Space.{White}
use Rattle.sieve_lex.specs.Spelling.{SpellsFrom}
use Rattle.sieve_lex.specs.Text.{IsScriptText}
use Rattle.sieve_lex.proofs.Prefixes.{both}
use Rattle.sieve_lex.proofs.Best.{IsFound}
use Rattle.sieve_lex.proofs.Named.{identifier_found}
use Rattle.sieve_lex.proofs.Marks.{mark_found}
use Rattle.sieve_lex.proofs.Gaps.{tail_all}
use Rattle.sieve_lex.proofs.Next.{IsAhead, next_found, next_only, next_further}
use Rattle.sieve_syntax.proofs.LanguageLemmas.{all_lexemes}
use Rattle.sieve_syntax.specs.declared.table.keyword.Keyword.{Keyword}
use Rattle.sieve_syntax.specs.declared.table.keyword.Keyword.TheVariants as W
use Rattle.sieve_syntax.specs.declared.parser.argument.Argument.{Argument}
use Rattle.sieve_syntax.specs.declared.parser.argument.Argument.TheVariants as A
use Rattle.sieve_syntax.specs.declared.tree.action.Action.TheVariants as D
use Rattle.sieve_syntax.specs.Chains.{Chain}
use Rattle.sieve_syntax.specs.Lexemes.{Lexeme, keyword, tag, number, text, mark, lexemes_of}
use Rattle.sieve_syntax.specs.Arguments.{IsArgument}
use Rattle.sieve_syntax.specs.Tree.{CommandTree, require, choose, stop, act, no_branches, branch, Commands, no_commands, command}
use Rattle.sieve_syntax.specs.Extension.EncodedCharacter.{as_read}
use Rattle.sieve_syntax.specs.Grammar.{IsStatement, IsCommand, ReadsScript}
use Rattle.sieve_syntax.specs.Means.{Means}
use Rattle.sieve_syntax.proofs.Examples.{keep_bare}

-- what no octet of a text is stands at no place of it
no_octet : (p : ℕ → Bool) (n : ℕ) (s : List ℕ) → list_all p s ≡ true → p n ≡ false → (i : ℕ) → i < length s → get_or s i 0 ≡ n → ⊥
no_octet p n [] each none i below e = omega (arith, below)
no_octet p n (b ∷ s) each none zero below e =
    let P : ℕ → Type 0 = λ x. p x ≡ true in
    let so : p n ≡ true = subst P e (both (p b) (list_all p s) each).0 in
    cc
no_octet p n (b ∷ s) each none (suc i) below e = no_octet p n s (both (p b) (list_all p s) each).1 none i (omega (arith, below)) e

no_return : (s : List ℕ) → list_all (λ b. nat_lt 13 b) s ≡ true → (i : ℕ) → get_or s i 0 ≡ 13 → ⊥
no_return [] each i e = let z : 0 ≡ 13 = e in omega (arith, z)
no_return (b ∷ s) each zero e = no_octet (λ b. nat_lt 13 b) 13 (b ∷ s) each refl 0 (omega arith) e
no_return (b ∷ s) each (suc i) e = no_return s (both (nat_lt 13 b) (list_all (λ b. nat_lt 13 b) s) each).1 i e

-- plain ASCII text is text
ascii : (s : List ℕ) → list_all (λ b. nat_lt b 128) s ≡ true → IsAscii s
ascii [] each i = lit< tt
ascii (b ∷ s) each zero = let below : nat_lt b 128 ≡ true = (both (nat_lt b 128) (list_all (λ b. nat_lt b 128) s) each).0 in grind (arith, nat_tests)
ascii (b ∷ s) each (suc i) = ascii s (both (nat_lt b 128) (list_all (λ b. nat_lt b 128) s) each).1 i

pub plain_text : (s : List ℕ) → list_all (λ b. nat_lt b 128) s ≡ true → list_all (λ b. nat_lt 13 b) s ≡ true → IsScriptText s
plain_text s low high = record {
  utf8 = IsUtf8-from_ascii s (ascii s low);
  octets = record {
    no_nul = λ i below e. no_octet (λ b. nat_lt 13 b) 0 s high refl i below e;
    no_lone_cr = λ i e. absurd (no_return s high i e);
  };
}

abbrev keep_token : Token
keep_token = record { content = C.Identifier (codes "keep"); start = 0; end = 4; line = 1 }

abbrev semicolon : Token
semicolon = record { content = C.Mark K.Semicolon; start = 4; end = 5; line = 1 }

keep_found : IsFound (codes "keep; # a") (record { content = C.Identifier (codes "keep"); len = 4 })
keep_found = identifier_found (codes "keep; # a") (codes "keep") (codes "; # a") (codes "keep") 4 refl refl refl refl refl refl (λ t. let e : 107 ≡ 116 = ap (λ s. get_or s 0 0) t.0 in omega arith)

semicolon_found : IsFound (codes "; # a") (record { content = C.Mark K.Semicolon; len = 1 })
semicolon_found = mark_found (codes "; # a") 59 (codes " # a") K.Semicolon refl refl

first_ahead : IsAhead (codes "keep; # a") 0 0 (codes "keep; # a")
first_ahead = record { order = lit≤ tt; inside = lit≤ tt; octets_are = refl; skipped = refl }

second_ahead : IsAhead (codes "keep; # a") 4 4 (codes "; # a")
second_ahead = record { order = lit≤ tt; inside = lit≤ tt; octets_are = refl; skipped = refl }

some_octets : (n : ℕ) → suc n ≡ 0 → ⊥
some_octets n e = omega arith

last : IsTail (codes " # a")
last = record { pieces = White 32 ∷ []; last = codes "# a"; each = (refl, tt); comment = (refl, refl); spelled = refl }

-- `keep; # a` means a `keep`
keeps : Means (codes "keep; # a") (command (act (D.Keep None)) no_commands)
keeps = record {
  tokens = keep_token ∷ (semicolon ∷ []);
  spelled = record {
    written = plain_text (codes "keep; # a") refl refl;
    spelled = (
      next_found (codes "keep; # a") (codes "keep; # a") 0 0 1 (record { content = C.Identifier (codes "keep"); len = 4 }) first_ahead (some_octets 8) refl keep_found.0,
      (next_found (codes "keep; # a") (codes "; # a") 4 4 1 (record { content = C.Mark K.Semicolon; len = 1 }) second_ahead (some_octets 4) refl semicolon_found.0, last),
    );
  };
  read = ([], ((W.Keep, (mark K.Semicolon ∷ [], (refl, ([], (record { spelled = refl; all = tt }, keep_bare))))), refl));
  valid = record { known = λ k d below. absurd (omega (arith, below)); stand = (λ used. absurd (cc used), tt); shallow = omega arith };
}

-- no command is a word alone
no_arguments : (args : List Argument) (to : List Lexeme) → Chain IsArgument args [] (mark K.Semicolon ∷ to) → ⊥
no_arguments [] to e = let z : [] ≡ mark K.Semicolon ∷ to = e in cc
no_arguments (A.Tag t ∷ more) to h = let e : [] ≡ tag t ∷ h.0 = h.1.0 in cc
no_arguments (A.Number n ∷ more) to h = let e : [] ≡ number n ∷ h.0 = h.1.0 in cc
no_arguments (A.Text s ∷ more) to h = let e : [] ≡ text s ∷ h.0 = h.1.0 in cc
no_arguments (A.Strings xs ∷ more) to h = let e : [] ≡ mark K.OpenBracket ∷ h.1.0.0 = h.1.0.1.0 in cc

no_statement : (tree : CommandTree) (name : Keyword) (to : List Lexeme) → IsStatement tree name [] to → ⊥
no_statement tree name to h = no_arguments h.0 to h.1.0.spelled

no_command : (tree : CommandTree) (name : Keyword) (to : List Lexeme) → (W.Keep ≡ name) → IsCommand tree name [] to → ⊥
no_command (require names) name to e h = no_statement (require names) name to h
no_command (choose no_branches) name to e h = h
no_command (choose (branch condition block more)) name to e h = let if_is : name ≡ W.If = h.0 in cc
no_command stop name to e h = no_statement stop name to h
no_command (act action) name to e h = no_statement (act action) name to h

keyword_alone : (tree : Commands) → ReadsScript tree (keyword W.Keep ∷ []) → ⊥
keyword_alone no_commands e = let z : keyword W.Keep ∷ [] ≡ [] = e in cc
keyword_alone (command first more) h =
    let e : keyword W.Keep ∷ [] ≡ keyword h.1.0.0 ∷ h.1.0.1.0 = h.1.0.1.1.0 in
    let after : h.1.0.1.0 ≡ [] = cc in
    let P : List Lexeme → Type 0 = λ l. IsCommand first h.1.0.0 l h.0 in
    no_command first h.1.0.0 h.0 (cc) (subst P after h.1.0.1.1.1)

-- `keep` alone means nothing: it is one token, and no command is a word alone
bare_found : IsFound (codes "keep") (record { content = C.Identifier (codes "keep"); len = 4 })
bare_found = identifier_found (codes "keep") (codes "keep") [] (codes "keep") 4 refl refl refl refl refl refl (λ t. let e : 107 ≡ 116 = ap (λ s. get_or s 0 0) t.0 in omega arith)

bare_ahead : IsAhead (codes "keep") 0 0 (codes "keep")
bare_ahead = record { order = lit≤ tt; inside = lit≤ tt; octets_are = refl; skipped = refl }

bare_tokens : (ts : List Token) → SpellsFrom (codes "keep") 0 ts → ts ≡ keep_token ∷ []
bare_tokens [] h = let e : Some (codes "keep") ≡ Some [] = tail_all (codes "keep") h in absurd (cc)
bare_tokens (t ∷ ts) h =
    let same : keep_token ≡ t = some_is keep_token t (next_only (codes "keep") (codes "keep") 0 0 1 (record { content = C.Identifier (codes "keep"); len = 4 }) bare_ahead refl bare_found.1 t h.0) in
    let P : Token → Type 0 = λ x. SpellsFrom (codes "keep") x.end ts in
    λ i. sym same i ∷ after ts (subst P (sym same) h.1) i
  where
    after : (us : List Token) → SpellsFrom (codes "keep") 4 us → us ≡ []
    after [] g = refl
    after (u ∷ us) g = let further = next_further (codes "keep") 4 u g.0 in absurd (omega (arith, further.0, further.1))

keeps_nothing : (tree : Commands) → Means (codes "keep") tree → ⊥
keeps_nothing tree m =
    let P : List Token → Type 0 = λ ts. ReadsScript tree (as_read (lexemes_of (contents_of ts))) in
    keyword_alone tree (subst P (bare_tokens m.tokens m.spelled.spelled) (subst (λ l. ReadsScript tree (as_read l)) (all_lexemes (contents_of m.tokens)) m.read))
