-- Examples of languages, smaller and larger ones: texts that mean a tree in both, and near misses.
use Rattle.std.proofs.Common.{◌≡◌, ◌+◌, ◌<◌, ℕ, zero, suc, Bool, true, false, List, [], ◌∷◌, length, take, get_or, refl, ap, sym, subst, arith, lit<, lit≤}
use Rattle.std.specs.Prelude.{codes, All}
use Rattle.mail_address.specs.declared.address.Addr.{Addr}
use Rattle.mail_address.specs.Outbound.{IsOutbound}
use Rattle.mail_address.specs.Reading.{outbound, pieces}
use Rattle.mail_address.proofs.Outbounds.{outbound-is}
use Rattle.sieve_lex.specs.declared.token.Content.{Content}
use Rattle.sieve_lex.specs.declared.token.Content.TheVariants as C
use Rattle.sieve_lex.specs.declared.token.Mark.TheVariants as K
use Rattle.sieve_lex.specs.declared.token.Token.{Token}
use Rattle.sieve_lex.specs.Contents.{contents_of}
use Rattle.sieve_lex.specs.Space.{IsTail}
use Rattle.sieve_lex.specs.Spelling.{IsNextToken, SpellsTokens}
use Rattle.sieve_lex.specs.Text.{line_ends}
use Rattle.sieve_lex.proofs.Best.{IsFound}
use Rattle.sieve_lex.proofs.Named.{identifier_found, tag_found}
use Rattle.sieve_lex.proofs.Strings.{string_found}
use Rattle.sieve_lex.proofs.Marks.{mark_found}
use Rattle.sieve_lex.proofs.Next.{IsAhead, next_found}
use Rattle.sieve_lex.proofs.TokenLaws.{tokens_only}
use Rattle.sieve_syntax.specs.declared.table.keyword.Keyword.{Keyword}
use Rattle.sieve_syntax.specs.declared.table.keyword.Keyword.TheVariants as W
use Rattle.sieve_syntax.specs.declared.table.tag.Tag.TheVariants as T
use Rattle.sieve_syntax.specs.declared.table.tag_group.TagGroup.TheVariants as P
use Rattle.sieve_syntax.specs.declared.table.tag_group.TagValue.TheVariants as S
use Rattle.sieve_syntax.specs.declared.parser.argument.Argument.{Argument}
use Rattle.sieve_syntax.specs.declared.parser.argument.Argument.TheVariants as A
use Rattle.sieve_syntax.specs.Arguments.{AreArguments}
use Rattle.sieve_syntax.specs.Table.{IsPlainCommand}
use Rattle.sieve_syntax.specs.declared.tree.action.Action.TheVariants as D
use Rattle.sieve_syntax.specs.declared.tree.checks.AddressPart.{AddressPart}
use Rattle.sieve_syntax.specs.declared.tree.checks.AddressPart.TheVariants as H
use Rattle.sieve_syntax.specs.declared.tree.checks.Collation.TheVariants as L
use Rattle.sieve_syntax.specs.declared.tree.checks.Matching.TheVariants as M
use Rattle.sieve_syntax.specs.declared.tree.checks.MailCheck.TheVariants as Q
use Rattle.sieve_syntax.specs.declared.capability.Capability.{Capability}
use Rattle.sieve_syntax.specs.declared.capability.Capability.TheVariants as N
use Rattle.sieve_syntax.specs.Capabilities.{KnowsName, knows_name, all_capabilities}
use Rattle.sieve_syntax.specs.Growth.{UsesOnly}
use Rattle.sieve_syntax.specs.Grammar.{IsStatement, IsCommand, ReadsScript}
use Rattle.sieve_syntax.specs.Languages.{lexeme_in, read_in}
use Rattle.sieve_syntax.specs.Lexemes.{Lexeme, keyword, tag, text, mark, misfit, lexemes_of}
use Rattle.sieve_syntax.specs.Means.{MeansIn, Means}
use Rattle.sieve_syntax.specs.Tree.{looks, CommandTree, require, choose, act, no_branches, branch, Commands, no_commands, command}
use Rattle.sieve_syntax.specs.NamedAddresses.{IsNamedAs}
use Rattle.sieve_syntax.proofs.LanguageLaws.{still_means}
use Rattle.sieve_syntax.proofs.LanguageLemmas.{script_known}
use Rattle.sieve_syntax.proofs.ScriptExamples.{plain_text}
use Rattle.sieve_syntax.proofs.TagLemmas.{none_there, first_there}

-- no capability, and all but one
abbrev base : Capability → Bool
base capability = false

abbrev without_copy : Capability → Bool
without_copy N.Copy = false
without_copy _ = true

-- `:copy` is a tag where `copy` is offered, and `:over` is one anywhere
copy_offered : (lexeme_in base (C.Tag (codes "Copy")) ≡ tag T.Other) × (lexeme_in all_capabilities (C.Tag (codes "Copy")) ≡ tag T.Copy)
copy_offered = (refl, refl)

copy_alone : (lexeme_in without_copy (C.Tag (codes "copy")) ≡ tag T.Other) × (lexeme_in without_copy (C.Tag (codes "create")) ≡ tag T.Create)
copy_alone = (refl, refl)

over_always : lexeme_in base (C.Tag (codes "over")) ≡ tag T.Over
over_always = refl

-- `fileinto` is a word where it is offered, and `keep` is one anywhere
filing_offered : (lexeme_in base (C.Identifier (codes "FileInto")) ≡ keyword W.Other) × (lexeme_in all_capabilities (C.Identifier (codes "FileInto")) ≡ keyword W.FileInto)
filing_offered = (refl, refl)

keep_always : lexeme_in base (C.Identifier (codes "keep")) ≡ keyword W.Keep
keep_always = refl

-- `:days` is one where either of `vacation` and `vacation-seconds` is offered (RFC 6131, 2), and `:seconds` where the latter is
abbrev seconds_alone : Capability → Bool
seconds_alone N.VacationSeconds = true
seconds_alone _ = false

abbrev vacation_alone : Capability → Bool
vacation_alone N.Vacation = true
vacation_alone _ = false

days_with_either : (lexeme_in seconds_alone (C.Tag (codes "days")) ≡ tag T.Days) × (lexeme_in vacation_alone (C.Tag (codes "days")) ≡ tag T.Days)
days_with_either = (refl, refl)

seconds_with_one : (lexeme_in seconds_alone (C.Tag (codes "seconds")) ≡ tag T.Seconds) × (lexeme_in vacation_alone (C.Tag (codes "seconds")) ≡ tag T.Other)
seconds_with_one = (refl, refl)

-- a name is known where its capability is offered, and compared by octets
copy_known : (knows_name all_capabilities (codes "copy") ≡ true) × (knows_name without_copy (codes "copy") ≡ false)
copy_known = (refl, refl)

capitals_unknown : knows_name all_capabilities (codes "Copy") ≡ false
capitals_unknown = refl

-- ---- encoded characters (RFC 5228, 2.4.2.4)

-- `require ["encoded-character", "$${hex:40}"]; redirect "c${hex:40}d"; redirect "${unicode:d800}";`
abbrev encoded : List Content
encoded =
    C.Identifier (codes "require") ∷ (C.Mark K.OpenBracket ∷ (C.Text (codes "encoded-character") ∷ (C.Mark K.Comma ∷ (C.Text (codes "$${hex:40}") ∷ (C.Mark K.CloseBracket ∷ (C.Mark K.Semicolon
    ∷ (C.Identifier (codes "redirect") ∷ (C.Text (codes "c${hex:40}d") ∷ (C.Mark K.Semicolon ∷ (C.Identifier (codes "redirect") ∷ (C.Text (codes "${unicode:d800}") ∷ (C.Mark K.Semicolon ∷ []))))))))))))

-- a string is decoded behind the semicolon, and one with a surrogate is none
encoded_offered : read_in all_capabilities encoded
    ≡ keyword W.Require ∷ (mark K.OpenBracket ∷ (text (codes "encoded-character") ∷ (mark K.Comma ∷ (text (codes "$${hex:40}") ∷ (mark K.CloseBracket ∷ (mark K.Semicolon
    ∷ (keyword W.Redirect ∷ (text (codes "c@d") ∷ (mark K.Semicolon ∷ (keyword W.Redirect ∷ (misfit ∷ (mark K.Semicolon ∷ []))))))))))))
encoded_offered = refl

-- where that isn't offered each is read as it is written
encoded_without : read_in base encoded ≡ lexemes_of encoded
encoded_without = refl

-- where another word stands before, or the name is written in capitals, it is still
encoded_late : (read_in all_capabilities (C.Identifier (codes "keep") ∷ (C.Mark K.Semicolon ∷ encoded)) ≡ keyword W.Keep ∷ (mark K.Semicolon ∷ lexemes_of encoded))
    × (read_in all_capabilities (C.Identifier (codes "require") ∷ (C.Text (codes "Encoded-Character") ∷ (C.Mark K.Semicolon ∷ (C.Identifier (codes "redirect") ∷ (C.Text (codes "c${hex:40}d") ∷ [])))))
    ≡ keyword W.Require ∷ (text (codes "Encoded-Character") ∷ (mark K.Semicolon ∷ (keyword W.Redirect ∷ (text (codes "c${hex:40}d") ∷ [])))))
encoded_late = (refl, refl)

-- ---- trees

abbrev target : Addr
target = record { local = codes "c"; domain = codes "d" }

abbrev redirecting : Bool → Commands
redirecting copy = command (act (D.Redirect (record { target = target; copy = copy }))) no_commands

-- a tree that looks at a part of a local part, or at a whole one
abbrev asking : AddressPart → Commands
asking part =
    command (choose (branch (looks (Q.Address (record { comparator = L.Octet; part = part; matching = M.Is; fields = []; keys = [] }))) no_commands no_branches)) no_commands

-- what uses nothing but the base language, and what uses `copy` or `subaddress`
plain_uses : UsesOnly base (redirecting false)
plain_uses = record { actions = (λ is. absurd (cc is), tt); tests = (tt, tt) }

no_copy : UsesOnly without_copy (redirecting true) → ⊥
no_copy uses = let e : false ≡ true = uses.actions.0 refl in absurd (cc e)

whole_asked : UsesOnly base (asking H.LocalPart)
whole_asked = record { actions = ((tt, tt), tt); tests = (((λ is. absurd (cc is), (λ is. absurd (cc is), λ is. absurd (cc is), λ is. absurd (cc is))), (tt, tt)), tt) }

part_asked : UsesOnly base (asking H.Detail) → ⊥
part_asked uses = let e : false ≡ true = uses.tests.0.0.0 refl in absurd (cc e)

-- ---- texts

-- a token on the first line
abbrev on_line : Content → ℕ → ℕ → Token
on_line content start end = record { content = content; start = start; end = end; line = 1 }

-- the token that stands ahead there
next : (whole octets : List ℕ) (at start len : ℕ) (content : Content) → IsAhead whole at start octets → 0 < length octets → 1 ≡ 1 + line_ends (take start whole)
    → IsFound octets (record { content = content; len = len }) → IsNextToken whole at (on_line content start (start + len))
next whole octets at start len content ahead some line found =
    next_found whole octets at start 1 (record { content = content; len = len }) ahead (λ e. omega arith) line found.0

nothing : IsTail []
nothing = record { pieces = []; last = []; each = tt; comment = tt; spelled = refl }

-- a name alone, and no name
pub one_known : (offered : Capability → Bool) (name : List ℕ) → KnowsName offered name → All (KnowsName offered) (name ∷ [])
one_known offered name is zero d within = is
one_known offered name is (suc k) d within = absurd (omega (arith, within))

none_known : (offered : Capability → Bool) → All (KnowsName offered) []
none_known offered k d within = absurd (omega (arith, within))

-- a script of one command
alone : (tree : CommandTree) (name : Keyword) (after : List Lexeme) → IsCommand tree name after [] → ReadsScript (command tree no_commands) (keyword name ∷ after)
alone tree name after is = ([], ((name, (after, (refl, is))), refl))

-- a word whose arguments end at a semicolon, which is the last of the script
ending : (name : Keyword) (args : List Argument) (after : List Lexeme) (tree : CommandTree) → AreArguments args after (mark K.Semicolon ∷ []) → IsPlainCommand name args tree → IsStatement tree name after []
ending name args after tree spelled is = (args, (spelled, is))

-- `require` of one name, and more
after_require : (capability : List ℕ) (more : Commands) (from : List Lexeme) → ReadsScript more from → ReadsScript (command (require (capability ∷ [])) more) (keyword W.Require ∷ (text capability ∷ (mark K.Semicolon ∷ from)))
after_require capability more from reads = (from, ((W.Require, (text capability ∷ (mark K.Semicolon ∷ from), (refl, requires))), reads))
  where
    requires : IsStatement (require (capability ∷ [])) W.Require (text capability ∷ (mark K.Semicolon ∷ from)) from
    requires = (
      A.Text capability ∷ [],
      (
        record { spelled = (mark K.Semicolon ∷ from, (refl, refl)); all = tt },
        record {
          value = capability ∷ [];
          is = record { tag_values = []; positional = A.Text capability ∷ []; split_tags = record { written = refl; plain = tt; once = tt }; says = refl };
          tree_is = refl;
        },
      ),
    )

names_it : IsOutbound (codes "c@d") [] target
unfolding outbound pieces
names_it = outbound-is (codes "c@d") [] target refl

names_target : IsNamedAs (codes "c@d") [] target
names_target = ((plain_text (codes "c@d") refl refl).utf8, names_it)

-- `redirect "c@d";`
abbrev redirect : List ℕ
redirect = codes "redirect \"c@d\";"

abbrev redirect_tokens : List Token
redirect_tokens =
    on_line (C.Identifier (codes "redirect")) 0 8
    ∷ (on_line (C.Text (codes "c@d")) 9 14
    ∷ (on_line (C.Mark K.Semicolon) 14 15 ∷ []))

redirect_spelled : SpellsTokens redirect redirect_tokens
redirect_spelled = record {
  written = plain_text redirect refl refl;
  spelled = (
    next redirect (codes "redirect \"c@d\";") 0 0 8 (C.Identifier (codes "redirect")) (record { order = lit≤ tt; inside = lit≤ tt; octets_are = refl; skipped = refl }) (lit< tt) refl (identifier_found (codes "redirect \"c@d\";") (codes "redirect") (codes " \"c@d\";") (codes "redirect") 8 refl refl refl refl refl refl (λ t. let e : 114 ≡ 116 = ap (λ s. get_or s 0 0) t.0 in omega arith)),
    (
      next redirect (codes "\"c@d\";") 8 9 5 (C.Text (codes "c@d")) (record { order = lit≤ tt; inside = lit≤ tt; octets_are = refl; skipped = refl }) (lit< tt) refl (string_found (codes "c@d\";") (codes "c@d") 4 (lit≤ tt) refl),
      (
        next redirect (codes ";") 14 14 1 (C.Mark K.Semicolon) (record { order = lit≤ tt; inside = lit≤ tt; octets_are = refl; skipped = refl }) (lit< tt) refl (mark_found (codes ";") 59 [] K.Semicolon refl refl),
        nothing,
      ),
    ),
  );
}

-- it means to redirect to c@d where nothing is offered, and so where all is
redirects_at_base : MeansIn base redirect (redirecting false)
redirects_at_base = record {
  tokens = redirect_tokens;
  spelled = redirect_spelled;
  read = alone (act (D.Redirect (record { target = target; copy = false }))) W.Redirect (text (codes "c@d") ∷ (mark K.Semicolon ∷ [])) (ending W.Redirect (A.Text (codes "c@d") ∷ []) (text (codes "c@d") ∷ (mark K.Semicolon ∷ [])) _
      (record { spelled = (mark K.Semicolon ∷ [], (refl, refl)); all = tt })
      (record {
        value = record { target = target; copy = false };
        is = record {
          tag_values = [];
          positional = A.Text (codes "c@d") ∷ [];
          split_tags = record { written = refl; plain = tt; once = tt };
          says = record { text = codes "c@d"; is_text = refl; names = ([], names_target); copy = refl };
        };
        tree_is = refl;
      }));
  valid = record { known = none_known base; stand = (λ is. absurd (cc is), tt); shallow = lit≤ tt };
}

redirects_still : Means redirect (redirecting false)
redirects_still = (still_means base all_capabilities redirect (redirecting false) (λ c is. refl) redirects_at_base).means

-- `require "copy"; redirect :copy "c@d";`
abbrev copying : List ℕ
copying = codes "require \"copy\"; redirect :copy \"c@d\";"

abbrev copying_tokens : List Token
copying_tokens =
    on_line (C.Identifier (codes "require")) 0 7
    ∷ (on_line (C.Text (codes "copy")) 8 14
    ∷ (on_line (C.Mark K.Semicolon) 14 15
    ∷ (on_line (C.Identifier (codes "redirect")) 16 24
    ∷ (on_line (C.Tag (codes "copy")) 25 30
    ∷ (on_line (C.Text (codes "c@d")) 31 36
    ∷ (on_line (C.Mark K.Semicolon) 36 37 ∷ []))))))

copying_spelled : SpellsTokens copying copying_tokens
copying_spelled = record {
  written = plain_text copying refl refl;
  spelled = (
    next copying (codes "require \"copy\"; redirect :copy \"c@d\";") 0 0 7 (C.Identifier (codes "require")) (record { order = lit≤ tt; inside = lit≤ tt; octets_are = refl; skipped = refl }) (lit< tt) refl (identifier_found (codes "require \"copy\"; redirect :copy \"c@d\";") (codes "require") (codes " \"copy\"; redirect :copy \"c@d\";") (codes "require") 7 refl refl refl refl refl refl (λ t. let e : 114 ≡ 116 = ap (λ s. get_or s 0 0) t.0 in omega arith)),
    (
      next copying (codes "\"copy\"; redirect :copy \"c@d\";") 7 8 6 (C.Text (codes "copy")) (record { order = lit≤ tt; inside = lit≤ tt; octets_are = refl; skipped = refl }) (lit< tt) refl (string_found (codes "copy\"; redirect :copy \"c@d\";") (codes "copy") 5 (lit≤ tt) refl),
      (
        next copying (codes "; redirect :copy \"c@d\";") 14 14 1 (C.Mark K.Semicolon) (record { order = lit≤ tt; inside = lit≤ tt; octets_are = refl; skipped = refl }) (lit< tt) refl (mark_found (codes "; redirect :copy \"c@d\";") 59 (codes " redirect :copy \"c@d\";") K.Semicolon refl refl),
        (
          next copying (codes "redirect :copy \"c@d\";") 15 16 8 (C.Identifier (codes "redirect")) (record { order = lit≤ tt; inside = lit≤ tt; octets_are = refl; skipped = refl }) (lit< tt) refl (identifier_found (codes "redirect :copy \"c@d\";") (codes "redirect") (codes " :copy \"c@d\";") (codes "redirect") 8 refl refl refl refl refl refl (λ t. let e : 114 ≡ 116 = ap (λ s. get_or s 0 0) t.0 in omega arith)),
          (
            next copying (codes ":copy \"c@d\";") 24 25 5 (C.Tag (codes "copy")) (record { order = lit≤ tt; inside = lit≤ tt; octets_are = refl; skipped = refl }) (lit< tt) refl (tag_found (codes "copy \"c@d\";") (codes "copy") (codes "copy") 4 refl refl refl refl refl),
            (
              next copying (codes "\"c@d\";") 30 31 5 (C.Text (codes "c@d")) (record { order = lit≤ tt; inside = lit≤ tt; octets_are = refl; skipped = refl }) (lit< tt) refl (string_found (codes "c@d\";") (codes "c@d") 4 (lit≤ tt) refl),
              (
                next copying (codes ";") 36 36 1 (C.Mark K.Semicolon) (record { order = lit≤ tt; inside = lit≤ tt; octets_are = refl; skipped = refl }) (lit< tt) refl (mark_found (codes ";") 59 [] K.Semicolon refl refl),
                nothing,
              ),
            ),
          ),
        ),
      ),
    ),
  );
}

-- where a text of these tokens means a tree, there is no word and no tag among them that the grammar doesn't know
known_there : (tokens : List Token) → SpellsTokens copying tokens → (tree : Commands) → MeansIn without_copy copying tree → ReadsScript tree (read_in without_copy (contents_of tokens))
known_there tokens spelled tree means = subst (λ ts. ReadsScript tree (read_in without_copy (contents_of ts))) (sym (tokens_only copying tokens means.tokens spelled means.spelled)) means.read

-- it means to redirect and to keep the message, and means nothing where `copy` isn't offered: `:copy` is no tag of the grammar then
copies_offered : Means copying (command (require (codes "copy" ∷ [])) (redirecting true))
copies_offered = record {
  tokens = copying_tokens;
  spelled = copying_spelled;
  read = after_require (codes "copy") (redirecting true) (keyword W.Redirect ∷ copied) (alone (act (D.Redirect (record { target = target; copy = true }))) W.Redirect copied (ending W.Redirect (A.Tag T.Copy ∷ (A.Text (codes "c@d") ∷ [])) copied _
      (record { spelled = (text (codes "c@d") ∷ (mark K.Semicolon ∷ []), (refl, (mark K.Semicolon ∷ [], (refl, refl)))); all = tt })
      (record {
        value = record { target = target; copy = true };
        is = record {
          tag_values = S.Copy ∷ [];
          positional = A.Text (codes "c@d") ∷ [];
          split_tags = record { written = (A.Text (codes "c@d") ∷ [], ((refl, first_there P.Copy []), refl)); plain = tt; once = (λ none. none_there P.Copy none, tt) };
          says = record { text = codes "c@d"; is_text = refl; names = ([], names_target); copy = refl };
        };
        tree_is = refl;
      })));
  valid = record { known = one_known all_capabilities (codes "copy") refl; stand = (λ is. refl, tt); shallow = lit≤ tt };
}
  where
    copied : List Lexeme
    copied = tag T.Copy ∷ (text (codes "c@d") ∷ (mark K.Semicolon ∷ []))

copies_without : (tree : Commands) → MeansIn without_copy copying tree → ⊥
copies_without tree means =
    (script_known tree (read_in without_copy (contents_of copying_tokens)) (known_there copying_tokens copying_spelled tree means)).1.1.1.1.0
