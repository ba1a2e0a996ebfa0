-- Examples of the definitions: a right one and a near miss each.
use Rattle.std.proofs.Common.{◌≡◌, ℕ, [], ◌∷◌, ◌++◌, get_or, refl, ap, arith, lit<, lit≤}
use Rattle.std.specs.Prelude.{codes}
use Rattle.sieve_lex.specs.declared.token.Content.TheVariants.{Identifier, Number, Text}
use Rattle.sieve_lex.specs.declared.front.Front.{Front}
use Rattle.sieve_lex.specs.Shape.{IsQuotedString}
use Rattle.sieve_lex.specs.Shape.StringPiece.{Plain, Escaped, BareLineEnd}
use Rattle.sieve_lex.specs.Text.{IsScriptText}
use Rattle.sieve_lex.specs.Front.{IsFront}
use Rattle.sieve_lex.specs.Spelling.{IsToken}
use Rattle.sieve_lex.proofs.Best.{IsFound, best_only}
use Rattle.sieve_lex.proofs.Named.{identifier_best, identifier_found}
use Rattle.sieve_lex.proofs.Several.{several_found, several_none}
use Rattle.sieve_lex.specs.Space.{IsGap, IsTail}
use Rattle.sieve_lex.specs.Space.Space.{White, Bracketed}
use Rattle.sieve_lex.proofs.Numbered.{number_found, number_none}
use Rattle.sieve_lex.proofs.Strings.{string_none}

-- `keep` begins `keep;`, and `kee` is no token there
keep_found : IsFound (codes "keep;") (record { content = Identifier (codes "keep"); len = 4 })
keep_found = identifier_found (codes "keep;") (codes "keep") (codes ";") (codes "keep") 4 refl refl refl refl refl refl (λ t. let e : 107 ≡ 116 = ap (λ s. get_or s 0 0) t.0 in omega arith)

kee_none : IsToken (codes "keep;") (Identifier (codes "kee")) 3 → ⊥
kee_none t =
    let same : (3 ≡ 4) × (Identifier (codes "kee") ≡ Identifier (codes "keep")) = best_only (codes "keep;") (Identifier (codes "keep")) 4 (identifier_best (codes "keep;") refl (λ t. let e : 107 ≡ 116 = ap (λ s. get_or s 0 0) t.0 in omega arith)) (Identifier (codes "kee")) 3 t in
    cc (same.0)

-- `text` is an identifier before a blank, and nothing before a colon
text_found : IsFound (codes "text :x") (record { content = Identifier (codes "text"); len = 4 })
text_found = identifier_found (codes "text :x") (codes "text") (codes " :x") (codes "text") 4 refl refl refl refl refl refl (λ t. cc (t.1))

text_none : (g : Front) → IsFront (codes "TexT:") g → ⊥
text_none = several_none (codes "TexT:") [] refl refl refl

-- `text:` LF `..a` LF `.` stands for `.a` CRLF; before a dot and more it is open
several : IsFound (codes "text:" ++ (10 ∷ (46 ∷ (46 ∷ (97 ∷ (10 ∷ (46 ∷ []))))))) (record { content = Text (46 ∷ (97 ∷ (13 ∷ (10 ∷ [])))); len = 11 })
several = several_found (codes "text:" ++ (10 ∷ (46 ∷ (46 ∷ (97 ∷ (10 ∷ (46 ∷ []))))))) (10 ∷ (46 ∷ (46 ∷ (97 ∷ (10 ∷ (46 ∷ [])))))) (46 ∷ (97 ∷ (13 ∷ (10 ∷ [])))) 6 refl refl (lit≤ tt) refl

several_open : (g : Front) → IsFront (codes "text:" ++ (10 ∷ (46 ∷ (120 ∷ [])))) g → ⊥
several_open = several_none (codes "text:" ++ (10 ∷ (46 ∷ (120 ∷ [])))) (10 ∷ (46 ∷ (120 ∷ []))) refl refl refl

differ : (a b : ℕ) → a ≡ 42 → b ≡ 47 → a ≡ b → ⊥
differ a b p q e = omega arith

none : (a b : ℕ) → a ≡ 0 → b ≡ 47 → a ≡ b → ⊥
none a b p q e = omega arith

-- `/***/ ` is white space before a token; `#` and more is white space at the end of the text alone
gap : IsGap (codes "/***/ ")
gap = record { pieces = Bracketed (codes "*") ∷ (White 32 ∷ []); each = ((λ _ e. differ 42 47 refl refl e, (λ _ e. none 0 47 refl refl e, tt)), (refl, tt)); spelled = refl }

tail : IsTail (codes " #a")
tail = record { pieces = White 32 ∷ []; last = codes "#a"; each = (refl, tt); comment = (refl, refl); spelled = refl }

-- the greatest number with a multiplier, and the first one that is too large
number_taken : IsFound (codes "8589934591G;") (record { content = Number 9223372035781033984; len = 11 })
number_taken = number_found (codes "8589934591G;") (codes "8589934591") (codes "G;") 10 1 1073741824 9223372035781033984 refl refl refl refl refl refl (lit≤ tt) refl refl (lit< tt)

number_refused : (g : Front) → IsFront (codes "8589934592G;") g → ⊥
number_refused = number_none (codes "8589934592G;") (codes "8589934592") (codes "G;") 10 1 1073741824 refl refl refl refl refl (lit≤ tt) refl (lit≤ tt)

-- `"a\"` LF `"` stands for `a"` CRLF; `"a\"` alone is no string
quoted : IsQuotedString (34 ∷ (97 ∷ (92 ∷ (34 ∷ (10 ∷ (34 ∷ [])))))) (97 ∷ (34 ∷ (13 ∷ (10 ∷ []))))
quoted = record { pieces = Plain 97 ∷ (Escaped 34 ∷ (BareLineEnd ∷ [])); each = ((refl, refl, refl, refl), ((refl, refl, refl), (tt, tt))); spelled = refl; valued = refl }

unquoted : (g : Front) → IsFront (34 ∷ (97 ∷ (92 ∷ (34 ∷ [])))) g → ⊥
unquoted g t = string_none (97 ∷ (92 ∷ (34 ∷ []))) refl g.content g.len _ t.shape

apart : (a b : ℕ) → a ≡ 0 → b ≡ 10 → a ≡ b → ⊥
apart a b p q e = omega arith

-- a CR at the end is in no text
lone_return : IsScriptText (13 ∷ []) → ⊥
lone_return t = apart 0 10 refl refl (t.octets.no_lone_cr 0 refl)
