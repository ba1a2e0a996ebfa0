-- Which token an octet begins.
use Rattle.std.proofs.Common.{◌≡◌, ℕ, ◌<◌, ◌≤◌, suc, zero, true, false, List, [], ◌∷◌, ◌++◌, length, take, get_or, refl, ap, sym, inl, inr, subst, arith}
use Rattle.std.specs.List.{list_all, flat_map}
use Rattle.std.specs.Prelude.{codes}
use Rattle.std.specs.Char.{to_ascii_lowercase}
use Rattle.std.proofs.lemmas.Bool.Decides.{nat_tests}
use Rattle.octets.specs.Ascii.{is_digit, lowered}
use Rattle.sieve_lex.specs.declared.token.Content.{Content}
use Rattle.sieve_lex.specs.declared.token.Content.TheVariants.{Identifier, Tag, Number, Text}
use Rattle.sieve_lex.specs.declared.token.Content.TheVariants as C
use Rattle.sieve_lex.specs.declared.token.Mark.{Mark}
use Rattle.sieve_lex.specs.declared.class.Class.TheVariants.{Letter, Digit, Colon, Quote}
use Rattle.sieve_lex.specs.declared.class.Class.TheVariants as Class
use Rattle.sieve_lex.specs.Class.{is_name_start, octet_class_of}
use Rattle.sieve_lex.specs.Shape.{IsTokenShape, IsQuotedString, spelling_of}
use Rattle.sieve_lex.proofs.Prefixes.{both}

-- no digit begins a name
pub digit_no_start : (b : ℕ) → is_digit b ≡ true → is_name_start b ≡ false
digit_no_start b h = grind (arith, nat_tests)

pub class_start : (b : ℕ) → is_name_start b ≡ true → octet_class_of b ≡ Letter
class_start b h = rw h refl

pub class_digit : (b : ℕ) → is_digit b ≡ true → octet_class_of b ≡ Digit
class_digit b h = let no : is_name_start b ≡ false = digit_no_start b h in rw (no, h) refl

-- what stands where this octet begins a token
pub data Opens (b : ℕ) (v : Content) : Type 0 where
  Named : (name : List ℕ) → is_name_start b ≡ true → octet_class_of b ≡ Letter → v ≡ Identifier name → Opens b v
  Numbered : (n : ℕ) → is_digit b ≡ true → octet_class_of b ≡ Digit → v ≡ Number n → Opens b v
  Tagged : (name : List ℕ) → b ≡ 58 → octet_class_of b ≡ Colon → v ≡ Tag name → Opens b v
  Worded : (value : List ℕ) → is_name_start b ≡ true → octet_class_of b ≡ Letter → v ≡ Text value → Opens b v
  Quoted : (value : List ℕ) → b ≡ 34 → octet_class_of b ≡ Quote → v ≡ Text value → Opens b v
  Marked : (mark : Mark) → octet_class_of b ≡ Class.Mark mark → v ≡ C.Mark mark → Opens b v

-- a spelling is not empty, and its first octet tells what it is
pub record IsOpened (v : Content) (s : List ℕ) : Type 0 where
  pub first : ℕ
  pub more : List ℕ
  pub spelled : s ≡ first ∷ more
  pub opens : Opens first v

number_opened : (s : List ℕ) (n : ℕ) (digits letter : List ℕ) → s ≡ digits ++ letter → (digits ≡ [] → ⊥) → list_all is_digit digits ≡ true → IsOpened (Number n) s
number_opened s n [] letter e some all = absurd (some refl)
number_opened s n (b ∷ digits) letter e some all =
    let parts : (is_digit b ≡ true) × (list_all is_digit digits ≡ true) = both _ _ all in
    record { first = b; more = digits ++ letter; spelled = e; opens = Numbered n parts.0 (class_digit b parts.0) refl }

-- a letter of either case
pub letter_start : (b n : ℕ) → to_ascii_lowercase b ≡ n → 97 ≤ n → n < 123 → is_name_start b ≡ true
letter_start b n h low high = grind (arith, nat_tests)

-- `t` or `T`
word_start : (b : ℕ) → to_ascii_lowercase b ≡ 116 → is_name_start b ≡ true
word_start b h = letter_start b 116 h (omega arith) (omega arith)

word_opened : (value s word tail : List ℕ) → lowered word ≡ codes "text:" → s ≡ word ++ tail → IsOpened (Text value) s
word_opened value s [] tail h e = absurd (let z : zero ≡ suc (suc (suc (suc (suc zero)))) = ap length h in omega arith)
word_opened value s (b ∷ word) tail h e =
    let start : is_name_start b ≡ true = word_start b (ap (λ x. get_or x 0 0) h) in
    record { first = b; more = word ++ tail; spelled = e; opens = Worded value start (class_start b start) refl }

quote_no_word : (word tail s : List ℕ) → lowered word ≡ codes "text:" → 34 ∷ s ≡ word ++ tail → ⊥
quote_no_word [] tail s h e = let z : zero ≡ suc (suc (suc (suc (suc zero)))) = ap length h in omega arith
quote_no_word (b ∷ word) tail s h e =
    let first : 34 ≡ b = ap (λ x. get_or x 0 0) e in
    let start : is_name_start b ≡ true = word_start b (ap (λ x. get_or x 0 0) h) in
    let P : ℕ → Type 0 = λ x. is_name_start x ≡ true in
    let z : is_name_start 34 ≡ true = subst P (sym first) start in
    cc

-- where a quotation mark stands first a string is a quoted one
pub quoted_shape : (value s rest : List ℕ) → IsTokenShape (Text value) (34 ∷ s) rest → IsQuotedString (34 ∷ s) value
quoted_shape value s rest (inl q) = q
quoted_shape value s rest (inr m) =
    absurd (quote_no_word m.word _ s m.named m.spelled)

pub shape_opened : (v : Content) (s rest : List ℕ) → IsTokenShape v s rest → IsOpened v s
shape_opened (C.Mark mark) s rest h = record { first = h.0; more = []; spelled = h.1.1; opens = Marked mark h.1.0 refl }
shape_opened (Identifier []) s rest h = absurd h.1
shape_opened (Identifier (b ∷ name)) s rest h = record { first = b; more = name; spelled = h.0; opens = Named (b ∷ name) h.1.0 (class_start b h.1.0) refl }
shape_opened (Tag name) s rest h = record { first = 58; more = name; spelled = h.0; opens = Tagged name refl refl refl }
shape_opened (Text value) s rest h = elim h [
  | inl q ↦ record { first = 34; more = flat_map spelling_of q.pieces ++ 34 ∷ []; spelled = q.spelled; opens = Quoted value refl refl refl }
  | inr m ↦ word_opened value s m.word _ m.named m.spelled
]
shape_opened (Number n) s rest h = number_opened s n h.digits h.letter h.spelled h.present h.decimal

-- the same of a front of a text
pub front_opened : (b : ℕ) (more : List ℕ) (v : Content) (m : ℕ) (rest : List ℕ) → IsTokenShape v (take m (b ∷ more)) rest → (0 < m) × Opens b v
front_opened b more v zero rest h = let o : IsOpened v [] = shape_opened v _ rest h in absurd (let e : [] ≡ o.first ∷ o.more = o.spelled in cc)
front_opened b more v (suc m) rest h =
    let o : IsOpened v (b ∷ take m more) = shape_opened v _ rest h in
    let e : b ∷ take m more ≡ o.first ∷ o.more = o.spelled in
    let same : o.first ≡ b = cc in
    let P : ℕ → Type 0 = λ x. Opens x v in
    (omega arith, subst P same o.opens)

-- a shape whose content is known
pub shape_at : (v w : Content) (s rest : List ℕ) → v ≡ w → IsTokenShape v s rest → IsTokenShape w s rest
shape_at v w s rest e h =
    let P : Content → Type 0 = λ x. IsTokenShape x s rest in
    subst P e h
