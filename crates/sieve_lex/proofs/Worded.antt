-- The word that begins a string of several lines.
use Rattle.std.proofs.Common.{◌≡◌, ℕ, suc, zero, true, Some, List, [], ◌∷◌, ◌++◌, length, take, drop, get_or, refl, ap, sym, ◌∙◌, subst, arith, append_assoc}
use Rattle.std.specs.Prelude.{codes}
use Rattle.std.specs.Char.{to_ascii_lowercase}
use Rattle.std.specs.List.{flat_map, prefix_len}
use Rattle.std.proofs.lemmas.List.{length-map, take_at, drop_at}
use Rattle.std.proofs.lemmas.Bool.Decides.{nat_tests}
use Rattle.octets.specs.Ascii.{lowered}
use Rattle.sieve_lex.specs.declared.token.Content.TheVariants.{Identifier}
use Rattle.sieve_lex.specs.declared.multiline.BodyState.TheVariants.{Opening}
use Rattle.sieve_lex.specs.Class.{is_name_octet, is_name_start}
use Rattle.sieve_lex.specs.Body.{body_from}
use Rattle.sieve_lex.specs.Lines.{IsMultiline, body_line_end, line_spelling}
use Rattle.sieve_lex.specs.Spelling.{OpensText}
use Rattle.sieve_lex.proofs.Prefixes.{front_of}
use Rattle.sieve_lex.proofs.Opening.{letter_start}
use Rattle.sieve_lex.proofs.Bodies.{opening_again, lines_again}

-- the word and its colon stand first
pub record IsWord (octets : List ℕ) : Type 0 where
  pub a : ℕ
  pub b : ℕ
  pub c : ℕ
  pub d : ℕ
  pub more : List ℕ
  pub octets_are : octets ≡ a ∷ (b ∷ (c ∷ (d ∷ (58 ∷ more))))
  pub named : lowered (a ∷ (b ∷ (c ∷ (d ∷ [])))) ≡ codes "text"
  pub a_starts : is_name_start a ≡ true
  pub b_starts : is_name_start b ≡ true
  pub c_starts : is_name_start c ≡ true
  pub d_starts : is_name_start d ≡ true

colon_is : (e : ℕ) → to_ascii_lowercase e ≡ 58 → e ≡ 58
colon_is e h = grind (arith, nat_tests)

pub short : (s : List ℕ) → lowered s ≡ codes "text:" → length s ≡ 5
short s h = sym (length-map s to_ascii_lowercase) ∙ ap length h

-- the word in five octets
pub word_is : (octets : List ℕ) → lowered (take 5 octets) ≡ codes "text:" → IsWord octets
word_is [] h = absurd (let z : zero ≡ 5 = short [] h in omega arith)
word_is (a ∷ []) h = absurd (let z : suc zero ≡ 5 = short (a ∷ []) h in omega arith)
word_is (a ∷ (b ∷ [])) h = absurd (let z : suc (suc zero) ≡ 5 = short (a ∷ (b ∷ [])) h in omega arith)
word_is (a ∷ (b ∷ (c ∷ []))) h = absurd (let z : suc (suc (suc zero)) ≡ 5 = short (a ∷ (b ∷ (c ∷ []))) h in omega arith)
word_is (a ∷ (b ∷ (c ∷ (d ∷ [])))) h = absurd (let z : suc (suc (suc (suc zero))) ≡ 5 = short (a ∷ (b ∷ (c ∷ (d ∷ [])))) h in omega arith)
word_is (a ∷ (b ∷ (c ∷ (d ∷ (e ∷ more))))) h = record {
  a = a;
  b = b;
  c = c;
  d = d;
  more = more;
  octets_are = ap (λ x. a ∷ (b ∷ (c ∷ (d ∷ (x ∷ more))))) (colon_is e (ap (λ x. get_or x 4 0) h));
  named = ap (take 4) h;
  a_starts = letter_start a 116 (ap (λ x. get_or x 0 0) h) (omega arith) (omega arith);
  b_starts = letter_start b 101 (ap (λ x. get_or x 1 0) h) (omega arith) (omega arith);
  c_starts = letter_start c 120 (ap (λ x. get_or x 2 0) h) (omega arith) (omega arith);
  d_starts = letter_start d 116 (ap (λ x. get_or x 3 0) h) (omega arith) (omega arith);
}

start_octet : (b : ℕ) → is_name_start b ≡ true → is_name_octet b ≡ true
start_octet b h = rw h refl

-- a name ends before the colon
pub word_len : (octets : List ℕ) → IsWord octets → prefix_len is_name_octet octets ≡ 4
word_len octets w =
    let a : is_name_octet w.a ≡ true = start_octet w.a w.a_starts in
    let b : is_name_octet w.b ≡ true = start_octet w.b w.b_starts in
    let c : is_name_octet w.c ≡ true = start_octet w.c w.c_starts in
    let d : is_name_octet w.d ≡ true = start_octet w.d w.d_starts in
    ap (prefix_len is_name_octet) w.octets_are ∙ (rw (a, b, c, d) refl)

pub word_opens : (octets : List ℕ) → IsWord octets → OpensText (Identifier (take (prefix_len is_name_octet octets) octets)) (drop (prefix_len is_name_octet octets) octets)
word_opens octets w =
    let P : ℕ → Type 0 = λ i. OpensText (Identifier (take i octets)) (drop i octets) in
    let Q : List ℕ → Type 0 = λ x. OpensText (Identifier (take 4 x)) (drop 4 x) in
    subst P (sym (word_len octets w)) (subst Q (sym w.octets_are) (w.named, refl))

-- what a string of several lines is before what follows it
multi_whole : (octets value : List ℕ) (m : ℕ) (s : IsMultiline (take m octets) value (drop m octets))
    → octets ≡ s.word ++ (s.blanks ++ (s.comment ++ (body_line_end s.bare ++ (flat_map line_spelling s.lines ++ (46 ∷ (s.final ++ drop m octets))))))
multi_whole octets value m s = front_of octets _ m s.spelled ∙ (simp append_assoc)

pub multi_word : (octets value : List ℕ) (m : ℕ) → IsMultiline (take m octets) value (drop m octets) → lowered (take 5 octets) ≡ codes "text:"
multi_word octets value m s = ap (λ x. lowered (take 5 x)) (multi_whole octets value m s) ∙ ap lowered (take_at s.word _ 5 (short s.word s.named)) ∙ s.named

-- it is read from the left
pub multi_again : (octets value : List ℕ) (m : ℕ) → IsMultiline (take m octets) value (drop m octets) → body_from Opening (drop 5 octets) ≡ Some (value, drop m octets)
multi_again octets value m s =
    ap (λ x. body_from Opening (drop 5 x)) (multi_whole octets value m s) ∙ ap (body_from Opening) (drop_at s.word _ 5 (short s.word s.named))
    ∙ opening_again s.blanks s.comment s.bare _ s.blank s.commented ∙ lines_again s.lines s.final (drop m octets) s.each s.ends
    ∙ ap (λ x. Some (x, drop m octets)) (sym s.valued)
