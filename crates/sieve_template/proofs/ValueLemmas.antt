-- What is written for the octets of a text, one by one, and where it is cut.
use Rattle.std.proofs.Common.{refl, ◌≡◌, ℕ, ◌+◌, ◌<◌, ◌≤◌, ◌==◌, ◌||◌, ◌&&◌, Bool, true, false, cond, nat_lt, nat_le, List, [], ◌∷◌, ◌++◌, length, take, drop, get_or, sym, ap, subst, ◌∙◌, ⊎_elim, arith, length-append}
use Rattle.std.proofs.lemmas.List.{take_more, take-append-drop, take-take, append-nil}
use Rattle.std.proofs.lemmas.List.Concat.{flat_map-append}
use Rattle.std.proofs.lemmas.List.Sums.{sum_by-append}
use Rattle.std.proofs.lemmas.Bool.{cases_lt, cases_eq, or_cases, eqb-true, lt-ltb, both_ways, or_left}
use Rattle.sieve_template.specs.Values.{begins_character, character_count, is_wildcard, quoted_wildcard, written_text_as, FitsVariable, EndsCharacter, IsCutAt}

-- what is written for one octet
abbrev pub written_octet_as : Bool → ℕ → List ℕ
written_octet_as quote x = cond quote (quoted_wildcard x) (x ∷ [])

written-append : (quote : Bool) (a b : List ℕ) → written_text_as quote (a ++ b) ≡ written_text_as quote a ++ written_text_as quote b
written-append true a b = flat_map-append quoted_wildcard a b
written-append false a b = refl

written-one : (quote : Bool) (x : ℕ) → written_text_as quote (x ∷ []) ≡ written_octet_as quote x
written-one true x = append-nil (quoted_wildcard x)
written-one false x = refl

-- one octet more
pub written-more : (quote : Bool) (t : List ℕ) (i : ℕ) → i < length t
    → written_text_as quote (take (i + 1) t) ≡ written_text_as quote (take i t) ++ written_octet_as quote (get_or t i 0)
written-more quote t i inside =
    ap (written_text_as quote) (take_more t i 0 inside) ∙ written-append quote (take i t) (get_or t i 0 ∷ [])
    ∙ ap (λ l. written_text_as quote (take i t) ++ l) (written-one quote (get_or t i 0))

count-append : (a b : List ℕ) → character_count (a ++ b) ≡ character_count a + character_count b
count-append a b = sum_by-append (λ x. cond (begins_character x) 1 0) a b

one_octet-length : (w : Bool) (x : ℕ) → length (cond w (92 ∷ x ∷ []) (x ∷ [])) ≡ cond w 2 1
one_octet-length true x = refl
one_octet-length false x = refl

-- how many octets are written for one
written-length : (quote : Bool) (x : ℕ) → length (written_octet_as quote x) ≡ cond (quote && is_wildcard x) 2 1
written-length true x = one_octet-length (is_wildcard x) x
written-length false x = refl

one_octet-count : (w : Bool) (x : ℕ) → begins_character x ≡ true → character_count (cond w (92 ∷ x ∷ []) (x ∷ [])) ≡ cond w 2 1
one_octet-count true x begins = ap (λ b. 0 + 1 + cond b 1 0) begins
one_octet-count false x begins = ap (λ b. 0 + cond b 1 0) begins

-- and how many characters
written-count : (quote : Bool) (x : ℕ) → begins_character x ≡ true → character_count (written_octet_as quote x) ≡ cond (quote && is_wildcard x) 2 1
written-count true x begins = one_octet-count (is_wildcard x) x begins
written-count false x begins = ap (λ b. 0 + cond b 1 0) begins

-- a wildcard is an octet of ASCII
wildcard_begins : (x : ℕ) → is_wildcard x ≡ true → begins_character x ≡ true
wildcard_begins x w =
    let small : x < 128 = ⊎_elim
    (λ first. ⊎_elim (λ star. omega (arith, eqb-true x 42 star)) (λ mark. omega (arith, eqb-true x 63 mark)) (or_cases (x == 42) (x == 63) first))
    (λ slash. omega (arith, eqb-true x 92 slash))
    (or_cases (x == 42 || x == 63) (x == 92) w) in
    or_left (nat_lt x 128) (nat_le 192 x) (lt-ltb x 128 small)

one_octet-none : (w : Bool) (x : ℕ) → (w ≡ true → begins_character x ≡ true) → begins_character x ≡ false → character_count (cond w (92 ∷ x ∷ []) (x ∷ [])) ≡ 0
one_octet-none true x begins none = absurd (both_ways (begins_character x) none (begins refl))
one_octet-none false x begins none = ap (λ b. 0 + cond b 1 0) none

written-none : (quote : Bool) (x : ℕ) → begins_character x ≡ false → character_count (written_octet_as quote x) ≡ 0
written-none true x none = one_octet-none (is_wildcard x) x (wildcard_begins x) none
written-none false x none = ap (λ b. 0 + cond b 1 0) none

module _ (quote : Bool) (t : List ℕ) (i : ℕ) (inside : i < length t) where
  -- the counts with one octet more
  pub octets_more : length (written_text_as quote (take (i + 1) t)) ≡ length (written_text_as quote (take i t)) + cond (quote && is_wildcard (get_or t i 0)) 2 1
  octets_more = ap length (written-more quote t i inside) ∙ length-append (written_text_as quote (take i t)) (written_octet_as quote (get_or t i 0))
      ∙ ap (λ n. length (written_text_as quote (take i t)) + n) (written-length quote (get_or t i 0))

  pub characters_more : begins_character (get_or t i 0) ≡ true
      → character_count (written_text_as quote (take (i + 1) t)) ≡ character_count (written_text_as quote (take i t)) + cond (quote && is_wildcard (get_or t i 0)) 2 1
  characters_more begins = ap character_count (written-more quote t i inside) ∙ count-append (written_text_as quote (take i t)) (written_octet_as quote (get_or t i 0))
      ∙ ap (λ n. character_count (written_text_as quote (take i t)) + n) (written-count quote (get_or t i 0) begins)

  pub characters_same : begins_character (get_or t i 0) ≡ false → character_count (written_text_as quote (take (i + 1) t)) ≡ character_count (written_text_as quote (take i t))
  characters_same none = ap character_count (written-more quote t i inside) ∙ count-append (written_text_as quote (take i t)) (written_octet_as quote (get_or t i 0))
      ∙ omega (arith, written-none quote (get_or t i 0) none)

-- a longer beginning has no fewer octets and characters
beginning : (t : List ℕ) (i k : ℕ) → i ≤ k → take k t ≡ take i t ++ drop i (take k t)
beginning t i k low = sym (take-append-drop i (take k t)) ∙ ap (λ l. l ++ drop i (take k t)) (take-take i k t low)

written_longer : (quote : Bool) (t : List ℕ) (i k : ℕ) → i ≤ k → written_text_as quote (take k t) ≡ written_text_as quote (take i t) ++ written_text_as quote (drop i (take k t))
written_longer quote t i k low = ap (written_text_as quote) (beginning t i k low) ∙ written-append quote (take i t) (drop i (take k t))

pub shorter_fits : (quote : Bool) (t : List ℕ) (i k : ℕ) → i ≤ k → FitsVariable (written_text_as quote (take k t)) → FitsVariable (written_text_as quote (take i t))
shorter_fits quote t i k low fits =
    let whole = written_longer quote t i k low in
    let front : List ℕ = written_text_as quote (take i t) in
    let back : List ℕ = written_text_as quote (drop i (take k t)) in
    record {
      octets = omega (arith, fits.octets, ap length whole, length-append front back);
      characters = omega (arith, fits.characters, ap character_count whole, count-append front back);
    }

-- where a text is cut that has an octet too much
pub cut_before : (quote : Bool) (t : List ℕ) (i end : ℕ) → i < length t → end ≤ i → EndsCharacter t end → ((k : ℕ) → end < k → k ≤ i → begins_character (get_or t k 0) ≡ false)
    → FitsVariable (written_text_as quote (take i t)) → (FitsVariable (written_text_as quote (take (i + 1) t)) → ⊥) → IsCutAt quote t end
cut_before quote t i end inside low whole between fits over = record {
  within = omega arith;
  whole = whole;
  fits = shorter_fits quote t end i low fits;
  longest = λ k within ends kept. ⊎_elim
      (λ (later : end < k). ⊎_elim
      (λ (past : i < k). absurd (over (shorter_fits quote t (i + 1) k (omega arith) kept)))
      (λ (before : k ≤ i). absurd (both_ways (begins_character (get_or t k 0)) (between k later before) (ends (omega arith) (omega arith))))
      (cases_lt i k))
      (λ small. small)
      (cases_lt end k);
}

-- a text that a variable holds isn't cut
pub cut_nowhere : (quote : Bool) (t : List ℕ) (n : ℕ) → n ≡ length t → FitsVariable (written_text_as quote (take n t)) → IsCutAt quote t n
cut_nowhere quote t n e fits = record {
  within = omega arith;
  whole = λ some inside. absurd (omega arith);
  fits = fits;
  longest = λ k within ends kept. omega arith;
}

-- the last place at which no character goes on, with one octet more
pub between_more : (t : List ℕ) (i end : ℕ) → ((k : ℕ) → end < k → k < i → begins_character (get_or t k 0) ≡ false) → begins_character (get_or t i 0) ≡ false
    → (k : ℕ) → end < k → k ≤ i → begins_character (get_or t k 0) ≡ false
between_more t i end before here k low high = ⊎_elim
    (λ same. subst (λ n. begins_character (get_or t n 0) ≡ false) (sym same) here)
    (λ other. before k low (omega arith))
    (cases_eq k i)
