-- One step of a scan for the end of a comment, a quoted string or a literal.
use Rattle.std.proofs.Common.{◌≡◌, ℕ, zero, suc, ◌+◌, ◌-◌, ◌<◌, ◌==◌, true, false, Some, List, ◌∷◌, drop, get_or, length, refl, ap, ◌∙◌, eq-eqb, sub-one}
use Rattle.std.proofs.lemmas.List.{drop_more}
use Rattle.std.proofs.lemmas.Bool.{ne_eqb}
use Rattle.mail_address.specs.Reading.{after_close, after_comment}

pub at_backslash : (depth octet : ℕ) (more : List ℕ) → (octet == 92) ≡ true → after_comment depth false (octet ∷ more) ≡ after_comment depth true more
at_backslash zero octet more slash = rw slash
at_backslash (suc depth) octet more slash = rw slash

pub at_opening : (depth octet : ℕ) (more : List ℕ) → (octet == 92) ≡ false → (octet == 40) ≡ true → after_comment depth false (octet ∷ more) ≡ after_comment (suc depth) false more
at_opening zero octet more plain opens = rw (plain, opens)
at_opening (suc depth) octet more plain opens = rw (plain, opens)

at_closing : (depth octet : ℕ) (more : List ℕ) → (depth ≡ 0 → ⊥) → (octet == 92) ≡ false → (octet == 40) ≡ false → (octet == 41) ≡ true → after_comment depth false (octet ∷ more) ≡ after_comment (depth - 1) false more
at_closing zero octet more inner plain same closes = absurd (inner refl)
at_closing (suc depth) octet more inner plain same closes = rw (plain, same, closes, sub-one)

at_end : (octet : ℕ) (more : List ℕ) → (octet == 92) ≡ false → (octet == 40) ≡ false → (octet == 41) ≡ true → after_comment 0 false (octet ∷ more) ≡ Some more
at_end octet more plain same closes = rw (plain, same, closes)

pub at_other : (depth octet : ℕ) (more : List ℕ) → (octet == 92) ≡ false → (octet == 40) ≡ false → (octet == 41) ≡ false → after_comment depth false (octet ∷ more) ≡ after_comment depth false more
at_other zero octet more plain same within = rw (plain, same, within)
at_other (suc depth) octet more plain same within = rw (plain, same, within)

passed_backslash : (close octet : ℕ) (more : List ℕ) → (octet == close) ≡ false → (octet == 92) ≡ true → after_close close false (octet ∷ more) ≡ after_close close true more
passed_backslash close octet more within slash = rw (within, slash)

passed_other : (close octet : ℕ) (more : List ℕ) → (octet == close) ≡ false → (octet == 92) ≡ false → after_close close false (octet ∷ more) ≡ after_close close false more
passed_other close octet more within plain = rw (within, plain)

module _ (text : List ℕ) (i : ℕ) (inside : i < length text) where
  pub pair_step : (depth : ℕ) → after_comment depth true (drop i text) ≡ after_comment depth false (drop (i + 1) text)
  pair_step depth = ap (after_comment depth true) (drop_more text i 0 inside)

  pub backslash_step : (depth : ℕ) → get_or text i 0 ≡ 92 → after_comment depth false (drop i text) ≡ after_comment depth true (drop (i + 1) text)
  backslash_step depth is = ap (after_comment depth false) (drop_more text i 0 inside) ∙ at_backslash depth _ (drop (i + 1) text) (eq-eqb _ _ is)

  pub opening_step : (depth : ℕ) → (get_or text i 0 ≡ 92 → ⊥) → get_or text i 0 ≡ 40 → after_comment depth false (drop i text) ≡ after_comment (suc depth) false (drop (i + 1) text)
  opening_step depth plain is = ap (after_comment depth false) (drop_more text i 0 inside) ∙ at_opening depth _ (drop (i + 1) text) (ne_eqb _ _ plain) (eq-eqb _ _ is)

  pub closing_step : (depth : ℕ) → (depth ≡ 0 → ⊥) → (get_or text i 0 ≡ 92 → ⊥) → (get_or text i 0 ≡ 40 → ⊥) → get_or text i 0 ≡ 41 → after_comment depth false (drop i text) ≡ after_comment (depth - 1) false (drop (i + 1) text)
  closing_step depth inner plain same is = ap (after_comment depth false) (drop_more text i 0 inside) ∙ at_closing depth _ (drop (i + 1) text) inner (ne_eqb _ _ plain) (ne_eqb _ _ same) (eq-eqb _ _ is)

  pub other_step : (depth : ℕ) → (get_or text i 0 ≡ 92 → ⊥) → (get_or text i 0 ≡ 40 → ⊥) → (get_or text i 0 ≡ 41 → ⊥) → after_comment depth false (drop i text) ≡ after_comment depth false (drop (i + 1) text)
  other_step depth plain same within = ap (after_comment depth false) (drop_more text i 0 inside) ∙ at_other depth _ (drop (i + 1) text) (ne_eqb _ _ plain) (ne_eqb _ _ same) (ne_eqb _ _ within)

  pub pair_passed : (close : ℕ) → after_close close true (drop i text) ≡ after_close close false (drop (i + 1) text)
  pair_passed close = ap (after_close close true) (drop_more text i 0 inside)

  pub backslash_passed : (close : ℕ) → (get_or text i 0 ≡ close → ⊥) → get_or text i 0 ≡ 92 → after_close close false (drop i text) ≡ after_close close true (drop (i + 1) text)
  backslash_passed close within is = ap (after_close close false) (drop_more text i 0 inside) ∙ passed_backslash close _ (drop (i + 1) text) (ne_eqb _ _ within) (eq-eqb _ _ is)

  pub other_passed : (close : ℕ) → (get_or text i 0 ≡ close → ⊥) → (get_or text i 0 ≡ 92 → ⊥) → after_close close false (drop i text) ≡ after_close close false (drop (i + 1) text)
  other_passed close within plain = ap (after_close close false) (drop_more text i 0 inside) ∙ passed_other close _ (drop (i + 1) text) (ne_eqb _ _ within) (ne_eqb _ _ plain)
