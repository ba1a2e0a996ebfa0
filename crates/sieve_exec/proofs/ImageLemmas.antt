-- Texts that are asked once for each image.
use Rattle.std.proofs.Common.{◌≡◌, ℕ, Bool, true, false, cond, not, ◌||◌, List, [], ◌∷◌, ◌++◌, map, nat_eq, refl, sym, ap, ◌∙◌}
use Rattle.std.specs.List.{list_any}
use Rattle.std.specs.Char.{to_ascii_lowercase, to_ascii_uppercase}
use Rattle.std.specs.Ordering.{nat_cmp}
use Rattle.std.specs.Str.{bytes_eq}
use Rattle.std.specs.Cmp.Lexicographic.{pointwise, slice_cmp}
use Rattle.std.specs.BTreeSet.{BTreeSet, contains, Updates}
use Rattle.std.proofs.lemmas.List.Folds.{list_any-append}
use Rattle.std.proofs.lemmas.Map.Text.{is_eq-slice_cmp}
use Rattle.std.proofs.lemmas.Slice.Eq.{bytes_eq-Decides}
use Rattle.std.proofs.lemmas.Str.Ascii.{lowercase-uppercase}
use Rattle.octets.specs.Ascii.{lowered}
use Rattle.sieve_syntax.specs.declared.tree.checks.Collation.{Collation}
use Rattle.sieve_exec.specs.Images.{text_image, has_image, AreImages, GoesByImage, AnswerFor, AreApart}

or_last : (a b : Bool) → cond b true a ≡ (a || (b || false))
or_last true true = refl
or_last true false = refl
or_last false true = refl
or_last false false = refl

or_false : (a : Bool) → a ≡ (a || (false || false))
or_false true = refl
or_false false = refl

-- names that differ only in case are one in lower case
lower_upper : (name : List ℕ) → lowered (map to_ascii_uppercase name) ≡ lowered name
lower_upper [] = refl
lower_upper (octet ∷ rest) = ap (λ first. first ∷ lowered (map to_ascii_uppercase rest)) (lowercase-uppercase octet) ∙ ap (λ more. to_ascii_lowercase octet ∷ more) (lower_upper rest)

pub names_alike : (one other : List ℕ) → map to_ascii_uppercase one ≡ map to_ascii_uppercase other → lowered one ≡ lowered other
names_alike one other same = sym (lower_upper one) ∙ ap lowered same ∙ lower_upper other

module _ (collation : Collation) where
  -- the image of one text more is put into the set
  pub images_more : (before : List (List ℕ)) (text : List ℕ) (old new : BTreeSet (List ℕ))
      → AreImages collation before old → Updates (slice_cmp nat_cmp) old new (text_image collation text) true → AreImages collation (before ++ text ∷ []) new
  images_more before text old new are updates image =
      updates.0 image
      ∙ ap (λ same. cond same true (contains (slice_cmp nat_cmp) old image)) (is_eq-slice_cmp (text_image collation text) image)
      ∙ ap (λ there. cond (bytes_eq (text_image collation text) image) true there) (are image)
      ∙ or_last (has_image collation before image) (bytes_eq (text_image collation text) image)
      ∙ sym (list_any-append (λ one. pointwise nat_eq (text_image collation one) image) before (text ∷ []))

  -- a text that passes has company among those with its image
  passes_there : (test : List ℕ → Bool) (texts : List (List ℕ)) (text : List ℕ) → GoesByImage collation test → has_image collation texts (text_image collation text) ≡ true → test text ≡ true → list_any test texts ≡ true
  passes_there test [] text goes there passes = there
  passes_there test (one ∷ more) text goes there passes =
      split (pointwise nat_eq (text_image collation one) (text_image collation text)) refl there (λ later. passes_there test more text goes later passes)
    where
      or_true : (a : Bool) → (a || true) ≡ true
      or_true true = refl
      or_true false = refl

      split : (same : Bool) → pointwise nat_eq (text_image collation one) (text_image collation text) ≡ same → (same || has_image collation more (text_image collation text)) ≡ true
          → (has_image collation more (text_image collation text) ≡ true → list_any test more ≡ true) → (test one || list_any test more) ≡ true
      split true same there later = ap (λ b. b || list_any test more) (goes one text ((bytes_eq-Decides (text_image collation one) (text_image collation text)).0 same) ∙ passes)
      split false other there later = ap (λ b. test one || b) (later there) ∙ or_true (test one)

  -- a text with the image of one before it isn't asked
  pub answer_less : (before these : List (List ℕ)) (text : List ℕ) → AnswerFor collation before these → has_image collation before (text_image collation text) ≡ true → AnswerFor collation (before ++ text ∷ []) these
  answer_less before these text answer there test goes = answer test goes ∙ split (test text) refl ∙ sym (list_any-append test before (text ∷ []))
    where
      split : (passes : Bool) → test text ≡ passes → list_any test before ≡ (list_any test before || (test text || false))
      split true passes = let all = passes_there test before text goes there passes in all ∙ sym (ap (λ b. b || (test text || false)) all)
      split false fails = or_false (list_any test before) ∙ ap (λ b. list_any test before || (b || false)) (sym fails)

  -- another is
  pub answer_more : (before these : List (List ℕ)) (text : List ℕ) → AnswerFor collation before these → AnswerFor collation (before ++ text ∷ []) (these ++ text ∷ [])
  answer_more before these text answer test goes =
      list_any-append test these (text ∷ []) ∙ ap (λ b. b || (test text || false)) (answer test goes) ∙ sym (list_any-append test before (text ∷ []))

  same_back : (one other : List ℕ) → pointwise nat_eq one other ≡ false → pointwise nat_eq other one ≡ false
  same_back one other apart = split (pointwise nat_eq other one) refl
    where
      split : (same : Bool) → pointwise nat_eq other one ≡ same → same ≡ false
      split false _ = refl
      split true back = sym ((bytes_eq-Decides one other).1 (sym ((bytes_eq-Decides other one).0 back))) ∙ apart

  apart_more : (these : List (List ℕ)) (text : List ℕ) → AreApart collation these → has_image collation these (text_image collation text) ≡ false → AreApart collation (these ++ text ∷ [])
  apart_more [] text apart none = (refl, apart)
  apart_more (one ∷ more) text (alone, apart) none = (
    list_any-append (λ other. pointwise nat_eq (text_image collation other) (text_image collation one)) more (text ∷ [])
        ∙ both (has_image collation more (text_image collation one)) (pointwise nat_eq (text_image collation text) (text_image collation one)) alone
        (same_back (text_image collation one) (text_image collation text) (first (pointwise nat_eq (text_image collation one) (text_image collation text)) (has_image collation more (text_image collation text)) none)),
    apart_more more text apart (second (pointwise nat_eq (text_image collation one) (text_image collation text)) (has_image collation more (text_image collation text)) none),
  )
    where
      first : (a b : Bool) → (a || b) ≡ false → a ≡ false
      first false b none = refl
      first true b none = none

      second : (a b : Bool) → (a || b) ≡ false → b ≡ false
      second false b none = none
      second true b none = let no : ⊥ = cc in absurd no

      both : (a b : Bool) → a ≡ false → b ≡ false → (a || (b || false)) ≡ false
      both a b first_none next_none = ap (λ x. x || (b || false)) first_none ∙ ap (λ x. x || false) next_none

  -- a text with another image than those before it is apart from those that are asked
  pub still_apart : (before these : List (List ℕ)) (text : List ℕ) → AnswerFor collation before these → AreApart collation these → has_image collation before (text_image collation text) ≡ false → AreApart collation (these ++ text ∷ [])
  still_apart before these text answer apart none =
      apart_more these text apart
      (answer (λ one. pointwise nat_eq (text_image collation one) (text_image collation text)) (λ one other same. ap (λ image. pointwise nat_eq image (text_image collation text)) same) ∙ none)

  -- whether an image was put into the set says whether it wasn't there
  pub new_there : (before : List (List ℕ)) (images : BTreeSet (List ℕ)) (image : List ℕ) (added : Bool) → AreImages collation before images → added ≡ not (contains (slice_cmp nat_cmp) images image) → added ≡ not (has_image collation before image)
  new_there before images image added are put = put ∙ ap not (are image)
