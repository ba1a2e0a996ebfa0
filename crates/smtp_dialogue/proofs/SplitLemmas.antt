-- Texts by their parts between marks.
use Rattle.std.proofs.Common.{◌≡◌, ℕ, ◌==◌, ◌&&◌, not, Bool, true, false, List, [], ◌∷◌, refl, ap, ◌∙◌, sym}
use Rattle.std.specs.List.{list_all, slice_split, onto_first}
use Rattle.smtp_dialogue.proofs.MailboxLemmas.{both}

pub all_by : (p q : ℕ → Bool) → ((octet : ℕ) → p octet ≡ true → q octet ≡ true) → (text : List ℕ) → list_all p text ≡ true → list_all q text ≡ true
all_by p q by [] each = refl
all_by p q by (octet ∷ text) each =
    let here = both (p octet) (list_all p text) each in
    rw (by octet here.0) (all_by p q by text here.1)

pub each_by : (p : ℕ → Bool) (A : List ℕ → Bool) → ((part : List ℕ) → A part ≡ true → list_all p part ≡ true) → (parts : List (List ℕ)) → list_all A parts ≡ true → list_all (list_all p) parts ≡ true
each_by p A by [] each = refl
each_by p A by (part ∷ parts) each =
    let here = both (A part) (list_all A parts) each in
    rw (by part here.0) (each_by p A by parts here.1)

module _ (mark p : ℕ → Bool) (by_mark : (octet : ℕ) → mark octet ≡ true → p octet ≡ true) where
  joins : (octet : ℕ) (parts : List (List ℕ)) → list_all (list_all p) (onto_first octet parts) ≡ true → (p octet ≡ true) × (list_all (list_all p) parts ≡ true)
  joins octet [] each = let here = both (list_all p (octet ∷ [])) true each in ((both (p octet) true here.0).0, refl)
  joins octet (part ∷ parts) each =
      let here = both (list_all p (octet ∷ part)) (list_all (list_all p) parts) each in
      let first = both (p octet) (list_all p part) here.0 in
      (first.0, rw first.1 here.1)

  split_by : (octet : ℕ) (text : List ℕ) (is : Bool) → mark octet ≡ is → list_all (list_all p) (slice_split mark (octet ∷ text)) ≡ true
      → (p octet ≡ true) × (list_all (list_all p) (slice_split mark text) ≡ true)
  split_by octet text true test each =
      let here : list_all (list_all p) ([] ∷ slice_split mark text) ≡ true = rw test at each in
      (by_mark octet test, here)
  split_by octet text false test each =
      let here : list_all (list_all p) (onto_first octet (slice_split mark text)) ≡ true = rw test at each in
      joins octet (slice_split mark text) here

  -- what holds of marks and of all octets between them holds of all
  pub split_all : (text : List ℕ) → list_all (list_all p) (slice_split mark text) ≡ true → list_all p text ≡ true
  split_all [] each = refl
  split_all (octet ∷ text) each =
      let here = split_by octet text (mark octet) refl each in
      rw here.0 (split_all text here.1)
