-- What is kept, at a place and without one.
use Rattle.std.proofs.Common.{◌≡◌, ◌+◌, ◌-◌, ◌<◌, ◌≤◌, ℕ, List, [], ◌++◌, All, get_or, length, map, take, drop, remove, sum_by, suc, arith, ap, subst, sym, ◌∙◌}
use Rattle.std.proofs.lemmas.List.{get_or-map, length-map, map-append, take-map, drop-map}
use Rattle.std.proofs.lemmas.List.Edits.{length-remove}
use Rattle.std.proofs.lemmas.List.Elements.{All-append, All-take, All-drop, All-get_or}
use Rattle.std.proofs.lemmas.List.Sums.{sum_by-remove}
use Rattle.sieve_syntax.specs.Means.{Means}
use Rattle.sieve_syntax.specs.View.{script_tree}
use Rattle.sieve_syntax.specs.declared.script.Script.{Script}
use Rattle.sieve_plan.specs.declared.kept.KeptScript.{KeptScript}
use Rattle.sieve_plan.specs.Kept.{KeepsScripts, IsOfItsText, pair_of, symbols_in, texts_of}

-- the text at a place is that of the script there
pub text_at : (kept : List KeptScript) (place : ℕ) (at : KeptScript) → place < length kept → at ≡ get_or kept place at → get_or (texts_of (map pair_of kept)) place [] ≡ at.text
text_at kept place at within is =
    let here : place < length (map pair_of kept) = rw (length-map kept pair_of) within in
    get_or-map (λ (pair : List ℕ × Script). pair.0) (map pair_of kept) place (pair_of at) [] here ∙ ap (λ (pair : List ℕ × Script). pair.0) (get_or-map pair_of kept place at (pair_of at) within ∙ ap pair_of (sym is))

-- the script at a place is what the text there means
pub means_at : (kept : List KeptScript) (place : ℕ) (at : KeptScript) → place < length kept → at ≡ get_or kept place at → All IsOfItsText (map pair_of kept) → Means (get_or (texts_of (map pair_of kept)) place []) (script_tree at.script)
means_at kept place at within is checked =
    let here : place < length (map pair_of kept) = rw (length-map kept pair_of) within in
    let there : IsOfItsText (get_or (map pair_of kept) place (pair_of at)) = All-get_or IsOfItsText (map pair_of kept) place (pair_of at) here checked in
    let found : IsOfItsText (pair_of at) = subst IsOfItsText (get_or-map pair_of kept place at (pair_of at) within ∙ ap pair_of (sym is)) there in
    subst (λ text. Means text (script_tree at.script)) (sym (text_at kept place at within is)) found

-- ---- without one

map-remove : {A B : Type 0} (f : A → B) (xs : List A) (i : ℕ) → map f (remove xs i) ≡ remove (map f xs) i
map-remove f xs i = simp (map-append, take-map, drop-map)

All-remove : {A : Type 0} (P : A → Type 0) (xs : List A) (i : ℕ) → All P xs → All P (remove xs i)
All-remove P xs i all = All-append P (take i xs) (drop (suc i) xs) (All-take P i xs all) (All-drop P (suc i) xs all)

texts-remove : (kept : List KeptScript) (place : ℕ) → texts_of (map pair_of (remove kept place)) ≡ remove (texts_of (map pair_of kept)) place
texts-remove kept place = ap texts_of (map-remove pair_of kept place) ∙ map-remove (λ (pair : List ℕ × Script). pair.0) (map pair_of kept) place

-- what is summed of the texts loses what the one that goes has of it
pub sum-without : (f : List ℕ → ℕ) (kept : List KeptScript) (place : ℕ) (gone : KeptScript) → place < length kept → gone ≡ get_or kept place gone
    → sum_by f (texts_of (map pair_of (remove kept place))) + f gone.text ≡ sum_by f (texts_of (map pair_of kept))
sum-without f kept place gone within is =
    let here : place < length (texts_of (map pair_of kept)) = rw (length-map (map pair_of kept) (λ (pair : List ℕ × Script). pair.0), length-map kept pair_of) within in
    rw (texts-remove kept place, ← text_at kept place gone within is) (sum_by-remove f (texts_of (map pair_of kept)) place [] here)

-- what is kept without one
pub kept-without : (kept : List KeptScript) (place : ℕ) (gone : KeptScript) (octets symbols : ℕ) → place < length kept → gone ≡ get_or kept place gone → KeepsScripts (map pair_of kept) octets symbols
    → KeepsScripts (map pair_of (remove kept place)) (octets - length gone.text) (symbols - symbols_in gone.text)
kept-without kept place gone octets symbols within is are =
    let octets_sum = sum-without length kept place gone within is in
    let symbols_sum = sum-without symbols_in kept place gone within is in
    let count : length (texts_of (map pair_of (remove kept place))) + 1 ≡ length (texts_of (map pair_of kept)) =
    rw (length-map, length-map, length-map, length-map) (length-remove kept place within) in
    record {
      checked = subst (All IsOfItsText) (sym (map-remove pair_of kept place)) (All-remove IsOfItsText (map pair_of kept) place are.checked);
      octets_are = omega arith;
      symbols_are = omega arith;
      within = record { count = omega arith; octets = omega arith; symbols = omega arith };
    }
