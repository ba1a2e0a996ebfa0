-- What a path is read as, by the place of its first `%`.
use Rattle.std.proofs.Common.{◌≡◌, ◌<◌, ◌≤◌, ℕ, suc, Bool, Bor, false, map, inl, inr, List, [], ◌∷◌, ◌++◌, length, take, drop, get_or, Option, Some, None, refl, sym, ap, ◌∙◌, subst, arith}
use Rattle.std.proofs.Math.Seq.{drop-cons}
use Rattle.std.proofs.lemmas.Bool.{eqb-true, false_from_ne_true}
use Rattle.std.proofs.lemmas.List.{get_or-take, get_or_default, length-take-le, take-append-drop}
use Rattle.std.proofs.lemmas.List.Folds.{list_any_none}
use Rattle.std.specs.Fn.{Mut, CalledAt}
use Rattle.std.specs.Iterator.{Yields}
use Rattle.std.specs.List.{slice_split}
use Rattle.std.specs.Slice.Iter as slice
use Rattle.std.specs.declared.slice.Split.{Split}
use Rattle.std.proofs.lemmas.Iterator.Consumers.{YieldsList-end}
use Rattle.std.proofs.lemmas.Iterator.Splits.{YieldsList-from_slice_split}
use Rattle.memchr.specs.Find.{IsFirstByte, Nowhere, Passes, is_byte}
use Rattle.maildir_homes.specs.Templates.{IsDirectoryOfAll, IsReadAs, IsReadBehind, IsReadIn, has_percent, is_percent, is_slash}
use Rattle.maildir_homes.specs.declared.homes.MailHomes.{MailHomes}

none_before : (text : List ℕ) (k : ℕ) → k ≤ length text → Nowhere (Passes (is_byte 37) text) 0 k → has_percent (take k text) ≡ false
none_before text k inside nowhere = list_any_none is_percent (take k text) (λ j d below.
    let shorter : j < k = subst (λ n. j < n) (length-take-le k text inside) below in
    let same : get_or (take k text) j d ≡ get_or text j 0 = get_or-take k text j d shorter ∙ get_or_default text j d 0 (omega arith) in
    false_from_ne_true _ (λ passes. nowhere j (omega arith) shorter (ap is_percent (sym same) ∙ passes)))

none_at_all : (text : List ℕ) → Nowhere (Passes (is_byte 37) text) 0 (length text) → has_percent text ≡ false
none_at_all text nowhere = list_any_none is_percent text (λ j d below.
    false_from_ne_true _ (λ passes. nowhere j (omega arith) below (ap is_percent (sym (get_or_default text j d 0 below)) ∙ passes)))

-- no `%`
pub plain_path : (text : List ℕ) (domain : Option (List ℕ)) (homes : MailHomes) → IsFirstByte (is_byte 37) text None → IsDirectoryOfAll text domain (Some homes) → IsReadAs text domain (Some homes)
plain_path text domain homes nowhere made = inl (none_at_all text nowhere, made)

-- the first one at a place: what stands there begins with it
behind : (text : List ℕ) (k : ℕ) → IsFirstByte (is_byte 37) text (Some k) → drop k text ≡ 37 ∷ drop (suc k) text
behind text k first = drop-cons text k 0 first.0.high ∙ ap (λ o. o ∷ drop (suc k) text) (eqb-true _ 37 first.1)

pub template_path : (text : List ℕ) (domain : Option (List ℕ)) (k : ℕ) (result : Option MailHomes) → IsFirstByte (is_byte 37) text (Some k) → IsReadBehind (take k text) (drop k text) domain result → IsReadAs text domain result
template_path text domain k result first read =
    inr (take k text, drop (suc k) text, sym (take-append-drop k text) ∙ ap (λ l. take k text ++ l) (behind text k first), none_before text k (omega (arith, first.0.high)) first.0.before, subst (λ t. IsReadBehind (take k text) t domain result) (behind text k first) read)

pub read_behind : (front tail dir : List ℕ) (domain : Option (List ℕ)) (result : Option MailHomes) → front ≡ dir ++ 47 ∷ [] → IsReadIn dir tail domain result → IsReadBehind front tail domain result
read_behind front tail dir domain result is read = inl (dir, is, read)

pub no_directory : (front tail : List ℕ) (domain : Option (List ℕ)) → ((dir : List ℕ) → front ≡ dir ++ 47 ∷ [] → ⊥) → IsReadBehind front tail domain None
no_directory front tail domain none = inr (none, refl)

-- ---- parts

-- all parts that a loop over them was given
pub split_end : {F : Type 0} (g : Mut F (Bor ℕ × Unit {0}) Bool) (s t u : Split ℕ F) (given : List (Bor (List ℕ))) → Yields (slice.split_steps g) s given t → (r : Option (Bor (List ℕ))) → r ≡ None → slice.split_steps g t r u
    → (text : List ℕ) {f : F} → slice.split_rest s ≡ text → slice.split_done s ≡ false → slice.split_callee s ≡ f → ((x : ℕ) (b : Bool) (q : F) → CalledAt g f x b q → (q ≡ f) × (b ≡ is_slash x))
    → map (λ n. n.now) given ≡ slice_split is_slash text
split_end g s t u given led r none ends text rest done closure tests = (YieldsList-end (YieldsList-from_slice_split g is_slash text rest done closure tests) given _ led r _ none ends).0

-- ---- the directory before the parts

not_nothing : (text : List ℕ) (octet : ℕ) → [] ≡ text ++ octet ∷ [] → ⊥
not_nothing [] octet is = cc
not_nothing (first ∷ text) octet is = cc

last_same : (one other : List ℕ) (x y : ℕ) → one ++ x ∷ [] ≡ other ++ y ∷ [] → x ≡ y
last_same [] [] x y is = cc
last_same [] (first ∷ other) x y is = absurd (not_nothing other y (let rest : [] ≡ other ++ y ∷ [] = cc in rest))
last_same (first ∷ one) [] x y is = absurd (not_nothing one x (let rest : [] ≡ one ++ x ∷ [] = cc in rest))
last_same (first ∷ one) (second ∷ other) x y is = last_same one other x y (let rest : one ++ x ∷ [] ≡ other ++ y ∷ [] = cc in rest)

-- there is none
pub nothing_before : (text : List ℕ) (domain : Option (List ℕ)) (k : ℕ) → IsFirstByte (is_byte 37) text (Some k) → take k text ≡ [] → IsReadAs text domain None
nothing_before text domain k first empty = template_path text domain k None first (no_directory (take k text) (drop k text) domain (λ dir is. not_nothing dir 47 (sym empty ∙ is)))

-- what is there doesn't end with `/`
pub no_slash_before : (text dir : List ℕ) (domain : Option (List ℕ)) (k last : ℕ) → IsFirstByte (is_byte 37) text (Some k) → take k text ≡ dir ++ last ∷ [] → (last ≡ 47 → ⊥) → IsReadAs text domain None
no_slash_before text dir domain k last first before other = template_path text domain k None first (no_directory (take k text) (drop k text) domain (λ found is. other (last_same dir found last 47 (sym before ∙ is))))

pub slash_before : (text dir : List ℕ) (domain : Option (List ℕ)) (k last : ℕ) (result : Option MailHomes) → IsFirstByte (is_byte 37) text (Some k) → take k text ≡ dir ++ last ∷ [] → last ≡ 47 → IsReadIn dir (drop k text) domain result → IsReadAs text domain result
slash_before text dir domain k last result first before is read = template_path text domain k result first (read_behind (take k text) (drop k text) dir domain result (before ∙ ap (λ o. dir ++ o ∷ []) is) read)
