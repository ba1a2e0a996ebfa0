-- Folders counted from names in order are those of the account.
use Rattle.std.proofs.Common.{◌≡◌, ℕ, suc, ◌+◌, Bool, true, false, cond, T, List, [], ◌∷◌, ◌++◌, map, fold, length, zero, sum_by, length-append, IsPermutation, Option, Some, None, option_map, unwrap_or, refl, sym, ap, ◌∙◌, subst, arith, true≢false, is_eq, is_lt, is_gt, nat_eq, eqb-true, eq-eqb, Ordering, Less, Equal, Greater}
use Rattle.std.specs.List.{AllByRecursion}
use Rattle.std.specs.FinMap.{empty, get, entries, find, is_sorted, from_sorted, get-entries, get-insert, get-empty, get-from_sorted, entries-from_sorted, same_map}
use Rattle.std.specs.FinMap.Entries.{below_all}
use Rattle.std.proofs.lemmas.Bool.{and_parts, and_from}
use Rattle.std.proofs.lemmas.Cmp.{nat_list_cmp_total, nat_cmp_total, tied_itself}
use Rattle.std.specs.Cmp.Lexicographic.{pointwise}
use Rattle.std.proofs.lemmas.List.Sums.{sum_by-cons}
use Rattle.std.proofs.lemmas.List.Sorted.{sum_by-IsPermutation}
use Rattle.store_accounts.specs.Account.{bytes_cmp, Folders, messages_in, filed}
use Rattle.store_accounts.specs.CopyRows.{Copy, folders_from}
use Rattle.store_accounts.specs.Tally.{counted, tallied, folder_count, folder_size}
use Rattle.store_accounts.proofs.AccountLemmas.{bytes_antisymmetric}
use Rattle.store_accounts.proofs.MapLemmas.{entries_rise}
use Rattle.sqlite_trees.specs.Tree.{IsAscending}
use Rattle.sqlite_keyed.proofs.ListLemmas.{all_weaker, ascending-map}
use Rattle.sqlite_typed.proofs.TestLemmas.{same_bytes}
use Rattle.store_accounts.specs.declared.folder.Folder.{Folder}

abbrev Below : List ℕ → List ℕ → Type 0
Below a b = bytes_cmp a b ≡ Less

-- no name comes after a later one
abbrev NotAbove : List ℕ → List ℕ → Type 0
NotAbove a b = is_gt (bytes_cmp a b) ≡ false

less_if_other : (o : Ordering) → is_gt o ≡ false → is_eq o ≡ false → o ≡ Less
less_if_other Less h k = refl
less_if_other Equal h k = absurd (true≢false k)
less_if_other Greater h k = absurd (true≢false h)

-- how often a name was counted
abbrev so_far : List ℕ → List Folder → Option ℕ
so_far q fs = find bytes_cmp q (map folder_count fs)

abbrev raised : Bool → Option ℕ → Option ℕ
raised true o = Some (unwrap_or o 0 + 1)
raised false o = o

abbrev Rising : List Folder → Type 0
Rising = IsAscending (λ f g. Below f.name g.name)

none_above : (q : List ℕ) (fs : List Folder) → AllByRecursion (λ f. Below q f.name) fs → so_far q fs ≡ None
none_above q [] h = refl
none_above q (f ∷ fs) h = rw (ap is_eq h.0) (none_above q fs h.1)

-- the names that are counted stay at or below the new one
counted_all : (P : List ℕ → Type 0) (fs : List Folder) (x : List ℕ) → AllByRecursion (λ f. P f.name) fs → P x → AllByRecursion (λ f. P f.name) (counted fs x)
counted_all P [] x h k = (k, tt)
counted_all P (f ∷ []) x h k = elim (is_eq (bytes_cmp f.name x)) as (λ b. AllByRecursion (λ (g : Folder). P g.name) (cond b (record { name = x; count = f.count + 1 } ∷ []) (f ∷ record { name = x; count = 1 } ∷ []))) [ true ↦ (k, tt) | false ↦ (h.0, (k, tt)) ]
counted_all P (f ∷ g ∷ fs) x h k = (h.0, counted_all P (g ∷ fs) x h.1 k)

counted_rises : (fs : List Folder) (x : List ℕ) → Rising fs → AllByRecursion (λ f. NotAbove f.name x) fs → Rising (counted fs x)
counted_rises [] x up low = (tt, tt)
counted_rises (f ∷ []) x up low = go (is_eq (bytes_cmp f.name x)) refl
  where
    go : (b : Bool) → is_eq (bytes_cmp f.name x) ≡ b → Rising (cond b (record { name = x; count = f.count + 1 } ∷ []) (f ∷ record { name = x; count = 1 } ∷ []))
    go true is = (tt, tt)
    go false is = ((less_if_other _ low.0 is, tt), (tt, tt))
counted_rises (f ∷ g ∷ fs) x up low = (counted_all (Below f.name) (g ∷ fs) x up.0 below, counted_rises (g ∷ fs) x up.1 low.1)
  where
    below : Below f.name x
    below = go (bytes_cmp g.name x) refl low.1.0
      where
        go : (o : Ordering) → bytes_cmp g.name x ≡ o → is_gt o ≡ false → Below f.name x
        go Less is h = nat_list_cmp_total.trans f.name g.name x up.0.0 is
        go Equal is h = subst (Below f.name) (bytes_antisymmetric g.name x is) up.0.0
        go Greater is h = absurd (true≢false h)

counted_finds : (q : List ℕ) (fs : List Folder) (x : List ℕ) → Rising fs → AllByRecursion (λ f. NotAbove f.name x) fs → so_far q (counted fs x) ≡ raised (is_eq (bytes_cmp q x)) (so_far q fs)
counted_finds q [] x up low = elim (is_eq (bytes_cmp q x)) as (λ b. cond b (Some 1) None ≡ raised b None) [ true ↦ refl | false ↦ refl ]
counted_finds q (f ∷ []) x up low = go (is_eq (bytes_cmp f.name x)) (is_eq (bytes_cmp q x)) (is_eq (bytes_cmp q f.name)) refl refl refl
  where
    go : (a b c : Bool) → is_eq (bytes_cmp f.name x) ≡ a → is_eq (bytes_cmp q x) ≡ b → is_eq (bytes_cmp q f.name) ≡ c
        → so_far q (cond a (record { name = x; count = f.count + 1 } ∷ []) (f ∷ record { name = x; count = 1 } ∷ [])) ≡ raised b (cond c (Some f.count) None)
    go true true true r s t = rw s
    go true true false r s t = absurd (true≢false (sym (ap (λ k. is_eq (bytes_cmp q k)) (same_bytes f.name x r) ∙ s) ∙ t))
    go true false true r s t = absurd (true≢false (sym (sym (ap (λ k. is_eq (bytes_cmp q k)) (same_bytes f.name x r)) ∙ t) ∙ s))
    go true false false r s t = rw s
    go false true true r s t = absurd (true≢false (sym (ap (λ k. is_eq (bytes_cmp k x)) (sym (same_bytes q f.name t)) ∙ s) ∙ r))
    go false true false r s t = rw (t, s)
    go false false true r s t = rw t
    go false false false r s t = rw (t, s)
counted_finds q (f ∷ g ∷ fs) x up low = go (is_eq (bytes_cmp q f.name)) refl (counted_finds q (g ∷ fs) x up.1 low.1)
  where
    go : (c : Bool) → is_eq (bytes_cmp q f.name) ≡ c → so_far q (counted (g ∷ fs) x) ≡ raised (is_eq (bytes_cmp q x)) (so_far q (g ∷ fs))
        → cond c (Some f.count) (so_far q (counted (g ∷ fs) x)) ≡ raised (is_eq (bytes_cmp q x)) (cond c (Some f.count) (so_far q (g ∷ fs)))
    go true t more = kept (is_eq (bytes_cmp q x)) refl
      where
        kept : (b : Bool) → is_eq (bytes_cmp q x) ≡ b → Some f.count ≡ raised b (Some f.count)
        kept true s = absurd (let low_one = low.0 in let g_low = low.1.0 in let fq : f.name ≡ x = sym (same_bytes q f.name t) ∙ same_bytes q x s in clash fq)
          where
            clash : f.name ≡ x → ⊥
            clash same = none (bytes_cmp g.name x) refl (low.1.0)
              where
                none : (o : Ordering) → bytes_cmp g.name x ≡ o → is_gt o ≡ false → ⊥
                none Less is h = true≢false (sym (ap is_lt (nat_list_cmp_total.trans f.name g.name x up.0.0 is)) ∙ ap (λ k. is_lt (bytes_cmp k x)) same ∙ ap is_lt (tied_itself nat_list_cmp_total x))
                none Equal is h = true≢false (sym (ap is_lt (subst (Below f.name) (bytes_antisymmetric g.name x is) up.0.0)) ∙ ap (λ k. is_lt (bytes_cmp k x)) same ∙ ap is_lt (tied_itself nat_list_cmp_total x))
                none Greater is h = true≢false h
        kept false s = refl
    go false t more = more

-- ---- the last folder counts

pub counted_last_same : (fs : List Folder) (f : Folder) (x : List ℕ) → is_eq (bytes_cmp f.name x) ≡ true → counted (fs ++ f ∷ []) x ≡ fs ++ record { name = x; count = f.count + 1 } ∷ []
counted_last_same [] f x is = rw is
counted_last_same (g ∷ []) f x is = ap (λ l. g ∷ l) (counted_last_same [] f x is)
counted_last_same (g ∷ h ∷ fs) f x is = ap (λ l. g ∷ l) (counted_last_same (h ∷ fs) f x is)

pub counted_last_other : (fs : List Folder) (f : Folder) (x : List ℕ) → is_eq (bytes_cmp f.name x) ≡ false → counted (fs ++ f ∷ []) x ≡ (fs ++ f ∷ []) ++ record { name = x; count = 1 } ∷ []
counted_last_other [] f x is = rw is
counted_last_other (g ∷ []) f x is = ap (λ l. g ∷ l) (counted_last_other [] f x is)
counted_last_other (g ∷ h ∷ fs) f x is = ap (λ l. g ∷ l) (counted_last_other (h ∷ fs) f x is)

pub tested_same : (a b : List ℕ) → pointwise nat_eq a b ≡ true → is_eq (bytes_cmp a b) ≡ true
tested_same [] [] h = refl
tested_same [] (y ∷ b) h = absurd (true≢false (sym h))
tested_same (x ∷ a) [] h = absurd (true≢false (sym h))
tested_same (x ∷ a) (y ∷ b) h =
    let parts = and_parts (nat_eq x y) (pointwise nat_eq a b) h in
    let same : x ≡ y = eqb-true x y parts.0 in
    rw (same, tied_itself nat_cmp_total y) (tested_same a b parts.1)

pub tested_other : (a b : List ℕ) → pointwise nat_eq a b ≡ false → is_eq (bytes_cmp a b) ≡ false
tested_other a b h = go (is_eq (bytes_cmp a b)) refl
  where
    itself : (x : List ℕ) → pointwise nat_eq x x ≡ true
    itself [] = refl
    itself (y ∷ x) = and_from _ _ (eq-eqb y y refl) (itself x)

    go : (t : Bool) → is_eq (bytes_cmp a b) ≡ t → t ≡ false
    go true is = absurd (true≢false (sym (itself a) ∙ ap (pointwise nat_eq a) (same_bytes a b is) ∙ h))
    go false is = refl

-- ---- all names

-- the names are in order
abbrev pub InOrder : List (List ℕ) → Type 0
InOrder = IsAscending NotAbove

abbrev one_if : Bool → ℕ
one_if true = 1
one_if false = 0

-- how often a name stands among these
abbrev pub times : List ℕ → List (List ℕ) → ℕ
times q [] = 0
times q (x ∷ xs) = one_if (is_eq (bytes_cmp q x)) + times q xs

abbrev with_more : ℕ → Option ℕ → Option ℕ
with_more zero o = o
with_more (suc n) o = Some (unwrap_or o 0 + suc n)

more_of : (b : Bool) (n : ℕ) (o : Option ℕ) → with_more n (raised b o) ≡ with_more (one_if b + n) o
more_of true zero o = refl
more_of true (suc n) o = let e : (unwrap_or o 0 + 1) + suc n ≡ unwrap_or o 0 + suc (suc n) = omega arith in let two : 1 + suc n ≡ suc (suc n) = omega arith in rw two (ap Some e)
more_of false n o = let e : 0 + n ≡ n = omega arith in rw e

tally_rises : (xs : List (List ℕ)) (fs : List Folder) → InOrder xs → Rising fs → AllByRecursion (λ f. AllByRecursion (NotAbove f.name) xs) fs → Rising (fold counted fs xs)
tally_rises [] fs order up low = up
tally_rises (x ∷ xs) fs order up low =
    tally_rises xs (counted fs x) order.1 (counted_rises fs x up (all_weaker _ (λ f. NotAbove f.name x) (λ f h. h.0) fs low))
    (counted_all (λ name. AllByRecursion (NotAbove name) xs) fs x (all_weaker _ (λ f. AllByRecursion (NotAbove f.name) xs) (λ f h. h.1) fs low) order.0)

tally_finds : (q : List ℕ) (xs : List (List ℕ)) (fs : List Folder) → InOrder xs → Rising fs → AllByRecursion (λ f. AllByRecursion (NotAbove f.name) xs) fs → so_far q (fold counted fs xs) ≡ with_more (times q xs) (so_far q fs)
tally_finds q [] fs order up low = refl
tally_finds q (x ∷ xs) fs order up low =
    let here = all_weaker _ (λ f. NotAbove f.name x) (λ f h. h.0) fs low in
    tally_finds q xs (counted fs x) order.1 (counted_rises fs x up here)
    (counted_all (λ name. AllByRecursion (NotAbove name) xs) fs x (all_weaker _ (λ f. AllByRecursion (NotAbove f.name) xs) (λ f h. h.1) fs low) order.0)
    ∙ ap (with_more (times q xs)) (counted_finds q fs x up here) ∙ more_of (is_eq (bytes_cmp q x)) (times q xs) (so_far q fs)

sorted_below : {X : Type 0} (k : List ℕ) (es : List (List ℕ × X)) → AllByRecursion (λ e. Below k e.0) es → below_all bytes_cmp k es ≡ true
sorted_below k [] h = refl
sorted_below k (e ∷ es) h = and_from _ _ (ap is_lt h.0) (sorted_below k es h.1)

sorted_from : {X : Type 0} (es : List (List ℕ × X)) → IsAscending (λ a b. Below a.0 b.0) es → is_sorted bytes_cmp es ≡ true
sorted_from [] h = refl
sorted_from (e ∷ es) h = and_from _ _ (sorted_below e.0 es h.0) (sorted_from es h.1)

to_T : (b : Bool) → b ≡ true → T b
to_T true h = tt
to_T false h = absurd (true≢false (sym h))

-- two lists of entries in order with the same look-ups are one
same_sorted : (es fs : List (List ℕ × ℕ)) → IsAscending (λ a b. Below a.0 b.0) es → IsAscending (λ a b. Below a.0 b.0) fs → ((q : List ℕ) → find bytes_cmp q es ≡ find bytes_cmp q fs) → es ≡ fs
same_sorted es fs up more same =
    let one = to_T _ (sorted_from es up) in
    let two = to_T _ (sorted_from fs more) in
    let maps : from_sorted {R = bytes_cmp} es ≡ from_sorted fs = same_map nat_list_cmp_total bytes_antisymmetric _ _ (λ q. get-from_sorted bytes_cmp es q one ∙ same q ∙ sym (get-from_sorted bytes_cmp fs q two)) in
    sym (entries-from_sorted bytes_cmp es one) ∙ ap entries maps ∙ entries-from_sorted bytes_cmp fs two

find_sizes : (q : List ℕ) (es : List (List ℕ × List (List ℕ))) → find bytes_cmp q (map folder_size es) ≡ option_map length (find bytes_cmp q es)
find_sizes q [] = refl
find_sizes q (e ∷ es) = elim (is_eq (bytes_cmp q e.0)) as (λ b. cond b (Some (length e.1)) (find bytes_cmp q (map folder_size es)) ≡ option_map length (cond b (Some e.1) (find bytes_cmp q es))) [ true ↦ refl | false ↦ find_sizes q es ]

-- the size of a folder, after one message more
size_joined : (q : List ℕ) (m : Folders) (c : Copy) → option_map length (get (filed m c.folder c.message) q) ≡ raised (is_eq (bytes_cmp q c.folder)) (option_map length (get m q))
size_joined q m c = ap (option_map length) (get-insert nat_list_cmp_total m c.folder (messages_in m c.folder ++ c.message ∷ []) q) ∙ go (is_eq (bytes_cmp q c.folder)) refl
  where
    sized : (o : Option (List (List ℕ))) → Some (length (unwrap_or o [] ++ c.message ∷ [])) ≡ Some (unwrap_or (option_map length o) 0 + 1)
    sized None = refl
    sized (Some ms) = ap Some (length-append ms (c.message ∷ []))

    go : (b : Bool) → is_eq (bytes_cmp q c.folder) ≡ b → option_map length (cond b (Some (messages_in m c.folder ++ c.message ∷ [])) (get m q)) ≡ raised b (option_map length (get m q))
    go true is = sized (get m c.folder) ∙ ap (λ k. Some (unwrap_or (option_map length (get m k)) 0 + 1)) (sym (same_bytes q c.folder is))
    go false is = refl

sizes_joined : (q : List ℕ) (copies : List Copy) (m : Folders) → option_map length (get (fold (λ folders c. filed folders c.folder c.message) m copies) q) ≡ with_more (times q (map (λ c. c.folder) copies)) (option_map length (get m q))
sizes_joined q [] m = refl
sizes_joined q (c ∷ copies) m =
    sizes_joined q copies (filed m c.folder c.message) ∙ ap (with_more (times q (map (λ x. x.folder) copies))) (size_joined q m c) ∙ more_of (is_eq (bytes_cmp q c.folder)) (times q (map (λ x. x.folder) copies)) (option_map length (get m q))

times-permutation : (q : List ℕ) (xs ys : List (List ℕ)) → IsPermutation xs ys → times q ys ≡ times q xs
times-permutation q xs ys same = counted_by ys ∙ sum_by-IsPermutation (λ x. one_if (is_eq (bytes_cmp q x))) xs ys same ∙ sym (counted_by xs)
  where
    counted_by : (zs : List (List ℕ)) → times q zs ≡ sum_by (λ x. one_if (is_eq (bytes_cmp q x))) zs
    counted_by [] = refl
    counted_by (z ∷ zs) = ap (λ n. one_if (is_eq (bytes_cmp q z)) + n) (counted_by zs) ∙ sym (sum_by-cons (λ x. one_if (is_eq (bytes_cmp q x))) z zs)

rising_counts : (fs : List Folder) → Rising fs → IsAscending (λ a b. Below a.0 b.0) (map folder_count fs)
rising_counts fs up = ascending-map (λ a b. Below a.0 b.0) folder_count fs up

rising_sizes : (es : List (List ℕ × List (List ℕ))) → IsAscending (λ a b. Below a.0 b.0) es → IsAscending (λ a b. Below a.0 b.0) (map folder_size es)
rising_sizes es up = ascending-map (λ a b. Below a.0 b.0) folder_size es up

-- names in order, counted, are the folders of the copies with their sizes
pub tally_is : (copies : List Copy) (names : List (List ℕ)) → IsPermutation (map (λ c. c.folder) copies) names → InOrder names → map folder_count (tallied names) ≡ map folder_size (entries (folders_from copies))
tally_is copies names same order =
    let m = folders_from copies in
    same_sorted (map folder_count (tallied names)) (map folder_size (entries m)) (rising_counts (tallied names) (tally_rises names [] order tt tt)) (rising_sizes (entries m) (entries_rise bytes_cmp nat_list_cmp_total bytes_antisymmetric m))
    (λ q. tally_finds q names [] order tt tt ∙ ap (λ n. with_more n None) (times-permutation q (map (λ c. c.folder) copies) names same)
    ∙ sym (find_sizes q (entries m) ∙ ap (option_map length) (sym (get-entries m q)) ∙ sizes_joined q copies empty ∙ ap (λ o. with_more (times q (map (λ c. c.folder) copies)) (option_map length o)) (get-empty bytes_cmp q)))
