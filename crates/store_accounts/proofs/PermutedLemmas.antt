-- Rows in another order: the replies that they show are the same.
use Rattle.std.proofs.Common.{◌≡◌, ◌≢◌, ◌≤◌, ℕ, ℤ, pos, Bool, true, false, cond, List, [], ◌∷◌, map, filter, length, Option, Some, None, option_map, slice_get, refl, sym, ap, ◌∙◌, subst, arith, is_eq, Ordering, IsPermutation}
use Rattle.std.specs.List.{AllByRecursion}
use Rattle.std.specs.Cmp.{IsTotalOrder}
use Rattle.std.specs.FinMap.{IsAntisymmetric, from_entries, find, same_map, get-from_entries}
use Rattle.std.proofs.lemmas.List.{nil_from_length}
use Rattle.std.proofs.lemmas.List.Sorted.{IsPermutation-map, length_permutation}
use Rattle.std.proofs.ByRecursion.{all_shuffled}
use Rattle.sqlite_value.specs.declared.value.Value.{Value}
use Rattle.sqlite_value.specs.declared.value.Value.TheVariants.{Int, Blob}
use Rattle.sqlite_value.specs.Order.{Row, column}
use Rattle.sqlite_keyed.proofs.ListLemmas.{IsPermutation-filter, map_back}
use Rattle.sqlite.proofs.Callers.{one_permutation}
use Rattle.store_accounts.specs.Account.{ReplyMoments, reply_cmp}
use Rattle.store_accounts.specs.ScriptRows.{AreKeysApart}
use Rattle.store_accounts.specs.ReplyRows.{reply_row, ShowsReplies}
use Rattle.store_accounts.proofs.MapLemmas.{is_at, tied, itself, first_found}
use Rattle.store_accounts.proofs.AccountLemmas.{reply_total, reply_antisymmetric}

-- none or one, in any order
alone : {X : Type 0} (xs ys : List X) → length xs ≤ 1 → IsPermutation xs ys → ys ≡ xs
alone [] ys few are = nil_from_length ys (length_permutation [] ys are)
alone (x ∷ []) ys few are = one_permutation x ys are
alone (x ∷ y ∷ xs) ys few are = absurd (omega (arith, few))

with_same : {X : Type 0} (o : Option X) → option_map (λ x. x) o ≡ o
with_same (Some x) = refl
with_same None = refl

-- ---- entries of a map, in another order

module _ {K X : Type 0} (R : K → K → Ordering) (total : IsTotalOrder R) (alike : IsAntisymmetric R) where
  abbrev at : K → K × X → Bool
  at = is_at R total alike {X = X}

  none_at : (k : K) (es : List (K × X)) → AllByRecursion (λ e. k ≢ e.0) es → filter (at k) es ≡ []
  none_at k [] apart = refl
  none_at k (e ∷ es) apart = go (at k e) refl (none_at k es apart.1)
    where
      go : (b : Bool) → at k e ≡ b → filter (at k) es ≡ [] → cond b (e ∷ filter (at k) es) (filter (at k) es) ≡ []
      go true same none = absurd (apart.0 (sym (tied R total alike e.0 k same)))
      go false other none = none

  few_at : (k : K) (es : List (K × X)) → AreKeysApart es → length (filter (at k) es) ≤ 1
  few_at k [] apart = omega arith
  few_at k (e ∷ es) apart = go (at k e) refl (few_at k es apart.1)
    where
      go : (b : Bool) → at k e ≡ b → length (filter (at k) es) ≤ 1 → length (cond b (e ∷ filter (at k) es) (filter (at k) es)) ≤ 1
      go true same few =
          let none = none_at k es (subst (λ q. AllByRecursion (λ d. q ≢ d.0) es) (tied R total alike e.0 k same) apart.0) in
          omega (arith, ap length none)
      go false other few = few

  -- none has a key that none is at
  others : (k : K) (es : List (K × X)) → length (filter (at k) es) ≤ 0 → AllByRecursion (λ e. k ≢ e.0) es
  others k [] none = tt
  others k (e ∷ es) none = go (at k e) refl (others k es) none
    where
      go : (b : Bool) → at k e ≡ b → (length (filter (at k) es) ≤ 0 → AllByRecursion (λ d. k ≢ d.0) es) → length (cond b (e ∷ filter (at k) es) (filter (at k) es)) ≤ 0 → AllByRecursion (λ d. k ≢ d.0) (e ∷ es)
      go true same more low = absurd (omega (arith, low))
      go false other more low = ((λ same. let is = ap (λ q. is_eq (R q k)) (sym same) ∙ itself R total alike k in let no : true ≡ false = sym is ∙ other in absurd (let never = no in cc)), more low)

  apart_of : (es : List (K × X)) → ((k : K) → length (filter (at k) es) ≤ 1) → AreKeysApart es
  apart_of [] few = tt
  apart_of (e ∷ es) few = (others e.0 es (first (at e.0 e) (itself R total alike e.0) (few e.0)), apart_of es (λ k. rest k (at k e) (few k)))
    where
      first : (b : Bool) → b ≡ true → length (cond b (e ∷ filter (at e.0) es) (filter (at e.0) es)) ≤ 1 → length (filter (at e.0) es) ≤ 0
      first true is low = omega (arith, low)
      first false is low = absurd (let never = is in cc)

      rest : (k : K) (b : Bool) → length (cond b (e ∷ filter (at k) es) (filter (at k) es)) ≤ 1 → length (filter (at k) es) ≤ 1
      rest k true low = omega (arith, low)
      rest k false low = low

  module _ (es fs : List (K × X)) (are : IsPermutation es fs) (apart : AreKeysApart es) where
    same_at : (k : K) → filter (at k) fs ≡ filter (at k) es
    same_at k = alone (filter (at k) es) (filter (at k) fs) (few_at k es apart) (IsPermutation-filter (at k) es fs are)

    pub apart_moved : AreKeysApart fs
    apart_moved = apart_of fs (λ k. subst (λ l. length l ≤ 1) (sym (same_at k)) (few_at k es apart))

    pub entries_moved : from_entries {R = R} es ≡ from_entries fs
    entries_moved = same_map total alike _ _ (λ q. get-from_entries total es q ∙ found q ∙ sym (get-from_entries total fs q))
      where
        found : (q : K) → find R q es ≡ find R q fs
        found q =
            sym (with_same (find R q es)) ∙ sym (first_found R total alike (λ x. x) q es) ∙ ap (λ l. slice_get (map (λ e. e.1) l) 0) (sym (same_at q))
            ∙ first_found R total alike (λ x. x) q fs ∙ with_same (find R q fs)

-- ---- the rows of replies

octets_in : Value → List ℕ
octets_in (Blob octets) = octets
octets_in _ = []

number_in : Value → ℕ
number_in (Int (pos n)) = n
number_in _ = 0

reply_in : Row → (List ℕ × List ℕ) × ℕ
reply_in row = ((octets_in (column row 1), octets_in (column row 2)), number_in (column row 3))

reply_back : (user : List ℕ) (e : (List ℕ × List ℕ) × ℕ) → reply_in (reply_row user e) ≡ e
unfolding octets_in number_in reply_in
reply_back user e = refl

-- the rows are those of entries of a user, whatever their order
module _ (user : List ℕ) where
  abbrev IsReply : Row → Type 0
  IsReply row = reply_row user (reply_in row) ≡ row

  all_replies : (es : List ((List ℕ × List ℕ) × ℕ)) → AllByRecursion IsReply (map (reply_row user) es)
  all_replies [] = tt
  all_replies (e ∷ es) = (ap (reply_row user) (reply_back user e), all_replies es)

  rows_back : (rows : List Row) → AllByRecursion IsReply rows → rows ≡ map (reply_row user) (map reply_in rows)
  rows_back [] all = refl
  rows_back (r ∷ rows) all = rw (all.0) (ap (λ l. r ∷ l) (rows_back rows all.1))

  pub replies_moved : (rows moved : List Row) (replies : ReplyMoments) → IsPermutation rows moved → ShowsReplies user rows replies → ShowsReplies user moved replies
  replies_moved rows moved replies are s =
      let shuffled = subst (λ l. IsPermutation l moved) s.rows_are are in
      let same = subst (λ l. IsPermutation l (map reply_in moved)) (map_back (reply_row user) reply_in (reply_back user) s.entries) (IsPermutation-map reply_in _ _ shuffled) in
      record {
        entries = map reply_in moved;
        rows_are = rows_back moved (all_shuffled IsReply _ _ shuffled (all_replies s.entries));
        shown = s.shown ∙ entries_moved reply_cmp reply_total reply_antisymmetric s.entries (map reply_in moved) same s.apart;
        apart = apart_moved reply_cmp reply_total reply_antisymmetric s.entries (map reply_in moved) same s.apart;
      }
