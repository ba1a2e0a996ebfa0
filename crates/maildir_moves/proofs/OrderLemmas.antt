-- Places that the store is asked for, and what is next behind them.
use Prim.Native.Nat.{zero}
use Rattle.std.proofs.Common.{◌≡◌, ◌⊎◌, ◌<◌, ℕ, suc, Bool, true, false, List, [], ◌∷◌, Option, Some, None, refl, sym, ap, ◌∙◌, subst, inl, inr, arith, Ordering, Less, Equal, Greater, is_lt, true≢false}
use Rattle.std.specs.Ordering.{nat_cmp, ordering_then}
use Rattle.std.proofs.lemmas.Cmp.{nat_list_cmp_total, tied_itself}
use Rattle.store_tables.specs.Rows.{Tables}
use Rattle.store_accounts.specs.Account.{bytes_cmp}
use Rattle.store_accounts.specs.Next.{filed_cmp, IsNextFiled}
use Rattle.store_accounts.specs.declared.next.CopyKey.{CopyKey}
use Rattle.store_accounts.proofs.AccountLemmas.{bytes_antisymmetric}
use Rattle.maildir_moves.specs.Order.{IsFirstFolder, IsFolderBehind, IsLastFolder, IsNextTurnUser, IsRoundOver, beyond, comes_before, is_behind, start_in, start_of}

-- ---- texts in their order

itself : (x : List ℕ) → bytes_cmp x x ≡ Equal
itself x = tied_itself nat_list_cmp_total x

pub before_is : (x y : List ℕ) → comes_before x y ≡ true → bytes_cmp x y ≡ Less
before_is x y h = go (bytes_cmp x y) refl h
  where
    go : (o : Ordering) → bytes_cmp x y ≡ o → is_lt o ≡ true → bytes_cmp x y ≡ Less
    go Less is h = is
    go Equal is h = absurd (true≢false (sym h))
    go Greater is h = absurd (true≢false (sym h))

pub not_before : (x y : List ℕ) → ¬ (bytes_cmp x y ≡ Less) → comes_before x y ≡ false
not_before x y never = go (bytes_cmp x y) refl
  where
    go : (o : Ordering) → bytes_cmp x y ≡ o → is_lt o ≡ false
    go Less is = absurd (never is)
    go Equal is = refl
    go Greater is = refl

-- what is later than a text comes behind all that begin as it, or is the first of these
nearest : (y : ℕ) (ys : List ℕ) → (bytes_cmp (beyond []) (y ∷ ys) ≡ Less) ⊎ (y ∷ ys ≡ beyond [])
nearest zero [] = inr refl
nearest zero (z ∷ zs) = inl refl
nearest (suc y) ys = let less : nat_cmp 0 (suc y) ≡ Less = grind arith in inl (ap (λ o. ordering_then o (bytes_cmp [] ys)) less)

later_than : (x y : List ℕ) → bytes_cmp x y ≡ Less → (bytes_cmp (beyond x) y ≡ Less) ⊎ (y ≡ beyond x)
later_than [] [] low = absurd (let no = low in cc)
later_than [] (y ∷ ys) low = nearest y ys
later_than (x ∷ xs) [] low = absurd (let no = low in cc)
later_than (x ∷ xs) (y ∷ ys) low = go (later_than xs ys) (nat_cmp x y) refl low
  where
    go : (bytes_cmp xs ys ≡ Less → (bytes_cmp (beyond xs) ys ≡ Less) ⊎ (ys ≡ beyond xs)) → (o : Ordering) → nat_cmp x y ≡ o → ordering_then o (bytes_cmp xs ys) ≡ Less → (bytes_cmp (beyond (x ∷ xs)) (y ∷ ys) ≡ Less) ⊎ (y ∷ ys ≡ beyond (x ∷ xs))
    go shorter Less is h = inl (ap (λ o. ordering_then o (bytes_cmp (beyond xs) ys)) is)
    go shorter Equal is h =
        let same : x ≡ y = grind arith in
        elim (shorter h) [ inl less ↦ inl (ap (λ o. ordering_then o (bytes_cmp (beyond xs) ys)) is ∙ less) | inr equal ↦ inr (ap (λ a. a ∷ ys) (sym same) ∙ ap (λ l. x ∷ l) equal) ]
    go shorter Greater is h = absurd (let no = h in cc)

below_beyond : (x : List ℕ) → bytes_cmp x (beyond x) ≡ Less
below_beyond [] = refl
below_beyond (x ∷ xs) = let same : nat_cmp x x ≡ Equal = grind arith in ap (λ o. ordering_then o (bytes_cmp xs (beyond xs))) same ∙ below_beyond xs

-- ---- a key after another

then_less : (x y : List ℕ) (rest : Ordering) → ordering_then (bytes_cmp x y) rest ≡ Less → (bytes_cmp x y ≡ Less) ⊎ ((x ≡ y) × (rest ≡ Less))
then_less x y rest h = go (bytes_cmp x y) refl h
  where
    go : (o : Ordering) → bytes_cmp x y ≡ o → ordering_then o rest ≡ Less → (bytes_cmp x y ≡ Less) ⊎ ((x ≡ y) × (rest ≡ Less))
    go Less is h = inl is
    go Equal is h = inr (bytes_antisymmetric x y is, h)
    go Greater is h = absurd (let no = h in cc)

first_decides : (x y : List ℕ) (rest : Ordering) → bytes_cmp x y ≡ Less → ordering_then (bytes_cmp x y) rest ≡ Less
first_decides x y rest low = ap (λ o. ordering_then o rest) low

rest_decides : (x y : List ℕ) (rest : Ordering) → x ≡ y → rest ≡ Less → ordering_then (bytes_cmp x y) rest ≡ Less
rest_decides x y rest same low = ap (λ o. ordering_then o rest) (subst (λ t. bytes_cmp x t ≡ Equal) same (itself x)) ∙ low

from_nothing : (folder : List ℕ) (number : ℕ) → 0 < number → ordering_then (bytes_cmp [] folder) (nat_cmp 0 number) ≡ Less
from_nothing [] number some = grind arith
from_nothing (c ∷ cs) number some = refl

-- behind `beyond x` is what is later than `x`, and of `beyond x` what the rest of the key says
behind_key : (x y : List ℕ) (rest : Ordering) → rest ≡ Less → bytes_cmp x y ≡ Less → ordering_then (bytes_cmp (beyond x) y) rest ≡ Less
behind_key x y rest low less = elim (later_than x y less) [ inl far ↦ first_decides (beyond x) y rest far | inr near ↦ rest_decides (beyond x) y rest (sym near) low ]

key_behind : (x y : List ℕ) (rest : Ordering) → ordering_then (bytes_cmp (beyond x) y) rest ≡ Less → bytes_cmp x y ≡ Less
key_behind x y rest h = elim (then_less (beyond x) y rest h) [
  | inl far ↦ nat_list_cmp_total.trans x (beyond x) y (below_beyond x) far
  | inr near ↦ subst (λ t. bytes_cmp x t ≡ Less) near.0 (below_beyond x)
]

-- ---- the next user

starts : (last : Option (List ℕ)) (f : CopyKey) → 0 < f.number → is_behind last f.user ≡ true → filed_cmp (start_of last) f ≡ Less
starts None f some behind = by f.user
  where
    by : (user : List ℕ) → ordering_then (bytes_cmp [] user) (ordering_then (bytes_cmp [] f.folder) (nat_cmp 0 f.number)) ≡ Less
    by [] = from_nothing f.folder f.number some
    by (c ∷ cs) = refl
starts (Some last) f some behind = behind_key last f.user _ (from_nothing f.folder f.number some) (before_is last f.user behind)

started : (last : Option (List ℕ)) (f : CopyKey) → filed_cmp (start_of last) f ≡ Less → is_behind last f.user ≡ true
started None f low = refl
started (Some last) f low = ap is_lt (key_behind last f.user _ low)

module _ (tables : Tables) where
  user_not_first : (x least : CopyKey) → ¬ (filed_cmp x least ≡ Less) → comes_before x.user least.user ≡ false
  user_not_first x least never = not_before x.user least.user (λ low. never (first_decides x.user least.user _ low))

  folder_not_first : (x least : CopyKey) → x.user ≡ least.user → ¬ (filed_cmp x least ≡ Less) → comes_before x.folder least.folder ≡ false
  folder_not_first x least same never = not_before x.folder least.folder (λ low. never (rest_decides x.user least.user _ same (first_decides x.folder least.folder _ low)))

  pub round_over : (last : Option (List ℕ)) → IsNextFiled (start_of last) None tables → IsRoundOver tables last
  round_over last none f mail = go (is_behind last f.user) refl
    where
      go : (b : Bool) → is_behind last f.user ≡ b → b ≡ false
      go true is = absurd (none f mail.0 (starts last f mail.1 is))
      go false is = refl

  module _ (last : Option (List ℕ)) (first : CopyKey) (next : IsNextFiled (start_of last) (Some first) tables) where
    pub next_user : IsNextTurnUser tables last first.user
    next_user = record { behind = started last first next.1; first = λ f mail behind. user_not_first f first (next.2 f mail.0 (starts last f mail.1 behind)) }

    pub first_folder : IsFirstFolder tables first.user first.folder
    first_folder f mail same = folder_not_first f first same (next.2 f mail.0 (starts last f mail.1 (ap (is_behind last) same ∙ started last first next.1)))

  -- ---- a user's next folder

  module _ (user mark : List ℕ) where
    starts_in : (f : CopyKey) → 0 < f.number → f.user ≡ user → comes_before mark f.folder ≡ true → filed_cmp (start_in user mark) f ≡ Less
    starts_in f some same low = rest_decides user f.user _ (sym same) (behind_key mark f.folder _ (let less : nat_cmp 0 f.number ≡ Less = grind arith in less) (before_is mark f.folder low))

    started_in : (f : CopyKey) → filed_cmp (start_in user mark) f ≡ Less → (bytes_cmp user f.user ≡ Less) ⊎ ((user ≡ f.user) × (comes_before mark f.folder ≡ true))
    started_in f low = elim (then_less user f.user _ low) [ inl later ↦ inl later | inr same ↦ inr (same.0, ap is_lt (key_behind mark f.folder _ same.1)) ]

    pub folder_behind : (next : CopyKey) → next.user ≡ user → IsNextFiled (start_in user mark) (Some next) tables → IsFolderBehind tables user mark next.folder
    folder_behind next same it = record {
      behind = elim (started_in next it.1) [ inl later ↦ absurd (let no = sym (subst (λ t. bytes_cmp t next.user ≡ Equal) same (itself next.user)) ∙ later in cc) | inr there ↦ there.1 ];
      first = λ f mail of_user low. folder_not_first f next (of_user ∙ sym same) (it.2 f mail.0 (starts_in f mail.1 of_user low));
    }

    never_behind : (f : CopyKey) → (comes_before mark f.folder ≡ true → ⊥) → comes_before mark f.folder ≡ false
    never_behind f never = go (comes_before mark f.folder) refl
      where
        go : (b : Bool) → comes_before mark f.folder ≡ b → b ≡ false
        go true is = absurd (never is)
        go false is = refl

    pub none_behind : IsNextFiled (start_in user mark) None tables → IsLastFolder tables user mark
    none_behind none f mail same = never_behind f (λ low. none f mail.0 (starts_in f mail.1 same low))

    pub other_behind : (next : CopyKey) → ¬ (next.user ≡ user) → IsNextFiled (start_in user mark) (Some next) tables → IsLastFolder tables user mark
    other_behind next other it f mail same = never_behind f (λ low.
        let later : bytes_cmp user next.user ≡ Less = elim (started_in next it.1) [ inl later ↦ later | inr there ↦ absurd (other (sym there.0)) ] in
        it.2 f mail.0 (starts_in f mail.1 same low) (first_decides f.user next.user _ (subst (λ t. bytes_cmp t next.user ≡ Less) (sym same) later)))
