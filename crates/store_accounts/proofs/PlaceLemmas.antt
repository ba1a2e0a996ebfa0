-- What comes after a place is in parts, of which one comes before the other.
use Rattle.std.proofs.Common.{◌≡◌, ◌⊎◌, ◌<◌, ℕ, List, Option, Some, None, refl, sym, ap, ◌∙◌, subst, inl, inr, arith, Ordering, Less, Equal, Greater, is_eq, true}
use Rattle.std.specs.Ordering.{nat_cmp, ordering_reverse, ordering_then}
use Rattle.std.proofs.lemmas.Cmp.{nat_list_cmp_total, tied_itself}
use Rattle.sqlite_typed.proofs.TestLemmas.{same_bytes}
use Rattle.store_tables.specs.Rows.{Tables}
use Rattle.store_accounts.specs.declared.next.CopyKey.{CopyKey}
use Rattle.store_accounts.specs.declared.next.QueueKey.{QueueKey}
use Rattle.store_accounts.specs.Account.{bytes_cmp}
use Rattle.store_accounts.specs.Next.{filed_cmp, queued_cmp, IsFiled, IsQueued, IsLeast, IsNextFiled, IsNextQueued, IsLaterNumber, IsLaterFolder, IsLaterOwner, IsLaterId, IsLaterQueue, LeastFiled, LeastQueued}
use Rattle.store_accounts.proofs.LeastLemmas.{first_least, second_least, least_told}

-- ---- one key after another

turned : (x y : List ℕ) → bytes_cmp x y ≡ Less → bytes_cmp y x ≡ Greater
turned x y low = nat_list_cmp_total.antisymm y x ∙ ap ordering_reverse low

itself : (x : List ℕ) → bytes_cmp x x ≡ Equal
itself x = tied_itself nat_list_cmp_total x

tied : (x y : List ℕ) → y ≡ x → bytes_cmp x y ≡ Equal
tied x y same = ap (bytes_cmp x) same ∙ itself x

less_of : (m n : ℕ) → m < n → nat_cmp m n ≡ Less
less_of m n h = grind arith

of_less : (m n : ℕ) → nat_cmp m n ≡ Less → m < n
of_less m n h = grind arith

-- the first key decides, or is the same and the rest decides
then_less : (x y : List ℕ) (rest : Ordering) → ordering_then (bytes_cmp x y) rest ≡ Less → (bytes_cmp x y ≡ Less) ⊎ ((y ≡ x) × (rest ≡ Less))
then_less x y rest h = go (bytes_cmp x y) refl h
  where
    go : (o : Ordering) → bytes_cmp x y ≡ o → ordering_then o rest ≡ Less → (bytes_cmp x y ≡ Less) ⊎ ((y ≡ x) × (rest ≡ Less))
    go Less is h = inl is
    go Equal is h = inr (sym (same_bytes x y (ap is_eq is)), h)
    go Greater is h = absurd (let no = h in cc)

first_decides : (x y : List ℕ) (rest : Ordering) → bytes_cmp x y ≡ Less → ordering_then (bytes_cmp x y) rest ≡ Less
first_decides x y rest low = ap (λ o. ordering_then o rest) low

rest_decides : (x y : List ℕ) (rest : Ordering) → y ≡ x → rest ≡ Less → ordering_then (bytes_cmp x y) rest ≡ Less
rest_decides x y rest same low = ap (λ o. ordering_then o rest) (tied x y same) ∙ low

never_less : (x y : List ℕ) (rest : Ordering) → bytes_cmp y x ≡ Less → ordering_then (bytes_cmp x y) rest ≡ Less → ⊥
never_less x y rest low h = let up = sym (ap (λ o. ordering_then o rest) (turned y x low)) ∙ h in cc

-- ---- places of messages

module _ (start : CopyKey) where
  abbrev Number : CopyKey → Type 0
  Number = IsLaterNumber start.user start.folder start.number

  abbrev Folder : CopyKey → Type 0
  Folder = IsLaterFolder start.user start.folder

  abbrev Owner : CopyKey → Type 0
  Owner = IsLaterOwner start.user

  abbrev Same : CopyKey → Type 0
  Same f = Number f ⊎ Folder f

  same_of : (f : CopyKey) → Same f → f.user ≡ start.user
  same_of f (inl h) = h.0
  same_of f (inr h) = h.0

  number_first : (x y : CopyKey) → Number x → Folder y → filed_cmp y x ≡ Less → ⊥
  number_first x y a b h = elim (then_less y.user x.user _ h) [
    | inl low ↦ let no = sym (tied y.user x.user (a.0 ∙ sym b.0)) ∙ low in cc
    | inr rest ↦ never_less y.folder x.folder _ (ap (λ l. bytes_cmp l y.folder) a.1 ∙ b.1) rest.1
  ]

  same_first : (x y : CopyKey) → Same x → Owner y → filed_cmp y x ≡ Less → ⊥
  same_first x y a b h = never_less y.user x.user _ (ap (λ l. bytes_cmp l y.user) (same_of x a) ∙ b) h

  to_later : (f : CopyKey) → Same f ⊎ Owner f → filed_cmp start f ≡ Less
  to_later f (inl (inl h)) = rest_decides start.user f.user _ h.0 (rest_decides start.folder f.folder _ h.1 (less_of start.number f.number h.2))
  to_later f (inl (inr h)) = rest_decides start.user f.user _ h.0 (first_decides start.folder f.folder _ h.1)
  to_later f (inr h) = first_decides start.user f.user _ h

  from_later : (f : CopyKey) → filed_cmp start f ≡ Less → Same f ⊎ Owner f
  from_later f h = elim (then_less start.user f.user _ h) [
    | inl low ↦ inr low
    | inr rest ↦ elim (then_less start.folder f.folder _ rest.1) [
      | inl low ↦ inl (inr (rest.0, low))
      | inr last ↦ inl (inl (rest.0, last.0, of_less start.number f.number last.1))
    ]
  ]

  module _ (tables : Tables) where
    pub in_same : (f : CopyKey) → LeastFiled Number (Some f) tables → LeastFiled Same (Some f) tables
    in_same f = first_least filed_cmp (IsFiled tables) Number Folder number_first f

    pub in_later : (o : Option CopyKey) → LeastFiled Number None tables → LeastFiled Folder o tables → LeastFiled Same o tables
    in_later o = second_least filed_cmp (IsFiled tables) Number Folder o

    pub of_same : (f : CopyKey) → LeastFiled Same (Some f) tables → IsNextFiled start (Some f) tables
    of_same f least = least_told filed_cmp (IsFiled tables) (λ g. Same g ⊎ Owner g) (λ g. filed_cmp start g ≡ Less) to_later from_later (Some f) (first_least filed_cmp (IsFiled tables) Same Owner same_first f least)

    pub of_later : (o : Option CopyKey) → LeastFiled Same None tables → LeastFiled Owner o tables → IsNextFiled start o tables
    of_later o none least = least_told filed_cmp (IsFiled tables) (λ g. Same g ⊎ Owner g) (λ g. filed_cmp start g ≡ Less) to_later from_later o (second_least filed_cmp (IsFiled tables) Same Owner o none least)

-- ---- rows of queues

module _ (start : QueueKey) where
  abbrev Id : QueueKey → Type 0
  Id = IsLaterId start.user start.id

  abbrev Queue : QueueKey → Type 0
  Queue = IsLaterQueue start.user

  id_first : (x y : QueueKey) → Id x → Queue y → queued_cmp y x ≡ Less → ⊥
  id_first x y a b h = never_less y.user x.user _ (ap (λ l. bytes_cmp l y.user) a.0 ∙ b) h

  to_after : (q : QueueKey) → Id q ⊎ Queue q → queued_cmp start q ≡ Less
  to_after q (inl h) = rest_decides start.user q.user _ h.0 (less_of start.id q.id h.1)
  to_after q (inr h) = first_decides start.user q.user _ h

  from_after : (q : QueueKey) → queued_cmp start q ≡ Less → Id q ⊎ Queue q
  from_after q h = elim (then_less start.user q.user _ h) [ inl low ↦ inr low | inr rest ↦ inl (rest.0, of_less start.id q.id rest.1) ]

  module _ (tables : Tables) where
    pub queued_same : (q : QueueKey) → LeastQueued Id (Some q) tables → IsNextQueued start (Some q) tables
    queued_same q least = least_told queued_cmp (IsQueued tables) (λ r. Id r ⊎ Queue r) (λ r. queued_cmp start r ≡ Less) to_after from_after (Some q) (first_least queued_cmp (IsQueued tables) Id Queue id_first q least)

    pub queued_later : (o : Option QueueKey) → LeastQueued Id None tables → LeastQueued Queue o tables → IsNextQueued start o tables
    queued_later o none least = least_told queued_cmp (IsQueued tables) (λ r. Id r ⊎ Queue r) (λ r. queued_cmp start r ≡ Less) to_after from_after o (second_least queued_cmp (IsQueued tables) Id Queue o none least)
