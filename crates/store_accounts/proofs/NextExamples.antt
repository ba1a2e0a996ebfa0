-- What comes next, by example, and near misses.
use Rattle.std.proofs.Common.{◌≡◌, ℕ, pos, List, [], ◌∷◌, codes, Some, None, refl, inl, inr, Less}
use Rattle.store_tables.specs.Rows.{Tables}
use Rattle.store_tables.specs.CopyTable.{copy_cells}
use Rattle.store_accounts.specs.declared.next.CopyKey.{CopyKey}
use Rattle.store_accounts.specs.declared.next.QueueKey.{QueueKey}
use Rattle.store_accounts.specs.Next.{filed_cmp, queued_cmp, IsFiled, IsNextFiled}

abbrev at : List ℕ → List ℕ → ℕ → CopyKey
at user folder number = record { user = user; folder = folder; number = number }

-- the user decides before the folder, and the folder before the number
user-first : filed_cmp (at (codes "alice") (codes "lists") 9) (at (codes "bob") (codes "INBOX") 1) ≡ Less
user-first = refl

folder-first : filed_cmp (at (codes "alice") (codes "INBOX") 9) (at (codes "alice") (codes "lists") 1) ≡ Less
folder-first = refl

-- near miss: a number isn't compared across folders
number-alone : filed_cmp (at (codes "alice") (codes "lists") 1) (at (codes "alice") (codes "INBOX") 9) ≡ Less → ⊥
number-alone e = cc

queue-first : queued_cmp (record { user = codes "alice"; id = 9 }) (record { user = codes "bob"; id = 1 }) ≡ Less
queue-first = refl

-- one message in one folder, which is a copy with the number 3 of the message with the number 2
abbrev one : Tables
one tree = copy_cells (codes "alice") (codes "INBOX") (pos 3) (pos 2) [] ∷ []

is-there : IsFiled one (at (codes "alice") (codes "INBOX") 3)
is-there = inl refl

-- near miss: by the number of its copy, and not by the message's
not-there : IsFiled one (at (codes "alice") (codes "INBOX") 2) → ⊥
not-there (inl e) = cc
not-there (inr none) = none

-- after it there is none
none-next : IsNextFiled (at (codes "alice") (codes "INBOX") 3) None one
none-next x (inl e) later = let user : x.user ≡ codes "alice" = cc in let folder : x.folder ≡ codes "INBOX" = cc in let number : x.number ≡ 3 = cc in absurd (let no = later in cc)
none-next x (inr none) later = none
