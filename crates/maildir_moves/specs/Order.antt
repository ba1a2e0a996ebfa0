-- Who may be moved next, given who was moved last: a batch of each user a round, and of a user's folders one after the other.
use Rattle.std.specs.Prelude.{◌≡◌, ◌⊎◌, ◌<◌, ◌&&◌, ℕ, not, Bool, true, false, List, [], ◌∷◌, ◌++◌, find, filter, Option, Some, None, option_map, IsTrue, nat_eq}
use Rattle.std.specs.Ordering.{is_lt}
use Rattle.std.specs.Cmp.Lexicographic.{pointwise}
use Rattle.store_tables.specs.Rows.{Tables}
use Rattle.store_accounts.specs.Account.{bytes_cmp}
use Rattle.store_accounts.specs.Next.{IsFiled}
use Rattle.store_accounts.specs.declared.next.CopyKey.{CopyKey}
use Rattle.maildir_moves.specs.declared.order.FolderMark.{FolderMark}

-- ---- what there is

-- a message that may move; a folder's are numbered from 1 on
abbrev pub IsMail : Tables → CopyKey → Type 0
IsMail tables f = IsFiled tables f × (0 < f.number)

abbrev pub comes_before : List ℕ → List ℕ → Bool
comes_before a b = is_lt (bytes_cmp a b)

-- ---- users

-- a user comes after the one who had the last turn of the round; at its beginning all do
abbrev pub is_behind : Option (List ℕ) → List ℕ → Bool
is_behind None user = true
is_behind (Some last) user = comes_before last user

-- the first of those after the last one who have mail
pub record IsNextTurnUser (tables : Tables) (last : Option (List ℕ)) (user : List ℕ) : Type 0 where
  pub behind : IsTrue (is_behind last user)
  pub first : (f : CopyKey) → IsMail tables f → IsTrue (is_behind last f.user) → comes_before f.user user ≡ false

-- nobody after the last one has mail
abbrev pub IsRoundOver : Tables → Option (List ℕ) → Type 0
IsRoundOver tables last = (f : CopyKey) → IsMail tables f → is_behind last f.user ≡ false

-- ---- folders of a user

-- the first of all that have mail
abbrev pub IsFirstFolder : Tables → List ℕ → List ℕ → Type 0
IsFirstFolder tables user folder = (f : CopyKey) → IsMail tables f → f.user ≡ user → comes_before f.folder folder ≡ false

-- the first of those after another
pub record IsFolderBehind (tables : Tables) (user mark folder : List ℕ) : Type 0 where
  pub behind : IsTrue (comes_before mark folder)
  pub first : (f : CopyKey) → IsMail tables f → f.user ≡ user → IsTrue (comes_before mark f.folder) → comes_before f.folder folder ≡ false

-- none after another has mail
abbrev pub IsLastFolder : Tables → List ℕ → List ℕ → Type 0
IsLastFolder tables user mark = (f : CopyKey) → IsMail tables f → f.user ≡ user → comes_before mark f.folder ≡ false

-- after the folder of the user's last turn, and the first again if there is none
abbrev pub FollowsFolder : Tables → List ℕ → Option (List ℕ) → List ℕ → Type 0
FollowsFolder tables user None folder = IsFirstFolder tables user folder
FollowsFolder tables user (Some mark) folder = IsFolderBehind tables user mark folder ⊎ (IsLastFolder tables user mark × IsFirstFolder tables user folder)

-- there is mail in it, and its turn is next of the user's
pub record IsNextFolder (tables : Tables) (user : List ℕ) (mark : Option (List ℕ)) (folder : List ℕ) : Type 0 where
  pub mail : CopyKey
  pub there : IsFiled tables mail
  pub of_user : mail.user ≡ user
  pub in_folder : mail.folder ≡ folder
  pub follows : FollowsFolder tables user mark folder

-- ---- what is remembered

abbrev pub is_same_user : List ℕ → List ℕ → Bool
is_same_user user other = pointwise nat_eq other user

-- of a user: the folder of the last turn
abbrev pub turn_mark_of : List ℕ → List FolderMark → Option (List ℕ)
turn_mark_of user marks = option_map (λ m. m.folder) (find (λ m. is_same_user user m.user) marks)

-- between the last one and a user, so without mail
abbrev pub is_user_between : Option (List ℕ) → List ℕ → List ℕ → Bool
is_user_between last user other = is_behind last other && comes_before other user

-- after a turn at a folder: that is the user's mark, and users without mail are forgotten
abbrev pub marked : Option (List ℕ) → List ℕ → List ℕ → List FolderMark → List FolderMark
marked last user folder marks = filter (λ m. not (is_user_between last user m.user)) (filter (λ m. not (is_same_user user m.user)) marks) ++ record { user = user; folder = folder } ∷ []

-- ---- places that a store is asked for

-- after all of this text, and before all that comes later
abbrev pub beyond : List ℕ → List ℕ
beyond text = text ++ 0 ∷ []

-- before the first message of a user after the last one
abbrev pub start_of : Option (List ℕ) → CopyKey
start_of None = record { user = []; folder = []; number = 0 }
start_of (Some last) = record { user = beyond last; folder = []; number = 0 }

-- before the first message of a user's folders after this one
abbrev pub start_in : List ℕ → List ℕ → CopyKey
start_in user mark = record { user = user; folder = beyond mark; number = 0 }

-- the same after the folder of the last turn
abbrev pub start_behind : List ℕ → List FolderMark → Option CopyKey
start_behind user marks = option_map (start_in user) (turn_mark_of user marks)
