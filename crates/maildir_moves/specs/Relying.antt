-- What is relied on of a sink: that it has what was put, and keeps what was settled, each message at the place of its folder.
use Rattle.std.specs.Prelude.{◌≡◌, ℕ, ◌++◌, [], Bool, List, take, map, All, Option, Some, None, option_map, IsTrue}
use Rattle.store_accounts.specs.declared.taking.NumberedMessage.{NumberedMessage}
use Rattle.maildir_files.specs.declared.kept.KeptMail.{KeptMail}
use Rattle.maildir_moves.specs.Moving.{kept_mails, mail_told}
use Rattle.maildir_homes.specs.Homes.{home}
use Rattle.maildir_moves.specs.Place.{folder_path}
use Rattle.maildir_moves.specs.declared.batch.BegunBatch.{BegunBatch}
use Rattle.maildir_moves.specs.declared.batch.MailBatch.{MailBatch}
use Rattle.maildir_moves.specs.declared.load.Load.{Load}
use Rattle.maildir_moves.specs.declared.moving.Moving.{Moving}
use Rattle.maildir_moves.specs.declared.moving.Moving.TheVariants as moving

-- ---- where a batch goes

-- the directory of a user's folder, if one can have the user's name
abbrev pub place_for : Load → List ℕ → List ℕ → Option (List ℕ)
place_for load user folder = option_map (λ h. folder_path load.separator h folder) (home load.homes user)

-- the place of a folder is open
abbrev pub IsOpenFor : {S : Type 0} → (S → List ℕ → Type 0) → Load → List ℕ → List ℕ → S → Type 0
IsOpenFor at load user folder sink = (path : List ℕ) × (place_for load user folder ≡ Some path) × at sink path

-- mail goes to the same places
pub record SamePlaces (before after : Load) : Type 0 where
  pub homes : after.homes ≡ before.homes
  pub separator : after.separator ≡ before.separator

-- ---- what is relied on

-- each of these messages is so at a path
abbrev pub AreAllAt : (List ℕ → KeptMail → Type 0) → List ℕ → List ℕ → List ℕ → List NumberedMessage → Type 0
AreAllAt is path user folder mails = All (λ m. is path (mail_told user folder m)) mails

-- at the place of their folder
abbrev pub AreThere : (List ℕ → KeptMail → Type 0) → Load → List ℕ → List ℕ → List NumberedMessage → Type 0
AreThere is load user folder mails = (path : List ℕ) × (place_for load user folder ≡ Some path) × AreAllAt is path user folder mails

module _ {S : Type 0} (at : S → List ℕ → Type 0) (has_put : S → List ℕ → KeptMail → Type 0) where
  -- the sink is at the path, and the first messages of the batch, as many as are put, were put there
  abbrev pub IsUnderway : List ℕ → BegunBatch → S → Type 0
  IsUnderway path begun sink = at sink path × AreAllAt (has_put sink) path begun.batch.user begun.batch.folder (take begun.put begun.batch.mails)

  -- what is underway still is
  abbrev pub StaysUnderway : BegunBatch → S → BegunBatch → S → Type 0
  StaysUnderway before old after new = (path : List ℕ) → IsUnderway path before old → IsUnderway path after new

  -- that is the place of its folder
  abbrev pub IsOnItsWay : Load → BegunBatch → S → Type 0
  IsOnItsWay load begun sink = (path : List ℕ) × (place_for load begun.batch.user begun.batch.folder ≡ Some path) × IsUnderway path begun sink

  abbrev pub IsBegunSo : Load → Option BegunBatch → S → Type 0
  IsBegunSo load None sink = Unit {0}
  IsBegunSo load (Some begun) sink = IsOnItsWay load begun sink

-- the batches that wait to be taken out are kept, each at its folder's place
abbrev pub AreSettledKept : (List ℕ → KeptMail → Type 0) → Load → List MailBatch → Type 0
AreSettledKept keeps load batches = All (λ (b : MailBatch). AreThere keeps load b.user b.folder b.mails) batches

-- what is on its way relies on this of the sink
pub record ReliesOn {S : Type 0} (at : S → List ℕ → Type 0) (has_put keeps_at : S → List ℕ → KeptMail → Type 0) (load : Load) (sink : S) : Type 0 where
  pub begun : IsBegunSo at has_put load load.begun sink
  pub settled : AreSettledKept (keeps_at sink) load load.settled.items

-- ---- what a call does

-- each message of a batch that left, or whose take-out was refused, is kept at its folder's place
abbrev pub LeftThere : (List ℕ → KeptMail → Type 0) → Load → Moving → Type 0
LeftThere keeps load (moving.Kept batch answer) = AreThere keeps load batch.user batch.folder batch.mails
LeftThere keeps load other = Unit {0}

-- some more at the end, maybe none
abbrev pub Grows : List KeptMail → List KeptMail → Type 0
Grows had has = (more : List KeptMail) × (has ≡ had ++ more)

-- what a call does with what is on its way: if that could be relied on before, it can be afterwards, and what left is kept at its
-- place; a sink that tells has what it had
pub record Carries {S : Type 0} (tells : Bool) (kept : S → List KeptMail) (at : S → List ℕ → Type 0) (has_put keeps_at : S → List ℕ → KeptMail → Type 0) (before : Load) (old : S) (result : Moving) (after : Load) (new : S) : Type 0 where
  pub relies : ReliesOn at has_put keeps_at before old → ReliesOn at has_put keeps_at after new × LeftThere (keeps_at new) after result
  pub grows : IsTrue tells → Grows (kept old) (kept new)
  pub places : SamePlaces before after

-- ---- a sink that tells its messages

-- what is put and isn't settled are the first messages of the batch on its way, as many as are put
abbrev pub HasPutFront : Bool → Option BegunBatch → List KeptMail → Type 0
HasPutFront tells None unsettled = Unit {0}
HasPutFront tells (Some begun) unsettled = IsTrue tells → unsettled ≡ map (mail_told begun.batch.user begun.batch.folder) (take begun.put begun.batch.mails)

-- nothing else is put
abbrev pub PutsOnly : {S : Type 0} → Bool → (S → List KeptMail) → BegunBatch → S → BegunBatch → S → Type 0
PutsOnly tells unsettled before old after new = HasPutFront tells (Some before) (unsettled old) → HasPutFront tells (Some after) (unsettled new)

-- what a call settles: the batch that was on its way, unless that goes on or is dropped
abbrev pub settled_by : Option BegunBatch → Moving → List KeptMail
settled_by None result = []
settled_by (Some begun) moving.Went = []
settled_by (Some begun) (moving.Stays stay) = []
settled_by (Some begun) result = kept_mails begun.batch

-- nothing comes to the sink but the messages of a batch, each once
abbrev pub KeepsOnly : Bool → Option BegunBatch → List KeptMail → List KeptMail → Moving → Option BegunBatch → List KeptMail → List KeptMail → Type 0
KeepsOnly tells before unsettled kept result after later_unsettled later_kept =
    HasPutFront tells before unsettled → HasPutFront tells after later_unsettled × (IsTrue tells → later_kept ≡ kept ++ settled_by before result)

-- ---- what a call does with the sink

-- what it keeps, and that nothing else comes to it
pub record SinkFollows {S : Type 0} (tells : Bool) (kept unsettled : S → List KeptMail) (at : S → List ℕ → Type 0) (has_put keeps_at : S → List ℕ → KeptMail → Type 0) (before : Load) (old : S) (result : Moving) (after : Load) (new : S) : Type 0 where
  pub carries : Carries tells kept at has_put keeps_at before old result after new
  pub only : KeepsOnly tells before.begun (unsettled old) (kept old) result after.begun (unsettled new) (kept new)
