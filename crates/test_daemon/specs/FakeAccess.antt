-- What an outside in memory tells.
use Rattle.std.specs.Prelude.{⊤, Bool, not, List}
use Rattle.net_loop.specs.declared.act.Act.{Act}
use Rattle.net_loop.specs.Told.{Telling}
use Rattle.maildir_files.specs.declared.kept.KeptMail.{KeptMail}
use Rattle.maildir_moves.specs.declared.moving.Moving.{Moving}
use Rattle.daemon_core.specs.StoreAccess.{View, StoreFacts}
use Rattle.daemon_core.specs.declared.note.Note.{Note}
use Rattle.test_daemon.specs.declared.fake_access.FakeAccess.{FakeAccess}

-- it tells as long as it has had memory for all
abbrev pub is_told : {S : Type 0} → FakeAccess S → Bool
is_told access = not access.stage.fake.lost

abbrev pub acts_told_by : {S : Type 0} → FakeAccess S → List (Act Note)
acts_told_by access = access.stage.fake.acts.items

-- where the accounts are
abbrev pub shelf_of : {S : Type 0} → FakeAccess S → S
shelf_of access = access.stage.fake.rest

abbrev pub fake_telling : {S : Type 0} → Telling (FakeAccess S) Note S
fake_telling = record { tells = is_told; seen = acts_told_by; rest = shelf_of }

-- what is known of such a store: its disk returns what was written, what the host says, that others may come at any time, and that its clock may give any moment
abbrev pub fake_store : {S : Type 0} → View S → (S → List KeptMail → Type 0) → (S → Moving → Type 0) → StoreFacts (FakeAccess S) S
fake_store view has there = record { view = view; clean = λ shelf. Unit {0}; host = λ access. access.host; has = has; there = there; had = λ shelf. ⊥; gave = λ access moment. ⊤ }
