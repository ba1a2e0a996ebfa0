-- An account, as the head and the parts of its text.
use Rattle.std.specs.Prelude.{◌==◌, ◌++◌, ℕ, Bool, false, List, [], ◌∷◌, map, Option, Some, None, if◌then◌else◌}
use Rattle.std.specs.FinMap.{entries}
use Rattle.store_text.specs.declared.head.AccountHead.{AccountHead}
use Rattle.store_text.specs.declared.head.Numbers.{Numbers}
use Rattle.store_text.specs.declared.head.AccountOwner.{AccountOwner}
use Rattle.store_text.specs.declared.part.LetterKind.{LetterKind}
use Rattle.store_text.specs.declared.part.LetterKind.TheVariants.{Redirect, Answer}
use Rattle.store_text.specs.declared.part.Part.{Part}
use Rattle.store_text.specs.declared.part.Part.TheVariants.{Script, Reply, Mail, Copy, Letter, Notice}
use Rattle.store_tables.specs.declared.queue.QueuedKind.{QueuedKind}
use Rattle.store_tables.specs.declared.queue.QueuedKind.TheVariants as kind
use Rattle.store_accounts.specs.declared.account.Counters.{Counters}
use Rattle.store_accounts.specs.declared.profile.Profile.{Profile}
use Rattle.store_accounts.specs.declared.notice.Notice.{Notice as KeptNotice}
use Rattle.store_accounts.specs.declared.queue.QueuedMessage.{QueuedMessage}
use Rattle.store_accounts.specs.Account.{Account}
use Rattle.store_accounts.specs.CopyRows.{Copy as KeptCopy}
use Rattle.store_export.specs.declared.run.Run.{Run}

-- ---- what it has once

abbrev pub account_owner : List ℕ → Account → AccountOwner
account_owner user a = record { name = user; address = a.address; salt = a.password.salt; digest = a.password.digest; active = a.active }

-- the counters of copies and of notices are not in an account
abbrev pub numbers_of : Account → ℕ → ℕ → Numbers
numbers_of a next_copy next_notice = record { rounds = a.password.rounds; next_copy = next_copy; next_out = a.next_out; next_notice = next_notice }

abbrev pub account_head : List ℕ → Account → ℕ → ℕ → AccountHead
account_head user a next_copy next_notice = record { owner = account_owner user a; numbers = numbers_of a next_copy next_notice }

-- the same from what is read of it
abbrev pub head_by : List ℕ → Profile → Counters → AccountHead
head_by user profile counters = record {
  owner = record { name = user; address = profile.address; salt = profile.salt; digest = profile.digest; active = profile.active };
  numbers = record { rounds = profile.rounds; next_copy = counters.copy; next_out = counters.out; next_notice = counters.notice };
}

-- ---- consecutive copies of one message

-- a copy with this number of its message continues the run
abbrev pub continues_run : Option Run → ℕ → Bool
continues_run None id = false
continues_run (Some run) id = id == run.id

-- the number of the first copy of the run that this copy is in, given its own number and its message's
abbrev pub first_in : Option Run → ℕ → ℕ → ℕ
first_in None n id = n
first_in (Some run) n id = if id == run.id then run.first else n

-- and that run
abbrev pub run_with : Option Run → ℕ → ℕ → Run
run_with run n id = record { id = id; first = first_in run n id }

-- ---- its parts

abbrev pub script_part : List ℕ × List ℕ → Part
script_part e = Script e.0 e.1

abbrev pub reply_part : (List ℕ × List ℕ) × ℕ → Part
reply_part e = Reply e.0.0 e.0.1 e.1

-- a copy after one of the same message says only where it is, and its own flags
abbrev pub copy_part : Option Run → KeptCopy → Part
copy_part run c = if continues_run run c.id then Copy c.n c.folder (first_in run c.n c.id) c.flags else Mail c.n c.folder c.message c.flags

abbrev pub copy_parts : Option Run → List KeptCopy → List Part
copy_parts run [] = []
copy_parts run (c ∷ copies) = copy_part run c ∷ copy_parts (Some (run_with run c.n c.id)) copies

abbrev pub way_of : QueuedKind → LetterKind
way_of kind.Redirect = Redirect
way_of kind.Reply = Answer

abbrev pub letter_part : QueuedMessage → Part
letter_part out = Letter out.id (way_of out.kind) out.sender out.target out.message

abbrev pub notice_part : ℕ × KeptNotice → Part
notice_part e = Notice e.0 e.1.moment e.1.text

-- scripts by name, moments by handle and sender, copies by number, messages on their way out by number, notices by number
abbrev pub account_parts : Account → List KeptCopy → List (ℕ × KeptNotice) → List Part
account_parts a copies notices =
    map script_part (entries a.scripts) ++ (map reply_part (entries a.replies)
    ++ (copy_parts None copies ++ (map letter_part a.queue ++ map notice_part notices)))
