-- What is noted of what happened.
use Rattle.std.specs.Prelude.{◌+◌, ◌||◌, ℕ, min, not, Bool, true, false, List, [], ◌∷◌, Option, Some}
use Rattle.lmtp_dialogue.specs.declared.receiver.Lookup.{Lookup}
use Rattle.lmtp_dialogue.specs.declared.receiver.Lookup.TheVariants.{Fault}
use Rattle.store_engine.specs.declared.answer.Answer.{Answer}
use Rattle.store_engine.specs.declared.answer.Answer.TheVariants.{Refused}
use Rattle.sqlite.specs.declared.error.ErrorCode.{ErrorCode}
use Rattle.sqlite.specs.declared.error.ErrorCode.TheVariants.{DiskFull}
use Rattle.daemon_core.specs.declared.gathered.GatheredRequest.{GatheredRequest}
use Rattle.daemon_host.specs.Log.{is_delivered_answer, is_store_fault}
use Rattle.daemon_log.specs.declared.tally.EventCounts.{EventCounts}

-- once more, up to the greatest number of 64 bits
abbrev pub more : ℕ → ℕ
more times = min (times + 1) 18446744073709551615

-- a message that was filed, or refused
abbrev pub with_delivery : Bool → EventCounts → EventCounts
with_delivery true c = record c { delivered = more c.delivered }
with_delivery false c = record c { refused = more c.refused }

-- so many messages that moved on
abbrev pub moved_by : ℕ → EventCounts → EventCounts
moved_by count c = record c { moved = min (c.moved + count) 18446744073709551615 }

-- a command that was answered, and a login that failed
abbrev pub with_command : EventCounts → EventCounts
with_command c = record c { commands = more c.commands }

abbrev pub with_failed_login : EventCounts → EventCounts
with_failed_login c = record c { logins_failed = more c.logins_failed }

-- ---- whether the store failed, and is to be given back

-- a full disk is no cause for that
abbrev pub is_full : Option ErrorCode → Bool
is_full (Some DiskFull) = true
is_full _ = false

-- after a fault of the store, if there was one
abbrev pub failed_by : Bool → Option ErrorCode → Bool → Bool
failed_by true code failed = failed || not (is_full code)
failed_by false code failed = failed

-- what an answer, a look for an account and a message that was to move on say of it
abbrev pub answers_fault : Answer → Bool
answers_fault (Refused refusal) = is_store_fault refusal
answers_fault _ = false

abbrev pub is_fault : Lookup → Bool
is_fault Fault = true
is_fault _ = false

-- ---- the same of messages that were delivered together, each by its answer

abbrev pub with_deliveries : List GatheredRequest → List Answer → EventCounts → EventCounts
with_deliveries [] answers c = c
with_deliveries (it ∷ more) [] c = c
with_deliveries (it ∷ more) (answer ∷ answers) c = with_deliveries more answers (with_delivery (is_delivered_answer answer) c)

abbrev pub failed_by_each : List GatheredRequest → List Answer → Option ErrorCode → Bool → Bool
failed_by_each [] answers code failed = failed
failed_by_each (it ∷ more) [] code failed = failed
failed_by_each (it ∷ more) (answer ∷ answers) code failed = failed_by_each more answers code (failed_by (answers_fault answer) code failed)
