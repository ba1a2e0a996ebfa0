-- What a connection of LMTP waits for, and for how long it may.
use Rattle.std.specs.Prelude.{ℕ, ◌+◌, ◌-◌, ◌%◌, ◌^◌, ◌<◌, ◌≤◌, min, Bool, true, false, if◌then◌else◌}
use Rattle.lmtp_connections.specs.declared.progress.LmtpProgress.{LmtpProgress}
use Rattle.lmtp_connections.specs.declared.progress.StoreWait.{StoreWait}
use Rattle.lmtp_connections.specs.declared.progress.StoreWait.TheVariants.{Nothing, Store}
use Rattle.lmtp_connections.specs.declared.progress.Wanted.{Wanted}
use Rattle.lmtp_connections.specs.declared.progress.Wanted.TheVariants.{Until}

-- for how many milliseconds the store is asked for without success, for all recipients of a message together; how many later it is asked
-- for again; and for how many a client may say nothing (RFC 5321, section 4.5.3.2.7)
abbrev pub max_delivery_wait : ℕ
max_delivery_wait = 60000

abbrev pub lmtp_retry_span : ℕ
lmtp_retry_span = 5

abbrev pub max_lmtp_silence : ℕ
max_lmtp_silence = 300000

-- the moment this many milliseconds later
abbrev pub after_span : ℕ → ℕ → ℕ
after_span now span = (now + span) % 2 ^ 64

-- that of a new message
abbrev pub new_progress : ℕ → LmtpProgress
new_progress now = record { tried = 0; told = 0; waits = Nothing; spent = 0; since = now; claim_since = now }

-- ---- the store

-- for how many milliseconds it was away in all; more than the most aren't counted
abbrev pub away_for : ℕ → StoreWait → ℕ
away_for now Nothing = 0
away_for now (Store since again) = now - since

abbrev pub waited : ℕ → LmtpProgress → ℕ
waited now t = min (t.spent + away_for now t.waits) max_delivery_wait

-- it may be asked for; or it was asked for without success for that long
abbrev pub MayAskStore : ℕ → LmtpProgress → Type 0
MayAskStore now t = waited now t < max_delivery_wait

-- the store was waited for as long as a message may wait
abbrev pub HasWaited : ℕ → LmtpProgress → Type 0
HasWaited now t = max_delivery_wait ≤ waited now t

abbrev pub store_asked_since : ℕ → StoreWait → ℕ
store_asked_since now Nothing = now
store_asked_since now (Store since again) = since

-- after its absence; after what was done, whether it was available or isn't asked for any more
abbrev pub progress_away : ℕ → LmtpProgress → LmtpProgress
progress_away now t = record t { waits = Store (store_asked_since now t.waits) (after_span now lmtp_retry_span) }

abbrev pub progress_done : ℕ → LmtpProgress → LmtpProgress
progress_done now t = record t { waits = Nothing; spent = waited now t; since = now }

-- after something that was done, while a transaction is open or none is, with a recipient that was taken or without; and it is without one
-- from now on at the earliest if it had one
abbrev pub progress_settled : ℕ → Bool → Bool → LmtpProgress → LmtpProgress
progress_settled now opened taken t = record (if opened then progress_done now t else new_progress now) { claim_since = if taken then now else t.claim_since }

-- ---- the client

-- of a text that is sent each octet buys a millisecond: so it comes with 60,000 octets a minute at least
abbrev pub since_by : ℕ → Bool → ℕ → ℕ → ℕ
since_by now true count since = min (after_span since count) now
since_by now false count since = now

abbrev pub progress_heard : ℕ → Bool → ℕ → LmtpProgress → LmtpProgress
progress_heard now sending count t = record t { since = since_by now sending count t.since }

-- while the store is waited for nothing is owed
abbrev pub lmtp_due_by : StoreWait → ℕ → ℕ
lmtp_due_by Nothing since = after_span since max_lmtp_silence
lmtp_due_by (Store first again) since = 2 ^ 64 - 1

-- the moment at which the client is late
abbrev pub due : LmtpProgress → ℕ
due t = lmtp_due_by t.waits t.since

-- what is wanted, if the dialogue wants this
abbrev pub wanted_by : Wanted → StoreWait → Wanted
wanted_by comes Nothing = comes
wanted_by comes (Store since again) = Until again

-- what is wanted of it
abbrev pub wanted : Wanted → LmtpProgress → Wanted
wanted comes t = wanted_by comes t.waits
