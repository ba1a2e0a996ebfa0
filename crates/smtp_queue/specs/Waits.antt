-- Rows that wait, and when they are due.
use Rattle.std.specs.Prelude.{◌≡◌, ◌&&◌, ◌||◌, nat_le, nat_lt, ℕ, ◌+◌, ◌*◌, ◌^◌, ◌-◌, min, Bool, true, if◌then◌else◌, List, Option, Some, None, option_map}
use Rattle.std.specs.declared.cmp.Ordering.{Ordering}
use Rattle.std.specs.BTreeMap.{get}
use Rattle.std.specs.Cmp.Lexicographic.{slice_cmp}
use Rattle.std.specs.Ordering.{nat_cmp, on, then_cmp}
use Rattle.smtp_dialogue.specs.declared.dialogue.Ending.{Ending}
use Rattle.smtp_dialogue.specs.declared.dialogue.Ending.TheVariants.{Sent, Refused, Delayed, OutOfPlace, Lost, Undeclared, Unaddressed}
use Rattle.smtp_queue.specs.declared.row_key.RowKey.{RowKey}
use Rattle.smtp_queue.specs.declared.wait.Wait.{Wait}
use Rattle.smtp_queue.specs.declared.waits.RowWaits.{RowWaits}

abbrev pub row_key : List ℕ → ℕ → RowKey
row_key user id = record { user = user; id = id }

-- by the octets of the users, and the numbers
abbrev pub row_key_cmp : RowKey → RowKey → Ordering
row_key_cmp = then_cmp (on (λ p. p.user) (slice_cmp nat_cmp)) (on (λ p. p.id) nat_cmp)

-- what is known of the row at a place
abbrev pub wait_of : RowWaits → RowKey → Option Wait
wait_of waits at = get row_key_cmp waits.map at

abbrev pub largest : ℕ
largest = 2 ^ 64 - 1

-- a wait is over at a moment, or is more than a day ahead, as none is that was noted by a right clock
abbrev pub is_wait_over : ℕ → Wait → Bool
is_wait_over now wait = nat_le wait.due now || nat_lt (min (now + 86400) largest) wait.due

-- it doesn't keep the row back at a moment
abbrev pub allows : ℕ → Option Wait → Bool
allows now None = true
allows now (Some wait) = is_wait_over now wait

-- the row at a place is due at a moment
abbrev pub is_row_due : RowWaits → ℕ → RowKey → Bool
is_row_due waits now at = allows now (wait_of waits at)

-- ---- how long a row waits

-- how many times the row was tried without success
abbrev pub tries_in : Option Wait → ℕ
tries_in None = 0
tries_in (Some wait) = wait.tries

-- 1, 2, 4, 8, 16, 32 and then 60 minutes, in seconds
abbrev pub pause_after : ℕ → ℕ
pause_after tries = if nat_lt tries 6 then 60 * 2 ^ tries else 3600

-- a row that was sent doesn't wait; one that is permanently refused, that needs what the server doesn't offer, or that has an address that
-- is no mailbox waits a day
abbrev pub seconds_after : Ending → ℕ → Option ℕ
seconds_after Sent tries = None
seconds_after (Refused code) tries = Some 86400
seconds_after (Delayed code) tries = Some (pause_after tries)
seconds_after (OutOfPlace code) tries = Some (pause_after tries)
seconds_after Lost tries = Some (pause_after tries)
seconds_after Undeclared tries = Some 86400
seconds_after Unaddressed tries = Some 86400

-- the wait of a row that was tried this often before, and at a moment ended so that it waits this long
abbrev pub wait_until : ℕ → ℕ → ℕ → Wait
wait_until tries moment seconds = record { due = min (moment + seconds) largest; tries = min (tries + 1) largest }

abbrev pub wait_after : ℕ → Ending → ℕ → Option Wait
wait_after tries ending moment = option_map (wait_until tries moment) (seconds_after ending tries)

-- what is known after the row at a place was tried: its own wait by the one before, and those of other rows as they were
pub record NotesEnding (at : RowKey) (ending : Ending) (moment : ℕ) (old new : RowWaits) : Type 0 where
  pub own : wait_of new at ≡ wait_after (tries_in (wait_of old at)) ending moment
  pub others : (other : RowKey) → (other ≡ at → ⊥) → wait_of new other ≡ wait_of old other

-- a wait is kept within two days of the moment at which its row is due: none longer, since its row may be gone, and none farther ahead,
-- since it keeps no row back
abbrev pub is_wait_kept : ℕ → Wait → Bool
is_wait_kept now wait = nat_lt now (min (wait.due + 172800) largest) && nat_le wait.due (min (now + 172800) largest)
