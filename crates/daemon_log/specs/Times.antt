-- How long events took: counts in 32 slots of times.
use Rattle.std.specs.Prelude.{◌≡◌, ◌≢◌, ℕ, ◌+◌, ◌*◌, ◌<◌, ◌≤◌, min, ◌==◌, Bool, true, false, List, [], ◌∷◌, take, sum, slice_index_or}
use Rattle.std.specs.Int.{div_ceil}
use Rattle.daemon_log.specs.declared.times.Times.{Times}

-- the longest time of each slot, in microseconds
abbrev pub bounds : List ℕ
bounds =
    10 ∷ 20 ∷ 30 ∷ 50 ∷ 70 ∷ 100 ∷ 150 ∷ 200 ∷ 300 ∷ 500 ∷ 700 ∷ 1000 ∷ 1500 ∷ 2000 ∷ 3000 ∷ 5000 ∷ 7000 ∷ 10000 ∷ 15000 ∷ 20000 ∷ 30000 ∷ 50000 ∷ 70000 ∷ 100000 ∷ 150000 ∷ 200000
    ∷ 300000 ∷ 500000 ∷ 1000000 ∷ 2000000 ∷ 5000000 ∷ 60000000 ∷ []

abbrev pub bound_of : ℕ → ℕ
bound_of slot = slice_index_or bounds slot 0

-- the slot of a time: the time is longer than the bounds of the slots before, and no longer than this one's; the last slot has all longer times, too
pub record IsSlotOf (micros slot : ℕ) : Type 0 where
  pub is : slot < 32
  pub longer : (before : ℕ) → before < slot → bound_of before < micros
  pub fits : slot < 31 → micros ≤ bound_of slot

-- how many were counted up to and including a slot
abbrev pub up_to : List ℕ → ℕ → ℕ
up_to counts slot = sum (take (slot + 1) counts)

-- the first slot up to which that many were counted; if there is none, the last
pub record IsFirstWith (counts : List ℕ) (wanted slot : ℕ) : Type 0 where
  pub is : slot < 32
  pub fewer : (before : ℕ) → before < slot → up_to counts before < wanted
  pub enough : slot < 31 → wanted ≤ up_to counts slot

-- ---- the counts of events

-- one more, up to the greatest number of 32 bits
abbrev pub one_more : ℕ → ℕ
one_more count = min (count + 1) 4294967295

-- no event
pub record HasNoEvents (times : Times) : Type 0 where
  pub counts : (slot : ℕ) → slice_index_or times.counts slot 0 ≡ 0
  pub total : times.total ≡ 0

-- an event that took this time is counted in its slot, and in no other
pub record CountsEvent (micros : ℕ) (old new : Times) : Type 0 where
  pub slot : ℕ
  pub is : IsSlotOf micros slot
  pub here : slice_index_or new.counts slot 0 ≡ one_more (slice_index_or old.counts slot 0)
  pub elsewhere : (other : ℕ) → other ≢ slot → slice_index_or new.counts other 0 ≡ slice_index_or old.counts other 0
  pub total : new.total ≡ one_more old.total

-- that percentage of a number of events, rounded up
abbrev pub percent_of : ℕ → ℕ → ℕ
percent_of total percent = div_ceil (total * percent) 100

-- the bound of the first slot up to which that many events were counted; 0 if there were none
abbrev pub IsPercentileOf : Bool → Times → ℕ → ℕ → Type 0
IsPercentileOf true times percent micros = micros ≡ 0
IsPercentileOf false times percent micros = (slot : ℕ) × IsFirstWith times.counts (percent_of times.total percent) slot × (micros ≡ bound_of slot)

-- the bound of the first slot up to which that many of a hundred events were counted; 0 if there were none
abbrev pub IsPercentile : Times → ℕ → ℕ → Type 0
IsPercentile times percent micros = IsPercentileOf (times.total == 0) times percent micros
