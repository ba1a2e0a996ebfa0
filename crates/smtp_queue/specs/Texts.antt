-- Rows that wait, as a text.
use Rattle.std.specs.Prelude.{◌≡◌, ◌==◌, ◌<◌, ◌^◌, ℕ, true, not, List, [], ◌∷◌, ◌++◌, decimal, Option, Some, None}
use Rattle.std.specs.List.{flat_map, list_all, filter}
use Rattle.std.specs.Map.{keys_of}
use Rattle.std.specs.List.Sorted.{IsStrictlySortedBy}
use Rattle.smtp_queue.specs.Waits.{is_wait_kept, row_key_cmp}
use Rattle.smtp_queue.specs.declared.row_key.RowKey.{RowKey}
use Rattle.smtp_queue.specs.declared.waits_file.Number.{Number}
use Rattle.smtp_queue.specs.declared.waits_file.Parts.{Parts}
use Rattle.smtp_queue.specs.declared.wait.Wait.{Wait}
use Rattle.smtp_queue.specs.declared.waits.RowWaits.{RowWaits}

-- the moment from which on the row is due, how often it was tried, its number, and the user
abbrev pub wait_body : RowKey × Wait → List ℕ
wait_body entry = decimal entry.1.due ++ 32 ∷ (decimal entry.1.tries ++ 32 ∷ (decimal entry.0.id ++ 32 ∷ entry.0.user))

-- a line of it
abbrev pub wait_line : RowKey × Wait → List ℕ
wait_line entry = wait_body entry ++ 10 ∷ []

-- a line for each wait: the moment, the tries, the number and the user
abbrev pub waits_text : List (RowKey × Wait) → List ℕ
waits_text entries = flat_map wait_line entries

-- those that are kept at a moment
abbrev pub kept_at : ℕ → List (RowKey × Wait) → List (RowKey × Wait)
kept_at now entries = filter (λ entry. is_wait_kept now entry.1) entries

-- numbers of 64 bits, and a user whose name has no LF
pub record IsWritable (entry : RowKey × Wait) : Type 0 where
  pub due : entry.1.due < 2 ^ 64
  pub tries : entry.1.tries < 2 ^ 64
  pub id : entry.0.id < 2 ^ 64
  pub user : list_all (λ octet. not (octet == 10)) entry.0.user ≡ true

abbrev pub AreWritable : List (RowKey × Wait) → Type 0
AreWritable [] = Unit {0}
AreWritable (entry ∷ entries) = IsWritable entry × AreWritable entries

-- waits by place, in order, that can be written
pub record IsBook (entries : List (RowKey × Wait)) : Type 0 where
  pub sorted : IsStrictlySortedBy row_key_cmp (keys_of entries)
  pub writable : AreWritable entries

-- it was found, with its number and what follows it
abbrev pub IsNumberRead : ℕ → List ℕ → Option Number → Type 0
IsNumberRead n rest None = ⊥
IsNumberRead n rest (Some number) = (number.value ≡ n) × (number.rest.now ≡ rest)

-- they were found, and are those of a wait
pub record IsPartsOf (entry : RowKey × Wait) (parts : Parts) : Type 0 where
  pub due : parts.due ≡ entry.1.due
  pub tries : parts.tries ≡ entry.1.tries
  pub id : parts.id ≡ entry.0.id
  pub user : parts.user.now ≡ entry.0.user

abbrev pub ArePartsOf : RowKey × Wait → Option Parts → Type 0
ArePartsOf entry None = ⊥
ArePartsOf entry (Some parts) = IsPartsOf entry parts

abbrev pub wait_in : Parts → Wait
wait_in parts = record { due = parts.due; tries = parts.tries }

-- a text was read as these waits
abbrev pub IsWaitsText : List (RowKey × Wait) → Option RowWaits → Type 0
IsWaitsText own None = ⊥
IsWaitsText own (Some waits) = waits.map.entries ≡ own
