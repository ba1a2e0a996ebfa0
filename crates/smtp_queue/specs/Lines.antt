-- What is printed of rows.
use Rattle.std.specs.Prelude.{ℕ, Bool, true, false, List, [], ◌∷◌, ◌++◌, codes, decimal}
use Rattle.smtp_dialogue.specs.declared.dialogue.Ending.{Ending}
use Rattle.smtp_dialogue.specs.declared.dialogue.Ending.TheVariants.{Sent, Refused, Delayed, OutOfPlace, Lost, Undeclared, Unaddressed}
use Rattle.smtp_queue.specs.declared.row_key.RowKey.{RowKey}

abbrev pub place_text : RowKey → List ℕ
place_text place = place.user ++ 32 ∷ decimal place.id

abbrev pub cause_text : Ending → List ℕ
cause_text Sent = codes ": sent"
cause_text (Refused code) = codes ": refused with " ++ decimal code
cause_text (Delayed code) = codes ": delayed with " ++ decimal code
cause_text (OutOfPlace code) = codes ": answered with " ++ decimal code
cause_text Lost = codes ": no connection"
cause_text Undeclared = codes ": not offered by the server"
cause_text Unaddressed = codes ": no mailbox"

-- a row that was tried
abbrev pub row_line : RowKey → Ending → List ℕ
row_line place Sent = (codes "sent " ++ place_text place) ++ 10 ∷ []
row_line place ending = ((codes "waits " ++ place_text place) ++ cause_text ending) ++ 10 ∷ []

-- it is told as an error, too
abbrev pub is_for_good : Ending → Bool
is_for_good (Refused code) = true
is_for_good Undeclared = true
is_for_good Unaddressed = true
is_for_good ending = false

abbrev pub refusal_line : RowKey → Ending → List ℕ
refusal_line place ending = ((codes "sieved: " ++ place_text place) ++ cause_text ending) ++ 10 ∷ []

-- a row that was sent, if another one has its number now
abbrev pub changed_line : RowKey → List ℕ
changed_line place = ((codes "sieved: " ++ place_text place) ++ codes ": another message has the number now") ++ 10 ∷ []

-- a row that was sent, and is in the queue of no open account any more
abbrev pub gone_line : RowKey → List ℕ
gone_line place = ((codes "sieved: " ++ place_text place) ++ codes ": taken out meanwhile, or the account is closed") ++ 10 ∷ []

-- the end of a run
abbrev pub tally_line : ℕ → ℕ → List ℕ
tally_line sent waiting = (((codes "sent " ++ decimal sent) ++ codes ", wait ") ++ decimal waiting) ++ 10 ∷ []
