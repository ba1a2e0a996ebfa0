-- What the states of the code stand for.
use Rattle.std.specs.Prelude.{Bool, List, None, Option, Some, [], cond, drop, false, length, min, nat_lt, not, suc, take, true, zero, ℕ, ◌&&◌, ◌++◌, ◌+◌, ◌-◌, ◌==◌, ◌^◌, ◌||◌, ◌∷◌, ◌≡◌}
use Rattle.std.specs.Char.{to_ascii_uppercase, is_ascii_digit}
use Rattle.std.specs.List.{prefix_len}
use Rattle.octets.specs.Decimal.{with_digit}
use Rattle.managesieve_protocol.specs.declared.command_name.CommandName.{CommandName}
use Rattle.managesieve_protocol.specs.declared.command_name.Params.{Params}
use Rattle.managesieve_protocol.specs.declared.command_name.Params.TheVariants as params
use Rattle.managesieve_protocol.specs.declared.state.State.{State}
use Rattle.managesieve_protocol.specs.declared.state.State.TheVariants as state
use Rattle.managesieve_protocol.specs.Arguments.{is_quotable_octet}
use Rattle.managesieve_protocol.specs.Machine as machine
use Rattle.managesieve_protocol.specs.declared.items.ItemExtent.{ItemExtent}
use Rattle.managesieve_protocol.specs.declared.items.ItemExtent.TheVariants as reach
use Rattle.managesieve_protocol.specs.Scanning.{Scanned, Open, Found}

-- what may still follow on a line
abbrev pub params_shown : Params → machine.Params
params_shown params.LineEnd = machine.LineEnd
params_shown params.MaybeText = machine.MaybeText
params_shown params.Text = machine.ThenText machine.LineEnd
params_shown params.TextMaybeText = machine.ThenText machine.MaybeText
params_shown params.TwoTexts = machine.ThenText (machine.ThenText machine.LineEnd)
params_shown params.TextNumber = machine.ThenText machine.ThenNumber
params_shown params.Number = machine.ThenNumber

-- the state: letters of a name are kept as a verb that begins with them and how many they are
abbrev pub shown_state : State → machine.LineState
shown_state (state.Word verb count) = machine.Word (take count (machine.command_name verb))
shown_state (state.Between params) = machine.Between (params_shown params)
shown_state (state.Opening params) = machine.Opening (params_shown params)
shown_state (state.Quoted left params) = machine.Quoted left (params_shown params)
shown_state (state.Escaped left params) = machine.Escaped left (params_shown params)
shown_state (state.Brace params) = machine.Brace (params_shown params)
shown_state (state.Count number params) = machine.Count number (params_shown params)
shown_state (state.Plus number params) = machine.Plus number (params_shown params)
shown_state (state.Closed number params) = machine.Closed number (params_shown params)
shown_state (state.Return number params) = machine.Return number (params_shown params)
shown_state (state.Body left params) = machine.Body left (params_shown params)
shown_state state.Number = machine.Number
shown_state (state.Digits number) = machine.Digits number
shown_state state.LineFeed = machine.LineFeed
shown_state state.Whole = machine.Whole
shown_state state.Dead = machine.Dead

-- ---- parts of a step

-- one octet that must be this one
abbrev pub only : ℕ → ℕ → machine.LineState → machine.LineState
only octet wanted next = cond (octet == wanted) next machine.Dead

-- a number's first digit
abbrev pub first_digit : ℕ → Option ℕ
first_digit octet = cond (is_ascii_digit octet) (Some (with_digit 0 octet)) None

-- a number with one digit more, if it has no leading zero and stays below 2^32
abbrev pub next_digit : ℕ → ℕ → Option ℕ
next_digit number octet =
    cond (is_ascii_digit octet)
    (cond (number == 0) None (cond (nat_lt (with_digit number octet) (2 ^ 32)) (Some (with_digit number octet)) None))
    None

-- ---- octets that leave a line in its state

-- an octet between quotation marks that needs no escape
abbrev pub is_plain_quoted : ℕ → Bool
is_plain_quoted octet = is_quotable_octet octet && not (octet == 34 || octet == 92)

-- an octet that ends no line
abbrev pub is_inside_line : ℕ → Bool
is_inside_line octet = not (octet == 10)

-- how many octets at the start are these letters in upper or lower case
abbrev pub letters_matched : List ℕ → List ℕ → ℕ
letters_matched [] octets = zero
letters_matched (letter ∷ letters) [] = zero
letters_matched (letter ∷ letters) (octet ∷ rest) = cond (letter == to_ascii_uppercase octet) (suc (letters_matched letters rest)) zero

-- how many letters of a verb's name are read
abbrev pub letters_read : CommandName → ℕ → ℕ
letters_read verb count = min count (length (machine.command_name verb))

-- how many octets at the start leave the line in the same name, between the same quotation marks, or on the same bad line
abbrev pub skimmed : State → List ℕ → ℕ
skimmed (state.Word verb count) octets = letters_matched (drop (letters_read verb count) (machine.command_name verb)) octets
skimmed (state.Quoted left params) octets = prefix_len is_plain_quoted (take left octets)
skimmed state.Dead octets = prefix_len is_inside_line octets
skimmed _ octets = zero

-- the state after that many of these
abbrev pub state_after : State → ℕ → machine.LineState
state_after (state.Word verb count) more = machine.Word (take (letters_read verb count + more) (machine.command_name verb))
state_after (state.Quoted left params) more = machine.Quoted (left - more) (params_shown params)
state_after state more = shown_state state

-- ---- a scan

-- what a scan keeps: its state, or what it found
abbrev pub scan_shown : State → ℕ → ℕ → ItemExtent → Scanned
scan_shown state outside used reach.Need = Open (shown_state state) outside used
scan_shown state outside used (reach.Command length) = Found (reach.Command length)
scan_shown state outside used (reach.Bad length) = Found (reach.Bad length)
scan_shown state outside used reach.TooBig = Found reach.TooBig

-- the item that an octet ends, if any
abbrev pub ending : machine.LineState → ℕ → ℕ → ℕ → ItemExtent
ending state outside used octet =
    cond (nat_lt 8192 outside || (machine.is_large state && octet == 10)) reach.TooBig
    (cond (machine.ends_command (machine.step state octet)) (reach.Command used)
    (cond (machine.is_dead (machine.step state octet) && octet == 10) (reach.Bad used) reach.Need))

-- ---- verbs

-- a verb of these rows whose name begins with the letters and this one; `None` if none does
abbrev pub IsExtension : List (List ℕ × machine.Params) → List ℕ → ℕ → Option CommandName → Type 0
IsExtension rows letters letter None = machine.begins_row rows (letters ++ letter ∷ []) ≡ false
IsExtension rows letters letter (Some verb) = machine.begins (letters ++ letter ∷ []) (machine.command_name verb) ≡ true
