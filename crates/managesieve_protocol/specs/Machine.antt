-- The lines of ManageSieve read octet by octet: a state for each octet, and no search.
use Rattle.std.specs.Prelude.{◌≡◌, refl, ℕ, zero, suc, ◌+◌, ◌-◌, ◌^◌, Bool, true, false, ◌&&◌, ◌||◌, cond, ◌==◌, nat_lt, List, [], ◌∷◌, ◌++◌, Option, Some, None, codes}
use Rattle.std.specs.Char.{to_ascii_uppercase, is_ascii_digit}
use Rattle.managesieve_protocol.specs.declared.command_name.CommandName.{CommandName}
use Rattle.managesieve_protocol.specs.declared.command_name.CommandName.TheVariants as verb
use Rattle.std.proofs.Common.{ap}
use Rattle.std.specs.Coded.{Coded, code_by, coded_ℕ}
use Rattle.octets.specs.Decimal.{with_digit}
use Rattle.managesieve_protocol.specs.Arguments.{is_quotable_octet}

-- ---- what may still follow on a line

pub data Params : Type 0 where
  LineEnd : Params
  MaybeText : Params
  ThenText : Params → Params
  ThenNumber : Params

-- params as a number, the code by which a type that shows them is stored
abbrev pub params_number : Params → ℕ
params_number LineEnd = zero
params_number MaybeText = suc zero
params_number ThenNumber = suc (suc zero)
params_number (ThenText more) = suc (suc (suc (params_number more)))

abbrev pub number_params : ℕ → Params
number_params zero = LineEnd
number_params (suc zero) = MaybeText
number_params (suc (suc zero)) = ThenNumber
number_params (suc (suc (suc n))) = ThenText (number_params n)

pub params_back : (params : Params) → number_params (params_number params) ≡ params
params_back LineEnd = refl
params_back MaybeText = refl
params_back ThenNumber = refl
params_back (ThenText more) = ap ThenText (params_back more)

abbrev pub params_code : Coded Params
params_code = code_by ℕ coded_ℕ params_number number_params params_back

-- the names of the commands
abbrev pub command_name : CommandName → List ℕ
command_name verb.Authenticate = codes "AUTHENTICATE"
command_name verb.Capability = codes "CAPABILITY"
command_name verb.CheckScript = codes "CHECKSCRIPT"
command_name verb.DeleteScript = codes "DELETESCRIPT"
command_name verb.GetScript = codes "GETSCRIPT"
command_name verb.HaveSpace = codes "HAVESPACE"
command_name verb.ListScripts = codes "LISTSCRIPTS"
command_name verb.Logout = codes "LOGOUT"
command_name verb.Noop = codes "NOOP"
command_name verb.PutScript = codes "PUTSCRIPT"
command_name verb.RenameScript = codes "RENAMESCRIPT"
command_name verb.SetActive = codes "SETACTIVE"
command_name verb.Unauthenticate = codes "UNAUTHENTICATE"

-- what may follow each
abbrev pub params_of : CommandName → Params
params_of verb.Authenticate = ThenText MaybeText
params_of verb.Capability = LineEnd
params_of verb.CheckScript = ThenText LineEnd
params_of verb.DeleteScript = ThenText LineEnd
params_of verb.GetScript = ThenText LineEnd
params_of verb.HaveSpace = ThenText ThenNumber
params_of verb.ListScripts = LineEnd
params_of verb.Logout = LineEnd
params_of verb.Noop = MaybeText
params_of verb.PutScript = ThenText (ThenText LineEnd)
params_of verb.RenameScript = ThenText (ThenText LineEnd)
params_of verb.SetActive = ThenText LineEnd
params_of verb.Unauthenticate = LineEnd

-- all of them
abbrev pub command_names : List CommandName
command_names = verb.Authenticate ∷ verb.Capability ∷ verb.CheckScript ∷ verb.DeleteScript ∷ verb.GetScript ∷ verb.HaveSpace ∷ verb.ListScripts
    ∷ verb.Logout ∷ verb.Noop ∷ verb.PutScript ∷ verb.RenameScript ∷ verb.SetActive ∷ verb.Unauthenticate ∷ []

-- names, and what may follow each
abbrev pub command_rows_of : List CommandName → List (List ℕ × Params)
command_rows_of [] = []
command_rows_of (verb ∷ more) = (command_name verb, params_of verb) ∷ command_rows_of more

unfoldable pub rows : List (List ℕ × Params)
rows = command_rows_of command_names

-- whether the word begins with the letters
abbrev pub begins : List ℕ → List ℕ → Bool
begins [] word = true
begins (letter ∷ letters) [] = false
begins (letter ∷ letters) (other ∷ word) = letter == other && begins letters word

-- whether some row's name begins with the letters
abbrev pub begins_row : List (List ℕ × Params) → List ℕ → Bool
begins_row [] letters = false
begins_row (row ∷ more) letters = begins letters row.0 || begins_row more letters

-- whether the two words are equal
abbrev pub same_word : List ℕ → List ℕ → Bool
same_word [] [] = true
same_word [] (other ∷ word) = false
same_word (letter ∷ letters) [] = false
same_word (letter ∷ letters) (other ∷ word) = letter == other && same_word letters word

-- what may follow the name
abbrev pub params_in : List (List ℕ × Params) → List ℕ → Option Params
params_in [] word = None
params_in (row ∷ more) word = cond (same_word row.0 word) (Some row.1) (params_in more word)

-- the verb of this name
abbrev pub command_named : List CommandName → List ℕ → Option CommandName
command_named [] word = None
command_named (verb ∷ more) word = cond (same_word (command_name verb) word) (Some verb) (command_named more word)

-- ---- states

pub data LineState : Type 0 where
  -- in a name, these letters of it read, in upper case
  Word : List ℕ → LineState
  -- after a name or an argument
  Between : Params → LineState
  -- at the start of a string
  Opening : Params → LineState
  -- between quotation marks; that many octets more may come
  Quoted : ℕ → Params → LineState
  -- after a backslash
  Escaped : ℕ → Params → LineState
  -- after the brace of a literal
  Brace : Params → LineState
  -- in its number, after the plus, after the closing brace, after the CR
  Count : ℕ → Params → LineState
  Plus : ℕ → Params → LineState
  Closed : ℕ → Params → LineState
  Return : ℕ → Params → LineState
  -- inside a literal, of which one octet and that many more are to come
  Body : ℕ → Params → LineState
  -- at the start of a number, and in a number
  Number : LineState
  Digits : ℕ → LineState
  -- after the line's CR, after its LF, and when no command can follow
  LineFeed : LineState
  Whole : LineState
  Dead : LineState

-- after a space
abbrev pub after_space : Params → LineState
after_space LineEnd = Dead
after_space MaybeText = Opening LineEnd
after_space (ThenText more) = Opening more
after_space ThenNumber = Number

-- after a CR that ends a line
abbrev pub after_return : Params → LineState
after_return LineEnd = LineFeed
after_return MaybeText = LineFeed
after_return (ThenText more) = Dead
after_return ThenNumber = Dead

-- after a name or an argument and one octet
abbrev pub leave : Params → ℕ → LineState
leave params octet = cond (octet == 32) (after_space params) (cond (octet == 13) (after_return params) Dead)

-- after a name, if it is one
abbrev pub leave_named : Option Params → ℕ → LineState
leave_named None octet = Dead
leave_named (Some params) octet = leave params octet

-- a number and one digit more, if it has no leading zero and stays below 2^32
abbrev pub longer : (ℕ → LineState) → ℕ → ℕ → LineState
longer to number octet =
    cond (number == 0) Dead (cond (nat_lt (with_digit number octet) (2 ^ 32)) (to (with_digit number octet)) Dead)

-- if that many octets of a literal are to come
abbrev pub literal_left : ℕ → Params → LineState
literal_left left params = cond (left == 0) (Between params) (Body (left - 1) params)

-- the state after one octet more
abbrev pub step : LineState → ℕ → LineState
step (Word letters) octet =
    cond (begins_row rows (letters ++ to_ascii_uppercase octet ∷ [])) (Word (letters ++ to_ascii_uppercase octet ∷ []))
    (leave_named (params_in rows letters) octet)
step (Between params) octet = leave params octet
step (Opening params) octet = cond (octet == 34) (Quoted 1024 params) (cond (octet == 123) (Brace params) Dead)
step (Quoted left params) octet =
    cond (octet == 34) (Between params)
    (cond (octet == 92) (cond (nat_lt 1 left) (Escaped (left - 2) params) Dead)
    (cond (is_quotable_octet octet && nat_lt 0 left) (Quoted (left - 1) params) Dead))
step (Escaped left params) octet = cond (octet == 34 || octet == 92) (Quoted left params) Dead
step (Brace params) octet = cond (is_ascii_digit octet) (Count (with_digit 0 octet) params) Dead
step (Count number params) octet =
    cond (octet == 43) (Plus number params)
    (cond (is_ascii_digit octet) (longer (λ n. Count n params) number octet) Dead)
step (Plus number params) octet = cond (octet == 125) (Closed number params) Dead
step (Closed number params) octet = cond (octet == 13) (Return number params) Dead
step (Return number params) octet = cond (octet == 10) (literal_left number params) Dead
step (Body left params) octet = literal_left left params
step Number octet = cond (is_ascii_digit octet) (Digits (with_digit 0 octet)) Dead
step (Digits number) octet =
    cond (octet == 13) LineFeed (cond (is_ascii_digit octet) (longer (λ n. Digits n) number octet) Dead)
step LineFeed octet = cond (octet == 10) Whole Dead
step Whole octet = Dead
step Dead octet = Dead

-- the state after a text
abbrev pub run : LineState → List ℕ → LineState
run state [] = state
run state (octet ∷ rest) = run (step state octet) rest

-- the state before the first octet of a line; if a challenge is pending the line is one string
abbrev pub start_state : Bool → LineState
start_state false = Word []
start_state true = Opening LineEnd

-- ---- what a state says

-- the next octet is inside a literal
abbrev pub in_literal : LineState → Bool
in_literal (Body left params) = true
in_literal _ = false

-- a command ends here
abbrev pub ends_command : LineState → Bool
ends_command Whole = true
ends_command _ = false

-- no command can follow from here
abbrev pub is_dead : LineState → Bool
is_dead Dead = true
is_dead _ = false

-- an LF here begins a literal that is too large
abbrev pub is_large : LineState → Bool
is_large (Return number params) = nat_lt 1048576 number
is_large _ = false

-- 1 if the next octet is outside literals, else 0
abbrev pub weight : LineState → ℕ
weight state = cond (in_literal state) 0 1

-- ---- how many octets of literals may still come, if no literal is too large

abbrev pub params_room : Params → ℕ
params_room LineEnd = 0
params_room MaybeText = 1048576
params_room (ThenText more) = 1048576 + params_room more
params_room ThenNumber = 0

abbrev pub quoted_room : LineState → ℕ
quoted_room (Word letters) = 2097152
quoted_room (Between params) = params_room params
quoted_room (Opening params) = 1048576 + params_room params
quoted_room (Quoted left params) = params_room params
quoted_room (Escaped left params) = params_room params
quoted_room (Brace params) = 1048576 + params_room params
quoted_room (Count number params) = 1048576 + params_room params
quoted_room (Plus number params) = 1048576 + params_room params
quoted_room (Closed number params) = 1048576 + params_room params
quoted_room (Return number params) = 1048576 + params_room params
quoted_room (Body left params) = left + 1 + params_room params
quoted_room Number = 0
quoted_room (Digits number) = 0
quoted_room LineFeed = 0
quoted_room Whole = 0
quoted_room Dead = 0
