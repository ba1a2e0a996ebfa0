-- The value of a command, read from a text that is known to be a spelling.
use Rattle.std.specs.Prelude.{ℕ, zero, suc, ◌^◌, Bool, true, false, ◌||◌, ◌&&◌, ◌==◌, cond, nat_lt, List, [], ◌∷◌, take, drop, map, Option, Some, None, is_some}
use Rattle.std.specs.Char.{to_ascii_uppercase, is_ascii_digit}
use Rattle.octets.specs.Decimal.{with_digit}
use Rattle.managesieve_protocol.specs.declared.commands.ClientCommand.{ClientCommand}
use Rattle.managesieve_protocol.specs.declared.commands.ClientCommand.TheVariants.{Capability, Noop, Logout, Authenticate, Unauthenticate, HaveSpace, PutScript, CheckScript, ListScripts, SetActive, GetScript, DeleteScript, RenameScript, Response}
use Rattle.managesieve_protocol.specs.declared.command_name.CommandName.{CommandName}
use Rattle.managesieve_protocol.specs.declared.command_name.CommandName.TheVariants as verb
use Rattle.managesieve_protocol.specs.declared.items.ClientItem.{ClientItem}
use Rattle.managesieve_protocol.specs.declared.items.ClientItem.TheVariants as item
use Rattle.managesieve_protocol.specs.declared.items.ItemExtent.{ItemExtent}
use Rattle.managesieve_protocol.specs.declared.items.ItemExtent.TheVariants as reach
use Rattle.managesieve_protocol.specs.Machine.{command_names, command_named}
use Rattle.managesieve_protocol.specs.Scanning.{extent_of}

-- what was read, and the rest
abbrev pub Read : Type 0
Read = List ℕ × List ℕ

-- ---- strings

-- one octet before what was read
abbrev pub prepend_octet : ℕ → Read → Read
prepend_octet octet read = (octet ∷ read.0, read.1)

-- a quoted string after its first quotation mark, or after a backslash in it
abbrev pub quoted_in : Bool → List ℕ → Read
quoted_in escape [] = ([], [])
quoted_in true (octet ∷ rest) = prepend_octet octet (quoted_in false rest)
quoted_in false (octet ∷ rest) =
    cond (octet == 34) ([], rest) (cond (octet == 92) (quoted_in true rest) (prepend_octet octet (quoted_in false rest)))

-- a number after some of its digits
abbrev pub digits_in : ℕ → List ℕ → ℕ × List ℕ
digits_in number [] = (number, [])
digits_in number (octet ∷ rest) =
    cond (is_ascii_digit octet && nat_lt (with_digit number octet) (2 ^ 32)) (digits_in (with_digit number octet) rest) (number, octet ∷ rest)

-- that many octets
abbrev pub octets_in : ℕ → List ℕ → Read
octets_in count text = (take count text, drop count text)

-- a literal after its brace; four octets are between its number and its text
abbrev pub literal_in : ℕ × List ℕ → Read
literal_in number = octets_in number.0 (drop 4 number.1)

-- a string, quoted or as a literal
abbrev pub string_in : List ℕ → Read
string_in [] = ([], [])
string_in (mark ∷ rest) = cond (mark == 34) (quoted_in false rest) (literal_in (digits_in 0 rest))

-- a string after a space
abbrev pub text_in : List ℕ → Read
text_in rest = string_in (drop 1 rest)

-- the same, if there is a space
abbrev pub maybe_text_in : List ℕ → Option (List ℕ)
maybe_text_in [] = None
maybe_text_in (octet ∷ rest) = cond (octet == 32) (Some (string_in rest).0) None

-- two strings, each after a space
abbrev pub texts_in : List ℕ → List ℕ × List ℕ
texts_in rest = ((text_in rest).0, (text_in (text_in rest).1).0)

-- a number after a space
abbrev pub size_in : List ℕ → ℕ
size_in rest = (digits_in 0 (drop 1 rest)).0

-- ---- commands

-- how many octets come before the first SP or CR
abbrev pub name_length : List ℕ → ℕ
name_length [] = zero
name_length (octet ∷ rest) = cond (octet == 32 || octet == 13) zero (suc (name_length rest))

abbrev pub authenticate_of : Read → ClientCommand
authenticate_of read = Authenticate read.0 (maybe_text_in read.1)

abbrev pub have_space_of : Read → ClientCommand
have_space_of read = HaveSpace read.0 (size_in read.1)

-- the command of a verb and of what comes after it
abbrev pub command_of : CommandName → List ℕ → ClientCommand
command_of verb.Authenticate rest = authenticate_of (text_in rest)
command_of verb.Capability rest = Capability
command_of verb.CheckScript rest = CheckScript (text_in rest).0
command_of verb.DeleteScript rest = DeleteScript (text_in rest).0
command_of verb.GetScript rest = GetScript (text_in rest).0
command_of verb.HaveSpace rest = have_space_of (text_in rest)
command_of verb.ListScripts rest = ListScripts
command_of verb.Logout rest = Logout
command_of verb.Noop rest = Noop (maybe_text_in rest)
command_of verb.PutScript rest = PutScript (texts_in rest).0 (texts_in rest).1
command_of verb.RenameScript rest = RenameScript (texts_in rest).0 (texts_in rest).1
command_of verb.SetActive rest = SetActive (text_in rest).0
command_of verb.Unauthenticate rest = Unauthenticate

-- a string alone
abbrev pub response_in : List ℕ → ClientCommand
response_in text = Response (string_in text).0

-- the command of a line that begins with that verb; one that begins with none is a string alone
abbrev pub line_command : Option CommandName → List ℕ → ClientCommand
line_command None text = response_in text
line_command (Some verb) text = command_of verb (drop (name_length text) text)

-- the command that the text spells; for a text that spells none nothing is said
abbrev pub command_in : Bool → List ℕ → ClientCommand
command_in true text = response_in text
command_in false text = line_command (command_named command_names (map to_ascii_uppercase (take (name_length text) text))) text

-- whether a command has a string: one without takes no memory
abbrev pub has_string : ClientCommand → Bool
has_string Capability = false
has_string (Noop tag) = is_some tag
has_string Logout = false
has_string Unauthenticate = false
has_string ListScripts = false
has_string _ = true

-- ---- the first item

abbrev pub item_at : Bool → List ℕ → ItemExtent → ClientItem
item_at pending stream reach.Need = item.Need
item_at pending stream (reach.Command used) = item.Command (command_in pending (take used stream)) used
item_at pending stream (reach.Bad used) = item.Bad used
item_at pending stream reach.TooBig = item.TooBig

-- the first item of the stream, with the command's value
abbrev pub item_of : Bool → List ℕ → ClientItem
item_of pending stream = item_at pending stream (extent_of pending stream)

-- whether its value takes memory
abbrev pub takes_memory : ClientItem → Bool
takes_memory (item.Command command used) = has_string command
takes_memory _ = false
