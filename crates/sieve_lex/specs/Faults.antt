use Rattle.std.specs.Prelude.{ℕ, List, ◌++◌, codes, decimal}
use Rattle.sieve_lex.specs.declared.fault.FaultKind.{FaultKind}
use Rattle.sieve_lex.specs.declared.fault.FaultKind.TheVariants.{NotUtf8, BadByte, OpenString, OpenComment, NumberTooLarge, Unexpected, UnknownCommand, UnknownTest, UnknownTag, DoubleTag, MissingArgument, ExtraArgument, WrongArgument, NotRequired, UnknownCapability, LateRequire, StrayElse, TooDeep, BadMailbox, BadAddress, BadMime, LongReasonLine, BadCharacter}

-- the number of a fault's kind
abbrev pub fault_number : FaultKind → ℕ
fault_number NotUtf8 = 1
fault_number BadByte = 2
fault_number OpenString = 3
fault_number OpenComment = 4
fault_number NumberTooLarge = 5
fault_number Unexpected = 6
fault_number UnknownCommand = 7
fault_number UnknownTest = 8
fault_number UnknownTag = 9
fault_number DoubleTag = 10
fault_number MissingArgument = 11
fault_number ExtraArgument = 12
fault_number WrongArgument = 13
fault_number NotRequired = 14
fault_number UnknownCapability = 15
fault_number LateRequire = 16
fault_number StrayElse = 17
fault_number TooDeep = 18
fault_number BadMailbox = 19
fault_number BadAddress = 20
fault_number BadMime = 21
fault_number LongReasonLine = 22
fault_number BadCharacter = 23

-- the words for a script's author about a fault
abbrev pub fault_text : FaultKind → List ℕ
fault_text NotUtf8 = codes "not UTF-8"
fault_text BadByte = codes "bad octet"
fault_text OpenString = codes "string is not closed"
fault_text OpenComment = codes "comment is not closed"
fault_text NumberTooLarge = codes "number too large"
fault_text Unexpected = codes "unexpected token"
fault_text UnknownCommand = codes "unknown command"
fault_text UnknownTest = codes "unknown test"
fault_text UnknownTag = codes "unknown tag"
fault_text DoubleTag = codes "tag given twice"
fault_text MissingArgument = codes "missing argument"
fault_text ExtraArgument = codes "too many arguments"
fault_text WrongArgument = codes "wrong argument"
fault_text NotRequired = codes "extension not required"
fault_text UnknownCapability = codes "unknown capability"
fault_text LateRequire = codes "require after another command"
fault_text StrayElse = codes "elsif or else without if"
fault_text TooDeep = codes "nested too deep"
fault_text BadMailbox = codes "bad mailbox name"
fault_text BadAddress = codes "bad address"
fault_text BadMime = codes "bad MIME reason"
fault_text LongReasonLine = codes "reason line too long"
fault_text BadCharacter = codes "no such character"

-- a fault in words: the line, counted from 1, and what is wrong there
abbrev pub fault_line : ℕ → FaultKind → List ℕ
fault_line line kind = codes "line " ++ (decimal line ++ (codes ": " ++ fault_text kind))
