-- What MAIL and RCPT are about (RFC 5321, sections 4.1.1.2 and 4.1.1.3; SIZE: RFC 1870; BODY: RFC 6152; SMTPUTF8: RFC 6531).
use Rattle.std.specs.Prelude.{◌≡◌, ◌≢◌, ◌⊎◌, ℕ, ◌≤◌, min, Bool, true, not, ◌==◌, ◌&&◌, List, [], ◌∷◌, ◌++◌, length, Option, Some, None, Result, Ok, Err, codes}
use Rattle.std.specs.Borrow.{Bor}
use Rattle.std.specs.List.{list_all}
use Rattle.octets.specs.Ascii.{is_digit}
use Rattle.octets.specs.Decimal.{Writes}
use Rattle.lmtp_dialogue.specs.Commands.{IsSameWord, is_unspaced}
use Rattle.lmtp_dialogue.specs.Paths.{IsPath}
use Rattle.lmtp_dialogue.specs.declared.argument.MailArgument.{MailArgument}
use Rattle.lmtp_dialogue.specs.declared.argument.ArgumentFault.{ArgumentFault}
use Rattle.lmtp_dialogue.specs.declared.argument.ArgumentFault.TheVariants.{Syntax, Address, Parameter}

-- the most octets of an address: this project's own limit
abbrev pub max_address : ℕ
max_address = 1024

-- a text that begins with a word, in upper or lower case, and what follows it
pub record IsAfterWord (word text rest : List ℕ) : Type 0 where
  pub front : List ℕ
  pub is : IsSameWord word front
  pub written : text ≡ front ++ rest

-- an address that may be taken: of a sender any, of a recipient not the empty one
abbrev pub TakesSender : List ℕ → Type 0
TakesSender address = length address ≤ max_address

abbrev pub TakesRecipient : List ℕ → Type 0
TakesRecipient address = (length address ≤ max_address) × (address ≢ [])

-- `FROM:` or `TO:`, a path with such an address, and what follows it
pub record IsPathArgument (word : List ℕ) (Takes : List ℕ → Type 0) (argument address rest : List ℕ) : Type 0 where
  pub path : List ℕ
  pub after : IsAfterWord word argument path
  pub is : IsPath path address rest
  pub takes : Takes address

-- it doesn't begin with the word; or it does, and there is no path with such an address
abbrev pub RefusesAddress : List ℕ → (List ℕ → Type 0) → List ℕ → ArgumentFault → Type 0
RefusesAddress word Takes argument Syntax = (path : List ℕ) → IsAfterWord word argument path → ⊥
RefusesAddress word Takes argument Address =
    ((path : List ℕ) × IsAfterWord word argument path) × ((address rest : List ℕ) → IsPathArgument word Takes argument address rest → ⊥)
RefusesAddress word Takes argument Parameter = ⊥

-- ---- what RCPT is about

abbrev pub to_word : List ℕ
to_word = codes "TO:"

-- a recipient, and nothing after its path; no parameter of RCPT is known
abbrev pub ReadsRecipient : List ℕ → Result (List ℕ) ArgumentFault → Type 0
ReadsRecipient argument (Ok address) = IsPathArgument to_word TakesRecipient argument address []
ReadsRecipient argument (Err Parameter) = (address rest : List ℕ) × IsPathArgument to_word TakesRecipient argument address rest × (rest ≢ [])
ReadsRecipient argument (Err fault) = RefusesAddress to_word TakesRecipient argument fault

-- the octets that a result has, without where they are
abbrev pub result_octets : {F : Type 0} → Result (Bor (List ℕ)) F → Result (List ℕ) F
result_octets (Ok octets) = Ok octets.now
result_octets (Err fault) = Err fault

-- ---- what MAIL is about

abbrev pub from_word : List ℕ
from_word = codes "FROM:"

-- the greatest size that is told from others: a greater one counts as this
abbrev pub max_size : ℕ
max_size = 18446744073709551615

-- digits, and nothing else
abbrev pub is_size_text : List ℕ → Bool
is_size_text text = not (length text == 0) && list_all is_digit text

-- digits that write a size
abbrev pub IsSizeValue : List ℕ → ℕ → Type 0
IsSizeValue digits size = (number : ℕ) × Writes digits number × (size ≡ min number max_size)

-- a parameter: the size that the message will have, in octets, or one that changes nothing here
abbrev pub IsParameter : List ℕ → Option ℕ → Type 0
IsParameter text (Some size) = (digits : List ℕ) × IsAfterWord (codes "SIZE=") text digits × IsSizeValue digits size
IsParameter text None = IsSameWord (codes "BODY=7BIT") text ⊎ (IsSameWord (codes "BODY=8BITMIME") text ⊎ IsSameWord (codes "SMTPUTF8") text)

-- the later size, if there is one
abbrev pub or_earlier : Option ℕ → Option ℕ → Option ℕ
or_earlier earlier None = earlier
or_earlier earlier (Some size) = Some size

-- nothing, or what SP begins
abbrev pub Separated : List ℕ → Type 0
Separated rest = (rest ≡ []) ⊎ ((more : List ℕ) × (rest ≡ 32 ∷ more))

-- parameters, a SP before each, and the last size among them
abbrev pub AreParameters : List (List ℕ) → List ℕ → Option ℕ → Option ℕ → Type 0
AreParameters [] rest earlier size = (rest ≡ []) × (size ≡ earlier)
AreParameters (text ∷ texts) rest earlier size =
    (more : List ℕ) × (here : Option ℕ) × (rest ≡ 32 ∷ (text ++ more)) × (list_all is_unspaced text ≡ true) × Separated more
    × IsParameter text here × AreParameters texts more (or_earlier earlier here) size

abbrev pub NoParameters : List ℕ → Option ℕ → Type 0
NoParameters rest earlier = (texts : List (List ℕ)) (size : Option ℕ) → AreParameters texts rest earlier size → ⊥

-- parameters that are all known, with the last size among them; or one that isn't
abbrev pub ReadsParameters : List ℕ → Option ℕ → Result (Option ℕ) ArgumentFault → Type 0
ReadsParameters rest earlier (Ok size) = (texts : List (List ℕ)) × AreParameters texts rest earlier size
ReadsParameters rest earlier (Err fault) = (fault ≡ Parameter) × NoParameters rest earlier

-- a sender, and the size that is announced
pub record AnnouncedMail : Type 0 where
  pub from : List ℕ
  pub size : Option ℕ

-- a sender and known parameters; or what is wrong first
abbrev pub ReadsMail : List ℕ → Result AnnouncedMail ArgumentFault → Type 0
ReadsMail argument (Ok mail) =
    (rest : List ℕ) × IsPathArgument from_word TakesSender argument mail.from rest × ReadsParameters rest None (Ok mail.size)
ReadsMail argument (Err Parameter) =
    (address rest : List ℕ) × IsPathArgument from_word TakesSender argument address rest × NoParameters rest None
ReadsMail argument (Err fault) = RefusesAddress from_word TakesSender argument fault

abbrev pub announced_mail : Result MailArgument ArgumentFault → Result AnnouncedMail ArgumentFault
announced_mail (Ok mail) = Ok (record { from = mail.from.now; size = mail.size })
announced_mail (Err fault) = Err fault
