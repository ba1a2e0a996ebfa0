-- What a line of the server says.
use Rattle.std.specs.Prelude.{◌≡◌, ◌≢◌, ℕ, ◌<◌, ◌^◌, Bool, true, false, List, codes, Option, Some, None}
use Rattle.std.specs.Borrow.{Bor}
use Rattle.std.specs.Option.{option_copied}
use Rattle.octets.specs.Decimal.{Writes}
use Rattle.dovecot_userdb.specs.Escapes.{tab_escaped}
use Rattle.dovecot_userdb.specs.Lines.{CutsAt, field_end}
use Rattle.dovecot_userdb.specs.declared.answer.UserdbAnswer.{UserdbAnswer}
use Rattle.dovecot_userdb.specs.declared.answer.UserdbAnswer.TheVariants.{Found, NotFound, Failed}
use Rattle.dovecot_userdb.specs.declared.line.UserdbLine.{UserdbLine}
use Rattle.dovecot_userdb.specs.declared.line.UserdbLine.TheVariants.{Answer, Passed, Broken}
use Rattle.dovecot_userdb.specs.declared.line.UserdbWord.{UserdbWord}
use Rattle.dovecot_userdb.specs.declared.line.UserdbWord.TheVariants.{User, NotFound as NoUser, Fail, Other}

-- ---- fields

-- a number is the first of these fields; `more` are those behind it
pub record IsNumberFirst (fields : List ℕ) (number : ℕ) (more : Option (List ℕ)) : Type 0 where
  pub text : List ℕ
  pub cut : CutsAt field_end fields text more
  pub writes : Writes text number
  pub small : number < 2 ^ 32

-- a line begins with this word and a number
pub record BeginsNumbered (word line : List ℕ) (number : ℕ) (more : Option (List ℕ)) : Type 0 where
  pub fields : List ℕ
  pub cut : CutsAt field_end line word (Some fields)
  pub first : IsNumberFirst fields number more

-- ---- the version

-- `VERSION`, the major version, and what follows, which doesn't matter
abbrev pub SaysMajor : List ℕ → ℕ → Type 0
SaysMajor line major = (more : Option (List ℕ)) × BeginsNumbered (codes "VERSION") line major more

abbrev pub TellsVersion : List ℕ → Bool → Type 0
TellsVersion line true = SaysMajor line 1
TellsVersion line false = SaysMajor line 1 → ⊥

-- ---- answers

-- `USER`, the number of the request, the name, and what the server knows besides; `NOTFOUND` or `FAIL` and the number
abbrev pub SaysAnswer : List ℕ → ℕ → UserdbAnswer → Type 0
SaysAnswer line id (Found name) =
    (more : List ℕ) × BeginsNumbered (codes "USER") line id (Some more) × ((besides : Option (List ℕ)) × CutsAt field_end more (tab_escaped name) besides)
SaysAnswer line id NotFound = (more : Option (List ℕ)) × BeginsNumbered (codes "NOTFOUND") line id more
SaysAnswer line id Failed = (more : Option (List ℕ)) × BeginsNumbered (codes "FAIL") line id more

-- what a line announces with this word
abbrev pub IsWord : List ℕ → UserdbWord → Type 0
IsWord word User = word ≡ codes "USER"
IsWord word NoUser = word ≡ codes "NOTFOUND"
IsWord word Fail = word ≡ codes "FAIL"
IsWord word Other = (word ≢ codes "USER") × (word ≢ codes "NOTFOUND") × (word ≢ codes "FAIL")

-- the first field of a line is none of the words of answers
abbrev pub IsNoAnswerLine : List ℕ → Type 0
IsNoAnswerLine line = (word : List ℕ) × ((rest : Option (List ℕ)) × CutsAt field_end line word rest × IsWord word Other)

-- it is one of them, and yet it is no answer
pub record IsBrokenAnswer (line : List ℕ) : Type 0 where
  pub word : List ℕ
  pub rest : Option (List ℕ)
  pub cut : CutsAt field_end line word rest
  pub is : IsWord word Other → ⊥
  pub none : (id : ℕ) (answer : UserdbAnswer) → SaysAnswer line id answer → ⊥

-- what a line says
abbrev pub LineSays : List ℕ → UserdbLine → Type 0
LineSays line (Answer reply) = SaysAnswer line reply.id reply.answer
LineSays line Passed = IsNoAnswerLine line
LineSays line Broken = IsBrokenAnswer line

-- each line says one thing
pub record UserdbAnswersStand : Type 0 where
  pub one : (line : List ℕ) (a b : UserdbLine) → LineSays line a → LineSays line b → a ≡ b
  pub major : (line : List ℕ) (a b : ℕ) → SaysMajor line a → SaysMajor line b → a ≡ b

-- ---- from what follows the word

-- what follows a word, if the line has more than that, begins with a number
abbrev pub FieldsBegin : Option (List ℕ) → ℕ → Option (List ℕ) → Type 0
FieldsBegin None number more = ⊥
FieldsBegin (Some fields) number more = IsNumberFirst fields number more

abbrev pub ReadsNumber : Option (List ℕ) → Option (ℕ × Option (Bor (List ℕ))) → Type 0
ReadsNumber behind (Some read) = FieldsBegin behind read.0 (option_copied read.1)
ReadsNumber behind None = (number : ℕ) (more : Option (List ℕ)) → FieldsBegin behind number more → ⊥

-- they begin with the number 1
abbrev pub TellsMajorOne : Option (List ℕ) → Bool → Type 0
TellsMajorOne behind true = (more : Option (List ℕ)) × FieldsBegin behind 1 more
TellsMajorOne behind false = (more : Option (List ℕ)) → FieldsBegin behind 1 more → ⊥

-- they are a number and a name
abbrev pub FieldsFind : Option (List ℕ) → ℕ → List ℕ → Type 0
FieldsFind behind id name = (more : List ℕ) × FieldsBegin behind id (Some more) × ((besides : Option (List ℕ)) × CutsAt field_end more (tab_escaped name) besides)

abbrev pub SaysFound : Option (List ℕ) → UserdbLine → Type 0
SaysFound behind (Answer reply) = (name : List ℕ) × (reply.answer ≡ Found name) × FieldsFind behind reply.id name
SaysFound behind Passed = ⊥
SaysFound behind Broken = (id : ℕ) (name : List ℕ) → FieldsFind behind id name → ⊥

abbrev pub SaysPlain : Option (List ℕ) → UserdbAnswer → UserdbLine → Type 0
SaysPlain behind answer (Answer reply) = (reply.answer ≡ answer) × ((more : Option (List ℕ)) × FieldsBegin behind reply.id more)
SaysPlain behind answer Passed = ⊥
SaysPlain behind answer Broken = (id : ℕ) (more : Option (List ℕ)) → FieldsBegin behind id more → ⊥
