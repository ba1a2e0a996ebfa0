-- `vacation` (RFC 5230).
pub mod Reasons
use Rattle.std.specs.Prelude.{◌≡◌, ◌⊎◌, ℕ, Bool, true, false, is_some, List, [], ◌∷◌, ◌++◌, Option, Some, None}
use Rattle.mail_address.specs.declared.address.Addr.{Addr}
use Rattle.sieve_syntax.specs.declared.parser.argument.Argument.{Argument}
use Rattle.sieve_syntax.specs.declared.table.tag_group.TagValue.{TagValue}
use Rattle.sieve_syntax.specs.declared.table.tag_group.TagValue.TheVariants as S
use Rattle.sieve_syntax.specs.declared.table.tag_group.TagGroup.{TagGroup}
use Rattle.sieve_syntax.specs.declared.table.tag_group.TagGroup.TheVariants as P
use Rattle.sieve_syntax.specs.declared.capability.Capability.TheVariants as C
use Rattle.sieve_syntax.specs.declared.extension.vacation.VacationArgs.{VacationArgs}
use Rattle.sieve_syntax.specs.declared.extension.vacation.ReplyFrom.{ReplyFrom}
use Rattle.sieve_syntax.specs.Capabilities.{Capabilities, Permits}
use Rattle.sieve_syntax.specs.Extension.Vacation.Reasons.{IsReason}
use Rattle.sieve_syntax.specs.Extension.VacationSeconds.{may_use_vacation, seconds_in}
use Rattle.sieve_syntax.specs.NamedAddresses.{IsNamedAs, Names}
use Rattle.sieve_syntax.specs.Positional.{one_text}
use Rattle.sieve_syntax.specs.Tags.{IsCall}

-- ---- its tags

-- the days of `vacation`, if they are given
abbrev pub days_in : List TagValue → Option ℕ
days_in [] = None
days_in (S.Days days ∷ _) = Some days
days_in (_ ∷ more) = days_in more

-- its subject, if one is given
abbrev pub subject_in : List TagValue → Option (List ℕ)
subject_in [] = None
subject_in (S.Subject subject ∷ _) = Some subject
subject_in (_ ∷ more) = subject_in more

-- the text of its `:from`, if one is given
abbrev pub from_in : List TagValue → Option (List ℕ)
from_in [] = None
from_in (S.From text ∷ _) = Some text
from_in (_ ∷ more) = from_in more

-- the texts of its `:addresses`: none unless they are given
abbrev pub addresses_in : List TagValue → List (List ℕ)
addresses_in [] = []
addresses_in (S.Addresses texts ∷ _) = texts
addresses_in (_ ∷ more) = addresses_in more

-- whether its reason is a MIME entity
abbrev pub mime_in : List TagValue → Bool
mime_in [] = false
mime_in (S.Mime ∷ _) = true
mime_in (_ ∷ more) = mime_in more

-- its handle, if one is given
abbrev pub handle_in : List TagValue → Option (List ℕ)
handle_in [] = None
handle_in (S.Handle handle ∷ _) = Some handle
handle_in (_ ∷ more) = handle_in more

-- ---- what it says

-- the value of `:from`: an address, with its display name, and the text as it was written
pub record IsReplyFrom (text : List ℕ) (from : ReplyFrom) : Type 0 where
  pub written : from.text ≡ text
  pub names : IsNamedAs text from.display from.address

-- the same if a text is given; otherwise none
abbrev pub IsGivenFrom : Option (List ℕ) → Option ReplyFrom → Type 0
IsGivenFrom None None = Unit {0}
IsGivenFrom None (Some from) = ⊥
IsGivenFrom (Some text) None = ⊥
IsGivenFrom (Some text) (Some from) = IsReplyFrom text from

-- the addresses of those of these texts that name one, in order
abbrev pub AreNamed : List (List ℕ) → List Addr → Type 0
AreNamed [] addresses = addresses ≡ []
AreNamed (text ∷ more) addresses =
    ((first : Addr) × (Names text first × ((others : List Addr) × ((addresses ≡ first ∷ others) × AreNamed more others))))
    ⊎ (((address : Addr) → Names text address → ⊥) × AreNamed more addresses)

-- what one text more adds to the addresses
abbrev pub AddsNamed : List ℕ → List Addr → List Addr → Type 0
AddsNamed text old new =
    ((address : Addr) × (Names text address × (new ≡ old ++ address ∷ [])))
    ⊎ (((address : Addr) → Names text address → ⊥) × (new ≡ old))

-- what the tags of a `vacation` and its positional arguments say: the reason is one string without brackets
pub record SaysVacation (tag_values : List TagValue) (positional : List Argument) (args : VacationArgs) : Type 0 where
  pub days : args.days ≡ days_in tag_values
  pub seconds : args.seconds ≡ seconds_in tag_values
  pub subject : args.subject ≡ subject_in tag_values
  pub from : IsGivenFrom (from_in tag_values) args.from
  pub addresses : AreNamed (addresses_in tag_values) args.addresses
  pub mime : args.mime ≡ mime_in tag_values
  pub handle : args.handle ≡ handle_in tag_values
  pub reason : one_text positional ≡ Some args.reason

-- the tags of a `vacation`
abbrev pub vacation_groups : List TagGroup
vacation_groups = P.Period ∷ (P.Subject ∷ (P.From ∷ (P.Addresses ∷ (P.Mime ∷ (P.Handle ∷ [])))))

-- vacation [":days" number / ":seconds" number] [":subject" string] [":from" string] [":addresses" string-list] [":mime"]
-- [":handle" string], reason: string (RFC 5230, 4; RFC 6131, 2)
abbrev pub IsVacation : List Argument → VacationArgs → Type 0
IsVacation = IsCall vacation_groups SaysVacation

-- what has to be granted for it, and what its reason has to be
abbrev pub MayReply : Capabilities → VacationArgs → Type 0
MayReply granted args = (may_use_vacation granted ≡ true) × Permits (granted C.VacationSeconds) (is_some args.seconds) × IsReason args
