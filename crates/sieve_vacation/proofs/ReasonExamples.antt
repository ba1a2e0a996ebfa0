-- Each reason of the table, where it just holds and where it just doesn't.
use Rattle.std.proofs.Common.{◌≡◌, ℕ, true, false, [], ◌∷◌, List, refl, pos}
use Rattle.std.specs.Prelude.{codes, Option, Some, None}
use Rattle.mail_head.specs.Fields.{FieldText}
use Rattle.mail_address.specs.declared.address.Addr.{Addr}
use Rattle.sieve_exec.specs.Mails.{MailSpec}
use Rattle.sieve_syntax.specs.declared.extension.vacation.VacationArgs.{VacationArgs}
use Rattle.sieve_vacation.specs.declared.reason.Reason.TheVariants as R
use Rattle.sieve_vacation.specs.declared.reason.ReplyDecision.TheVariants as D
use Rattle.sieve_vacation.specs.Cases.{is_robot, is_automatic, is_suppressing, is_bulk, is_users, is_too_soon, has_value, list_fields}
use Rattle.sieve_vacation.specs.Reasons.{reason_holds, first_of, reasons}

abbrev alice : Addr
alice = record { local = codes "alice"; domain = codes "example.org" }

abbrev aliens : Addr
aliens = record { local = codes "a"; domain = codes "b" }

abbrev plain : Option ℕ → VacationArgs
plain days = record { days = days; seconds = None; subject = None; from = None; addresses = aliens ∷ []; mime = false; handle = None; reason = codes "Away." }

abbrev mail_from : List ℕ → List FieldText → MailSpec
mail_from sender fields = record { fields = fields; from = sender; to = codes "Al@Example.org"; size = 0; octets = []; moment = 0; zone = pos 0 }

abbrev line : List ℕ → List ℕ → FieldText
line name raw = record { name = name; raw = raw }

-- the null sender; a sender without a local part, without a domain, without `@`; one with two `@`
senders : (reason_holds (plain None) (mail_from [] []) alice None 0 R.NullSender ≡ true) × (reason_holds (plain None) (mail_from (codes "b") []) alice None 0 R.NullSender ≡ false)
    × (reason_holds (plain None) (mail_from (codes "@b") []) alice None 0 R.BadSender ≡ true) × (reason_holds (plain None) (mail_from (codes "a@") []) alice None 0 R.BadSender ≡ true)
    × (reason_holds (plain None) (mail_from (codes "ab") []) alice None 0 R.BadSender ≡ true) × (reason_holds (plain None) (mail_from (codes "a@b@c") []) alice None 0 R.BadSender ≡ false)
senders = (refl, refl, refl, refl, refl, refl)

robots : (is_robot (codes "MAILER-daemon") ≡ true) × (is_robot (codes "mailer-daemons") ≡ false) × (is_robot (codes "Owner-") ≡ true) × (is_robot (codes "owner") ≡ false)
    × (is_robot (codes "x-Request") ≡ true) × (is_robot (codes "x-requests") ≡ false)
robots = (refl, refl, refl, refl, refl, refl)

-- the account's address, the envelope's recipient, an address of `:addresses`; and another
users : (is_users (plain None) (mail_from [] []) alice (codes "ALICE@example.org") ≡ true) × (is_users (plain None) (mail_from [] []) alice (codes "al@example.ORG") ≡ true)
    × (is_users (plain None) (mail_from [] []) alice (codes "A@B") ≡ true) × (is_users (plain None) (mail_from [] []) alice (codes "alice@example.com") ≡ false)
users = (refl, refl, refl, refl)

automatic : (is_automatic (codes " No ; x=no") ≡ false) × (is_automatic (codes "no (comment)") ≡ true) × (is_automatic [] ≡ true) × (is_automatic (codes "auto-replied") ≡ true)
automatic = (refl, refl, refl, refl)

-- each of the three values, in other case, in a list and with blanks; and other values
suppressing : (is_suppressing (codes " All") ≡ true) × (is_suppressing (codes "DR, oof ,RN") ≡ true) × (is_suppressing (codes "None,\tAUTOREPLY") ≡ true)
    × (is_suppressing (codes "None") ≡ false) × (is_suppressing (codes "DR") ≡ false) × (is_suppressing (codes "AllOf, A ll") ≡ false) × (is_suppressing [] ≡ false) × (is_suppressing (codes ",") ≡ false)
suppressing = (refl, refl, refl, refl, refl, refl, refl, refl)

-- `LIST-ID` and `List-Ids`; `bulk`, folded, and `bulks`
lists : (has_value list_fields (λ value. true) (line (codes "LIST-ID") []) ≡ true) × (has_value list_fields (λ value. true) (line (codes "List-Ids") []) ≡ false)
    × (has_value (codes "precedence" ∷ []) is_bulk (line (codes "Precedence") (13 ∷ (10 ∷ codes " Bulk "))) ≡ true)
    × (has_value (codes "precedence" ∷ []) is_bulk (line (codes "Precedence") (codes " bulks")) ≡ false)
lists = (refl, refl, refl, refl)

-- 7 days without `:days`, 1 at least and 365 at most
early : (is_too_soon (plain None) (Some 1700000000) 1700604799 ≡ true) × (is_too_soon (plain None) (Some 1700000000) 1700604800 ≡ false)
    × (is_too_soon (plain (Some 0)) (Some 1700000000) 1700086399 ≡ true) × (is_too_soon (plain (Some 0)) (Some 1700000000) 1700086400 ≡ false)
    × (is_too_soon (plain (Some 18446744073709551615)) (Some 0) 31535999 ≡ true) × (is_too_soon (plain (Some 18446744073709551615)) (Some 0) 31536000 ≡ false)
    × (is_too_soon (plain None) None 0 ≡ false)
early = (refl, refl, refl, refl, refl, refl, refl)

-- the first reason that holds is told
first : (first_of (reason_holds (plain None) (mail_from (codes "owner-x@y") (line (codes "List-Id") [] ∷ [])) alice None 0) reasons ≡ D.Quiet R.RobotSender)
    × (first_of (reason_holds (plain None) (mail_from (codes "x@y") []) alice None 0) reasons ≡ D.Quiet R.NotAddressed)
first = (refl, refl)
