-- Whether a response is sent: the first reason against it, if there is any. RFC 5230, 4.6 and RFC 3834, 2: the sender and the mail
-- (reasons 1 to 7); RFC 5230, 4.5: to whom it is addressed (8); 4.1 and 4.2: the period, and what is kept of earlier responses (9).
use Rattle.std.specs.Prelude.{ℕ, Bool, true, not, ◌||◌, cond, List, [], ◌∷◌, codes, Option}
use Rattle.std.specs.List.{list_any}
use Rattle.mail_address.specs.declared.address.Addr.{Addr}
use Rattle.sieve_syntax.specs.declared.extension.vacation.VacationArgs.{VacationArgs}
use Rattle.sieve_exec.specs.Mails.{MailSpec}
use Rattle.sieve_exec.specs.Parts.{local_of, domain_of}
use Rattle.sieve_vacation.specs.declared.reason.Reason.{Reason}
use Rattle.sieve_vacation.specs.declared.reason.Reason.TheVariants as R
use Rattle.sieve_vacation.specs.declared.reason.ReplyDecision.{ReplyDecision}
use Rattle.sieve_vacation.specs.declared.reason.ReplyDecision.TheVariants as D
use Rattle.sieve_vacation.specs.Cases.{is_empty, is_robot, is_users, is_automatic, is_suppressing, is_bulk, list_fields, recipients_of, some_value, is_too_soon}

-- whether this is a reason against a response of the user with this address to this mail at this moment;
-- `last` is the moment kept for the response and the sender, if one is
abbrev pub reason_holds : VacationArgs → MailSpec → Addr → Option ℕ → ℕ → Reason → Bool
reason_holds args mail own last moment R.NullSender = is_empty mail.from
reason_holds args mail own last moment R.BadSender = is_empty (local_of mail.from) || is_empty (domain_of mail.from)
reason_holds args mail own last moment R.RobotSender = is_robot (local_of mail.from)
reason_holds args mail own last moment R.OwnSender = is_users args mail own mail.from
reason_holds args mail own last moment R.Automatic =
    some_value (codes "auto-submitted" ∷ []) is_automatic mail || some_value (codes "x-auto-response-suppress" ∷ []) is_suppressing mail
reason_holds args mail own last moment R.ListMail = some_value list_fields (λ value. true) mail
reason_holds args mail own last moment R.Bulk = some_value (codes "precedence" ∷ []) is_bulk mail
reason_holds args mail own last moment R.NotAddressed = not (list_any (is_users args mail own) (recipients_of mail))
reason_holds args mail own last moment R.TooSoon = is_too_soon args last moment

-- the reasons, from the first to the ninth
abbrev pub reasons : List Reason
reasons =
    R.NullSender ∷ (R.BadSender ∷ (R.RobotSender ∷ (R.OwnSender ∷ (R.Automatic ∷ (R.ListMail ∷ (R.Bulk ∷ (R.NotAddressed ∷ (R.TooSoon ∷ []))))))))

-- quiet for the first of these that passes; send if none does
abbrev pub first_of : (Reason → Bool) → List Reason → ReplyDecision
first_of test [] = D.Send
first_of test (reason ∷ more) = cond (test reason) (D.Quiet reason) (first_of test more)

abbrev pub decision_of : VacationArgs → MailSpec → Addr → Option ℕ → ℕ → ReplyDecision
decision_of args mail own last moment = first_of (reason_holds args mail own last moment) reasons

-- the place of a reason among them, from 1
abbrev pub reason_number : Reason → ℕ
reason_number R.NullSender = 1
reason_number R.BadSender = 2
reason_number R.RobotSender = 3
reason_number R.OwnSender = 4
reason_number R.Automatic = 5
reason_number R.ListMail = 6
reason_number R.Bulk = 7
reason_number R.NotAddressed = 8
reason_number R.TooSoon = 9
