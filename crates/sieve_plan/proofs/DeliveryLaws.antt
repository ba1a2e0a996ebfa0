-- A delivery has one report, and the account is one afterwards.
use Rattle.std.proofs.Common.{◌≡◌, ◌-◌, ℕ, zero, suc, length, Bool, true, false, List, Option, Some, None, ap, sym, ◌∙◌, subst, inl, inr}
use Rattle.mail_address.specs.declared.address.Addr.{Addr}
use Rattle.sieve_syntax.specs.Meaning.{Actions}
use Rattle.sieve_syntax.specs.declared.extension.vacation.VacationArgs.{VacationArgs}
use Rattle.sieve_syntax.proofs.MeansLaws.{means_only}
use Rattle.sieve_exec.specs.Mails.{MailSpec}
use Rattle.sieve_exec.specs.Outcomes.{outcome_at}
use Rattle.sieve_vacation.specs.Handles.{handle_of, handle_key_of}
use Rattle.sieve_vacation.specs.Reasons.{decision_of}
use Rattle.sieve_vacation.specs.declared.reason.ReplyDecision.{ReplyDecision}
use Rattle.sieve_vacation.specs.declared.reason.ReplyDecision.TheVariants as D
use Rattle.sieve_vacation.proofs.ReplyLaws.{one_reply}
use Rattle.store_accounts.specs.Account.{Account, latest, adds_notice_if_any, room_in}
use Rattle.store_accounts.specs.declared.report.Report.{Report}
use Rattle.sieve_plan.specs.Sent.{over_keys}
use Rattle.sieve_plan.specs.Views.{last_reply}
use Rattle.sieve_plan.specs.Delivered.{Disposition, Acts, Tells, DisposesUnlessLooping, DisposesUnlessLong, disposition_of, has_long_header, is_looping, Response, Sent, FollowsDecision, Responds, acts, done_of, held_of, responds, report_of, CarriesOut, DeliversAs, Delivers}

-- a message comes to one disposition
one_disposition : (looping : Bool) (text : Option (List ℕ)) (mail : MailSpec) (one two : Disposition)
    → DisposesUnlessLooping looping text mail one → DisposesUnlessLooping looping text mail two → one ≡ two
one_disposition true text mail one two is was = is ∙ sym was
one_disposition false None mail one two is was = is ∙ sym was
one_disposition false (Some text) mail one two (inl (tree, means, is)) (inl (other, meant, was)) =
    is ∙ (ap (λ t. disposition_of (outcome_at mail t)) (means_only text tree other means meant) ∙ sym was)
one_disposition false (Some text) mail one two (inl (tree, means, is)) (inr (none, was)) = absurd (none tree means)
one_disposition false (Some text) mail one two (inr (none, is)) (inl (tree, means, was)) = absurd (none tree means)
one_disposition false (Some text) mail one two (inr (none, is)) (inr (nothing, was)) = is ∙ sym was

one_behind : (long : Bool) (text : Option (List ℕ)) (mail : MailSpec) (one two : Disposition)
    → DisposesUnlessLong long text mail one → DisposesUnlessLong long text mail two → one ≡ two
one_behind true text mail one two is was = is ∙ sym was
one_behind false text mail one two is was = one_disposition (is_looping mail) text mail one two is was

-- one response follows from a decision
one_follows : (own : Addr) (moment : ℕ) (mail : MailSpec) (args : VacationArgs) (last : Option ℕ) (room : ℕ) (decision : ReplyDecision) (one two : Response)
    → FollowsDecision own moment mail args last room decision one → FollowsDecision own moment mail args last room decision two → one ≡ two
one_follows own moment mail args last zero D.Send one two is was = is ∙ sym was
one_follows own moment mail args last (suc room) D.Send one two (reply, (is, here)) (other, (was, there)) =
    here ∙ (ap (λ r. Sent (handle_key_of (handle_of args)) r (latest last moment)) (one_reply args mail own moment reply other is was) ∙ sym there)
one_follows own moment mail args last room (D.Quiet reason) one two is was = is ∙ sym was

pub one_response : (own : Addr) (moment : ℕ) (mail : MailSpec) (last : List ℕ → Option ℕ) (room : ℕ) (reply : Option VacationArgs) (one two : Response)
    → Responds own moment mail last room reply one → Responds own moment mail last room reply two → one ≡ two
one_response own moment mail last room None one two is was = is ∙ sym was
one_response own moment mail last room (Some args) one two is was =
    one_follows own moment mail args (last (handle_key_of (handle_of args))) room (decision_of args mail own (last (handle_key_of (handle_of args))) moment) one two is was

one_carried : (own : Addr) (moment : ℕ) (mail : MailSpec) (deeds : Actions) (a : Account) (one two : Report) (after other : Account)
    → CarriesOut own moment mail deeds a one after → CarriesOut own moment mail deeds a two other → (one ≡ two) × (after ≡ other)
one_carried own moment mail deeds a one two after other is was =
    let done = done_of a mail deeds in
    let held = held_of a mail deeds in
    let same = one_response own moment mail (last_reply a mail.from) (room_in a - length done.sent) deeds.reply is.response was.response is.is_response was.is_response in (
      is.reported ∙ (ap (λ x. report_of done x held) same ∙ sym was.reported),
      is.changed ∙ (ap (λ x. adds_notice_if_any moment held (responds mail x (acts mail done (over_keys a moment) a))) same ∙ sym was.changed),
    )

one_delivered : (own : Addr) (moment : ℕ) (mail : MailSpec) (disposition : Disposition) (a : Account) (one two : Report) (after other : Account)
    → DeliversAs own moment mail disposition a one after → DeliversAs own moment mail disposition a two other → (one ≡ two) × (after ≡ other)
one_delivered own moment mail (Acts deeds) a one two after other is was = one_carried own moment mail deeds a one two after other is was
one_delivered own moment mail (Tells text) a one two after other is was = (is.reported ∙ sym was.reported, is.changed ∙ sym was.changed)

pub one_delivery : (own : Addr) (mail : MailSpec) (text : Option (List ℕ)) (a : Account) (one two : Report) (after other : Account)
    → Delivers own mail text a one after → Delivers own mail text a two other → (one ≡ two) × (after ≡ other)
one_delivery own mail text a one two after other is was =
    let P : Disposition → Type 0 = λ d. DeliversAs own mail.moment mail d a one after in
    let same = one_behind (has_long_header mail.octets) text mail is.disposition was.disposition is.disposes was.disposes in
    one_delivered own mail.moment mail was.disposition a one two after other (subst P same is.delivers) was.delivers
