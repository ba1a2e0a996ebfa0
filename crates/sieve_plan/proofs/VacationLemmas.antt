-- What is to be done about `vacation`, by the decision that was made.
use Rattle.std.proofs.Common.{◌≡◌, ◌<◌, ℕ, zero, suc, List, Option, Some, Ok, Err, Result, IfOk, refl, ap, ◌∙◌, subst, sym, arith}
use Rattle.std.specs.declared.alloc.AllocError.{AllocError}
use Rattle.mail_address.specs.declared.address.Addr.{Addr}
use Rattle.sieve_syntax.specs.declared.extension.vacation.VacationArgs.{VacationArgs}
use Rattle.sieve_exec.specs.Mails.{MailSpec}
use Rattle.sieve_vacation.specs.Handles.{handle_of, handle_key_of}
use Rattle.sieve_vacation.specs.Reasons.{decision_of, reason_number}
use Rattle.sieve_vacation.specs.declared.reason.Reason.{Reason}
use Rattle.sieve_vacation.specs.declared.reason.ReplyDecision.{ReplyDecision}
use Rattle.sieve_vacation.specs.declared.reason.ReplyDecision.TheVariants as D
use Rattle.store_accounts.specs.Account.{latest}
use Rattle.store_accounts.specs.declared.report.VacationReport.TheVariants as V
use Rattle.sieve_plan.specs.declared.vacation.VacationPlan.{VacationPlan}
use Rattle.sieve_plan.specs.Delivered.{Response, NoRoom, Quiet, Sent, Sends, Responds, FollowsDecision}
use Rattle.sieve_plan.specs.Plans.{SendsReply, IsVacationPlan, unsent_plan}

module _ (own : Addr) (mail : MailSpec) (last : Option ℕ) (room : ℕ) (reply : Option VacationArgs) (args : VacationArgs) (there : reply ≡ Some args) where
  -- a response that follows from the decision that was made on the mail as it was read
  follows : (read : MailSpec) (decision : ReplyDecision) (response : Response) → read ≡ mail → decision ≡ decision_of args read own last mail.moment
      → FollowsDecision own mail.moment mail args last room decision response → Responds own mail.moment mail (λ key. last) room reply response
  follows read decision response same decided is =
      let P : ReplyDecision → Type 0 = λ d. FollowsDecision own mail.moment mail args last room d response in
      let Q : Option VacationArgs → Type 0 = λ r. Responds own mail.moment mail (λ key. last) room r response in
      let now : decision ≡ decision_of args mail own last mail.moment = decided ∙ ap (λ m. decision_of args m own last mail.moment) same in
      subst Q (sym there) (subst P now is)

  pub sending : (read : MailSpec) (key : List ℕ) (plan : VacationPlan) → read ≡ mail → key ≡ handle_key_of (handle_of args) → (room ≡ 0 → ⊥)
      → D.Send ≡ decision_of args read own last mail.moment → SendsReply own mail args key last plan → IsVacationPlan own mail last room reply plan
  sending read key plan same known some decided is =
      record {
        response = Sent key is.octets (latest last mail.moment);
        is_response = follows read D.Send (Sent key is.octets (latest last mail.moment)) same decided (go room some);
        vacation = is.vacation;
        sent = is.sent;
      }
    where
      go : (n : ℕ) → (n ≡ 0 → ⊥) → Sends own mail.moment mail args last n (Sent key is.octets (latest last mail.moment))
      go zero none = absurd (none refl)
      go (suc n) none = (is.octets, (is.is_reply, ap (λ k. Sent k is.octets (latest last mail.moment)) known))

  pub crowded : (read : MailSpec) (plan : VacationPlan) → read ≡ mail → room ≡ 0 → D.Send ≡ decision_of args read own last mail.moment → plan ≡ unsent_plan (V.Quiet 10)
      → IsVacationPlan own mail last room reply plan
  crowded read plan same none decided is =
      let P : ℕ → Type 0 = λ n. Sends own mail.moment mail args last n NoRoom in
      record {
        response = NoRoom;
        is_response = follows read D.Send NoRoom same decided (subst P (sym none) refl);
        vacation = ap (λ r. r.vacation) is;
        sent = ap (λ r. r.reply) is;
      }

  pub staying_quiet : (read : MailSpec) (reason : Reason) (plan : VacationPlan) → read ≡ mail → D.Quiet reason ≡ decision_of args read own last mail.moment
      → plan ≡ unsent_plan (V.Quiet (reason_number reason)) → IsVacationPlan own mail last room reply plan
  staying_quiet read reason plan same decided is =
      record {
        response = Quiet reason;
        is_response = follows read (D.Quiet reason) (Quiet reason) same decided refl;
        vacation = ap (λ r. r.vacation) is;
        sent = ap (λ r. r.reply) is;
      }

  -- the decision to send, by the room
  pub answering : (read : MailSpec) (r : Result VacationPlan AllocError) → read ≡ mail → D.Send ≡ decision_of args read own last mail.moment → IfOk r (λ plan. room ≡ 0 → plan ≡ unsent_plan (V.Quiet 10))
      → IfOk r (λ plan. 0 < room → SendsReply own mail args (handle_key_of (handle_of args)) last plan) → IfOk r (IsVacationPlan own mail last room reply)
  answering read (Err e) same decided none some = tt
  answering read (Ok plan) same decided none some = go room refl
    where
      go : (n : ℕ) → room ≡ n → IsVacationPlan own mail last room reply plan
      go zero is = crowded read plan same is decided (none is)
      go (suc n) is = sending read (handle_key_of (handle_of args)) plan same refl (λ no. absurd (omega arith)) decided (some (omega arith))
