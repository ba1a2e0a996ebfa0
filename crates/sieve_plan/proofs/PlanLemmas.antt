-- What a plan makes of an account is what a delivery makes of it.
use Rattle.std.proofs.Common.{◌≡◌, ◌-◌, ◌<◌, ℕ, true, false, cond, nat_lt, length, take, List, [], ◌∷◌, map, Option, Some, None, refl, sym, ap, ◌∙◌, subst, arith}
use Rattle.std.proofs.Math.Seq.{take-nil}
use Rattle.std.proofs.lemmas.Bool.{le-ltb}
use Rattle.std.proofs.lemmas.List.{length-map, take-map}
use Rattle.std.proofs.lemmas.List.Folds.{fold-map}
use Rattle.mail_flags.specs.declared.placement.Placement.{Placement}
use Rattle.mail_address.specs.declared.address.Addr.{Addr}
use Rattle.mail_address.specs.Spelling.{address_spelling}
use Rattle.sieve_syntax.specs.Meaning.{Actions}
use Rattle.sieve_syntax.specs.declared.extension.vacation.VacationArgs.{VacationArgs}
use Rattle.sieve_exec.specs.Mails.{MailSpec}
use Rattle.sieve_vacation.specs.Reasons.{decision_of}
use Rattle.store_accounts.specs.Account.{Account, room_in, files_copies, queues, remembers_sent, sends_on, replies_if_any}
use Rattle.store_tables.specs.declared.queue.QueuedKind.TheVariants as kind
use Rattle.store_accounts.specs.declared.reply.ReplyKey.{ReplyKey}
use Rattle.store_accounts.specs.declared.report.SentMemory.{SentMemory}
use Rattle.store_accounts.specs.declared.report.Plan.{Plan}
use Rattle.sieve_plan.specs.declared.view.AccountView.{AccountView}
use Rattle.sieve_plan.specs.Sent.{fresh, going, half_of, held_notice, kept_handles, let_through, limits, limits_by, most_of_size, most_sent, not_among, redirect_key, sent_handle, known_targets}
use Rattle.sieve_plan.specs.Views.{IsViewOf, asks_for, known_of, last_of, last_reply}
use Rattle.sieve_plan.specs.Delivered.{Response, Silent, NoRoom, Quiet, Sent, Responds, FollowsDecision, acts, done_of, held_of, redirects, remembers_going, responds, with_inbox}
use Rattle.sieve_plan.specs.Plans.{IsMemoryOf, IsVacationPlan, deeds_by, filed_by, fresh_by, going_by, limits_in, notice_by, reply_of}
use Rattle.sieve_plan.specs.Sequences.{forgotten_unless, notice_left}
use Rattle.sieve_plan.specs.SequencePlans.{IsSettledPlan}
use Rattle.sieve_plan.specs.declared.vacation.VacationPlan.{VacationPlan}

-- ---- what the plan does

-- the message goes on to the addresses as they are spelled
sent_on : (mail : MailSpec) (targets : List Addr) (a : Account) → sends_on mail.from mail.octets (map address_spelling targets) a ≡ redirects mail targets a
sent_on mail targets a = fold-map (λ b target. queues kind.Redirect mail.from target mail.octets b) address_spelling a targets

-- what is remembered of none has no name
remembered : (over : List ReplyKey) (mail : MailSpec) (targets : List Addr) (memory : SentMemory) (a : Account) → IsMemoryOf over mail targets memory
    → remembers_sent memory mail.moment a ≡ remembers_going mail targets over a
remembered over mail [] memory a is = rw (is.handles, is.forgotten) refl
remembered over mail (target ∷ more) memory a is = rw (is.handles, is.forgotten, is.message target more refl) refl

-- what is sent on and remembered does what the deeds do
pub done : (mail : MailSpec) (deeds : Actions) (over : List ReplyKey) (memory : SentMemory) (a : Account) → IsMemoryOf over mail deeds.sent memory
    → remembers_sent memory mail.moment (sends_on mail.from mail.octets (map address_spelling deeds.sent) (files_copies deeds.filed mail.octets a)) ≡ acts mail deeds over a
done mail deeds over memory a is =
    ap (remembers_sent memory mail.moment) (sent_on mail deeds.sent (files_copies deeds.filed mail.octets a)) ∙ remembered over mail deeds.sent memory (redirects mail deeds.sent (files_copies deeds.filed mail.octets a)) is

-- and what is replied does what the response does
pub answered : (mail : MailSpec) (response : Response) (a : Account) → replies_if_any mail.from (reply_of response) a ≡ responds mail response a
answered mail Silent a = refl
answered mail NoRoom a = refl
answered mail (Quiet reason) a = refl
answered mail (Sent key reply last) a = refl

-- ---- what the view says

none_below : (n : ℕ) → nat_lt n 0 ≡ false
none_below n = le-ltb n 0 (omega arith)

-- nothing is let through of nothing, and nothing is held back
none_through : (room size known : ℕ) → let_through (limits_by room size known) [] ≡ []
none_through room size known = rw (take-nil room) (rw (take-nil (most_of_size size)) (take-nil (most_sent - known)))

none_held : (room size known : ℕ) → held_notice (limits_by room size known) 0 0 ≡ None
none_held room size known = rw (none_below room, none_below (most_of_size size), none_below (most_sent - known)) refl

pub none_goes : (a : Account) (mail : MailSpec) → going a mail [] ≡ []
none_goes a mail = none_through (room_in a) (length mail.octets) (length (known_targets a mail))

pub none_told : (a : Account) (mail : MailSpec) → held_notice (limits a mail) 0 0 ≡ None
none_told a mail = none_held (room_in a) (length mail.octets) (length (known_targets a mail))

-- what was sent and how many rows may join the queue is asked only where the message is to be sent on
module _ (a : Account) (mail : MailSpec) (reply : Option VacationArgs) (room : ℕ) (known : List (List ℕ)) where
  through_same : (targets : List Addr) → known ≡ known_of a mail targets → (asks_for targets reply ≡ true → room ≡ room_in a)
      → let_through (limits_by room (length mail.octets) (length known)) (not_among known targets) ≡ going a mail targets
  through_same [] was asked = none_through room (length mail.octets) (length known) ∙ sym (none_through (room_in a) (length mail.octets) (length (known_targets a mail)))
  through_same (target ∷ more) was asked =
      ap (λ k. let_through (limits_by room (length mail.octets) (length k)) (not_among k (target ∷ more))) was
      ∙ ap (λ r. let_through (limits_by r (length mail.octets) (length (known_targets a mail))) (not_among (known_targets a mail) (target ∷ more))) (asked refl)

  held_same : (targets : List Addr) → known ≡ known_of a mail targets → (asks_for targets reply ≡ true → room ≡ room_in a)
      → held_notice (limits_by room (length mail.octets) (length known)) (length targets) (length (not_among known targets)) ≡ held_notice (limits a mail) (length targets) (length (fresh a mail targets))
  held_same [] was asked = none_held room (length mail.octets) (length known) ∙ sym (none_held (room_in a) (length mail.octets) (length (known_targets a mail)))
  held_same (target ∷ more) was asked =
      ap (λ k. held_notice (limits_by room (length mail.octets) (length k)) (length (target ∷ more)) (length (not_among k (target ∷ more)))) was
      ∙ ap (λ r. held_notice (limits_by r (length mail.octets) (length (known_targets a mail))) (length (target ∷ more)) (length (not_among (known_targets a mail) (target ∷ more)))) (asked refl)

asks_reply : (targets : List Addr) (args : VacationArgs) → asks_for targets (Some args) ≡ true
asks_reply [] args = refl
asks_reply (target ∷ more) args = refl

module _ (view : AccountView) (mail : MailSpec) (deeds : Actions) (a : Account) (of : IsViewOf view mail deeds a) where
  pub going_are : going_by view mail deeds ≡ going a mail deeds.sent
  going_are = through_same a mail deeds.reply view.room view.known deeds.sent of.known of.room

  pub done_are : deeds_by view mail deeds ≡ done_of a mail deeds
  done_are = rw going_are refl

  pub held_is : notice_by view mail deeds ≡ held_of a mail deeds
  held_is = held_same a mail deeds.reply view.room view.known deeds.sent of.known of.room

  -- the response is made with what is kept, and with the room that is left
  pub responds_along : (reply : Option VacationArgs) (targets : List Addr) (count : ℕ) (response : Response) → view.last ≡ last_of a mail.from reply → (asks_for targets reply ≡ true → view.room ≡ room_in a)
      → Responds view.address mail.moment mail (λ key. view.last) (view.room - count) reply response → Responds view.address mail.moment mail (last_reply a mail.from) (room_in a - count) reply response
  responds_along None targets count response last room is = is
  responds_along (Some args) targets count response last room is =
      let P : Option ℕ → Type 0 = λ kept. FollowsDecision view.address mail.moment mail args kept (room_in a - count) (decision_of args mail view.address kept mail.moment) response in
      let Q : ℕ → Type 0 = λ room. FollowsDecision view.address mail.moment mail args view.last (room - count) (decision_of args mail view.address view.last mail.moment) response in
      subst P last (subst Q (room (asks_reply targets args)) is)

-- ---- what a plan consists of

-- the handles' keys
handles_are : (half : ℕ) (key : List ℕ) (targets : List Addr) → map (sent_handle half key) (map address_spelling targets) ≡ map (λ target. sent_handle half key (address_spelling target)) targets
handles_are half key [] = refl
handles_are half key (target ∷ more) = ap (λ l. sent_handle half key (address_spelling target) ∷ l) (handles_are half key more)

-- those of no address have no message
kept_are : (mail : MailSpec) (half : ℕ) (key : List ℕ) (targets : List Addr) → half ≡ half_of mail.moment → (0 < length targets → key ≡ redirect_key mail)
    → map (λ target. sent_handle half key (address_spelling target)) targets ≡ kept_handles mail targets
kept_are mail half key [] at named = refl
kept_are mail half key (target ∷ more) at named =
    ap (λ h. map (λ t. sent_handle h key (address_spelling t)) (target ∷ more)) at ∙ ap (λ k. map (λ t. sent_handle (half_of mail.moment) k (address_spelling t)) (target ∷ more)) (named (omega arith))

-- what is remembered
pub memory_made : (over : List ReplyKey) (mail : MailSpec) (going handles : List (List ℕ)) (key : List ℕ) (half : ℕ) → half ≡ half_of mail.moment → (0 < length going → key ≡ redirect_key mail) → handles ≡ map (sent_handle half key) going
    → (targets : List Addr) → going ≡ map address_spelling targets → IsMemoryOf over mail targets (record { message = key; handles = handles; forgotten = over })
memory_made over mail going handles key half at named kept targets are =
    let count : length going ≡ length targets = ap length are ∙ length-map targets address_spelling in
    record {
      message = λ target more is. named (subst (λ l. 0 < length l) (sym (are ∙ ap (map address_spelling) is)) (omega arith));
      handles = kept ∙ (ap (map (sent_handle half key)) are ∙ (handles_are half key targets ∙ kept_are mail half key targets at (λ some. named (subst (λ n. 0 < n) (sym count) some))));
      forgotten = refl;
    }

-- one limit behind the other
pub three_limits : (one two three : ℕ) (fresh first second third : List (List ℕ)) → first ≡ take one fresh → second ≡ take two first → third ≡ take three second
    → (targets : List Addr) → fresh ≡ map address_spelling targets → third ≡ map address_spelling (take three (take two (take one targets)))
three_limits one two three fresh first second third is_first is_second is_third targets are =
    let a = is_first ∙ (ap (take one) are ∙ take-map address_spelling one targets) in
    let b = is_second ∙ (ap (take two) a ∙ take-map address_spelling two (take one targets)) in
    is_third ∙ (ap (take three) b ∙ take-map address_spelling three (take two (take one targets)))

-- what goes on
pub record IsThrough (limits : List (ℕ × List ℕ)) (fresh_texts going_texts : List (List ℕ)) : Type 0 where
  pub texts : (targets : List Addr) → fresh_texts ≡ map address_spelling targets → going_texts ≡ map address_spelling (let_through limits targets)

module _ (view : AccountView) (mail : MailSpec) (deeds : Actions) (fresh_texts going_texts : List (List ℕ)) (limits : List (ℕ × List ℕ))
    (found : fresh_texts ≡ map address_spelling (fresh_by view deeds)) (limited : limits ≡ limits_in view mail) (through : IsThrough limits fresh_texts going_texts) where
  spelled : going_texts ≡ map address_spelling (going_by view mail deeds)
  spelled = through.texts (fresh_by view deeds) found ∙ ap (λ l. map address_spelling (let_through l (fresh_by view deeds))) limited

  counted : length going_texts ≡ length (going_by view mail deeds)
  counted = ap length spelled ∙ length-map (going_by view mail deeds) address_spelling

  fresh_counted : length fresh_texts ≡ length (fresh_by view deeds)
  fresh_counted = ap length found ∙ length-map (fresh_by view deeds) address_spelling

  pub acted : (told : Option (List ℕ)) (filed : List Placement) (held : Option (List ℕ)) (memory : SentMemory) (vacation : VacationPlan) (plan : Plan) → filed ≡ cond (nat_lt (length going_texts) (length deeds.sent)) (with_inbox deeds.filed) deeds.filed
      → held ≡ held_notice limits (length deeds.sent) (length fresh_texts) → IsVacationPlan view.address mail view.last (view.room - length going_texts) deeds.reply vacation
      → ((targets : List Addr) → going_texts ≡ map address_spelling targets → IsMemoryOf (forgotten_unless told view.over) mail targets memory)
      → plan.message.now ≡ mail.octets → plan.sender.now ≡ mail.from → plan.moment ≡ mail.moment → plan.filed ≡ filed → plan.memory ≡ memory → plan.reply ≡ vacation.reply
      → plan.report ≡ record { filed = map (λ f. f.mailbox) filed; sent = going_texts; vacation = vacation.vacation; notice = notice_left told held } → IsSettledPlan view mail (record { deeds = deeds; notice = told }) plan
  acted told filed held memory vacation plan filed_is held_is answer remembers message sender at files memorizes replies reports =
      let filing : filed ≡ filed_by view mail deeds = filed_is ∙ ap (λ n. cond (nat_lt n (length deeds.sent)) (with_inbox deeds.filed) deeds.filed) counted in
      let holding : held ≡ notice_by view mail deeds = held_is ∙ (ap (held_notice limits (length deeds.sent)) fresh_counted ∙ ap (λ l. held_notice l (length deeds.sent) (length (fresh_by view deeds))) limited) in
      record {
        response = answer.response;
        is_response = subst (λ n. Responds view.address mail.moment mail (λ key. view.last) (view.room - n) deeds.reply answer.response) counted answer.is_response;
        message = message;
        sender = sender;
        at = at;
        filed = files ∙ filing;
        report = reports ∙ (λ i. record { filed = map (λ f. f.mailbox) (filing i); sent = spelled i; vacation = answer.vacation i; notice = notice_left told (holding i) });
        memory = subst (IsMemoryOf (forgotten_unless told view.over) mail (going_by view mail deeds)) (sym memorizes) (remembers (going_by view mail deeds) spelled);
        reply = replies ∙ answer.sent;
      }
