-- What is to be done next, put together from what was looked at.
use Rattle.std.proofs.Common.{◌≡◌, ◌∙◌, inr, ℕ, suc, zero, ◌+◌, ◌≤◌, is_some, true, false, List, [], ◌∷◌, ◌++◌, length, take, Option, Some, None, Ok, Err, refl, sym, ap, subst, arith, length-append}
use Rattle.std.specs.Borrow.{Bor}
use Rattle.std.specs.Prelude.{slice_get}
use Rattle.lmtp_dialogue.specs.Copies.{IsCopy, was_delivered}
use Rattle.lmtp_dialogue.specs.Dialogues.{Asking, Sending, Dialogue}
use Rattle.lmtp_dialogue.specs.Names.{AreForms}
use Rattle.lmtp_dialogue.specs.Receivers.{StandsIn, IsDelivery, IsKept}
use Rattle.lmtp_dialogue.specs.Turns.{max_text}
use Rattle.lmtp_dialogue.specs.declared.receiver.ReceivedMessage.{ReceivedMessage}
use Rattle.lmtp_dialogue.specs.declared.reply.LmtpReply.TheVariants.{HeaderTooLarge, MailLoop, StoreAway}
use Rattle.lmtp_dialogue.specs.declared.message_text.TextFault.{TextFault}
use Rattle.lmtp_dialogue.specs.declared.message_text.TextFault.TheVariants as fault
use Rattle.lmtp_connections.specs.Connections.{LmtpState, IsOwed, earlier, IsNewDelivery, BecomesWithoutStore, TooLarge, Lacked, Again, LongHeader, Circles, PutOff, has_long_text_header}
use Rattle.lmtp_connections.specs.Stands.{reply_for, ConnectionStands, Demands, IsNextForm, FormFollows, told_before, Owes, IsMessageDue, IsRequested}
use Rattle.lmtp_connections.specs.Progress.{MayAskStore, HasWaited}
use Rattle.lmtp_connections.specs.declared.addressee.Addressee.{Addressee}
use Rattle.lmtp_dialogue.specs.declared.recipient_reply.RecipientReply.{RecipientReply}
use Rattle.lmtp_dialogue.specs.declared.recipient_reply.RecipientReply.TheVariants.{Refused}
use Rattle.lmtp_connections.specs.declared.demand.Demand.TheVariants as demand
use Rattle.lmtp_connections.specs.declared.demand.DeliveryRequest.{DeliveryRequest}
use Rattle.lmtp_connections.specs.declared.demand.Question.{Question}
use Rattle.lmtp_connections.specs.declared.connection.LmtpConnection.{LmtpConnection as Code}
use Rattle.lmtp_connections.specs.declared.progress.LmtpProgress.{LmtpProgress}

-- a list around one of its items
split : {X : Type 0} (xs : List X) (i : ℕ) (x : X) → slice_get xs i ≡ Some x → (after : List X) × (xs ≡ take i xs ++ x ∷ after) × (length (take i xs) ≡ i)
split [] i x is = absurd (let never : None ≡ Some x = is in cc)
split (y ∷ xs) zero x is = (xs, ap (λ z. z ∷ xs) (let same : y ≡ x = cc in same), refl)
split (y ∷ xs) (suc i) x is = let more = split xs i x is in (more.0, ap (λ l. y ∷ l) more.1, ap suc more.2)

pub within : {X : Type 0} (xs : List X) (i : ℕ) (x : X) → slice_get xs i ≡ Some x → i ≤ length xs
within [] i x is = absurd (let never : None ≡ Some x = is in cc)
within (y ∷ xs) zero x is = omega arith
within (y ∷ xs) (suc i) x is = let more = within xs i x is in omega (arith, more)

around : {X : Type 0} (xs before after : List X) (i : ℕ) (x : X) → xs ≡ before ++ x ∷ after → length before ≡ i → length xs ≡ suc i + length after
around {X = X} xs before after i x is count = ap (λ (l : List X). length l) is ∙ seam before after x i count
  where
    seam : {X : Type 0} (before after : List X) (x : X) (i : ℕ) → length before ≡ i → length (before ++ x ∷ after) ≡ suc i + length after
    seam before after x i count = let all : length (before ++ x ∷ after) ≡ length before + length (x ∷ after) = length-append before (x ∷ after) in omega (arith, all, count)

-- ---- a recipient is asked for

abbrev pub AsksFor : Code → List ℕ → Type 0
AsksFor c address = (d : Dialogue) → StandsIn c.receiver d → (sender : List ℕ) × (taken : List (List ℕ)) × (d.phase ≡ Asking sender taken address)

pub put_off : (now : ℕ) (c : Code) (address : List ℕ) → AsksFor c address → HasWaited now c.progress → Demands now c demand.PutOff
put_off now c address asks waited = λ p stands.
    let a = asks p.dialogue stands.holds.dialogue in (subst (HasWaited now) stands.holds.progress waited, (a.0, a.1, address, a.2))

next_is : (tried : ℕ) (others : List (List ℕ)) (count : ℕ) (following : Option ℕ) → count ≡ suc tried + length others → FormFollows tried count following → IsNextForm tried following others
next_is tried [] count None is follows = refl
next_is tried (form ∷ others) count None is follows = absurd (omega (arith, is, follows))
next_is tried [] count (Some next) is follows = absurd (omega (arith, is, follows.0, follows.1))
next_is tried (form ∷ others) count (Some next) is follows = (follows.0, (form, others, refl))

pub account : (now : ℕ) (c : Code) (question : Question) (forms : List (List ℕ)) → AsksFor c question.address → AreForms c.names question.address forms
    → slice_get forms c.progress.tried ≡ Some question.user → FormFollows c.progress.tried (length forms) question.next → MayAskStore now c.progress → Demands now c (demand.Account question)
account now c question forms asks are there follows may = λ p stands.
    let a = asks p.dialogue stands.holds.dialogue in
    let at = split forms c.progress.tried question.user there in
    let tried : c.progress.tried ≡ p.progress.tried = ap (λ (t : LmtpProgress). t.tried) stands.holds.progress in
    let count : length forms ≡ suc c.progress.tried + length at.0 = around forms (take c.progress.tried forms) at.0 c.progress.tried question.user at.1 at.2 in (
      subst (MayAskStore now) stands.holds.progress may,
      (
        at.0,
        record {
          sender = a.0;
          taken = a.1;
          asks = a.2;
          before = take c.progress.tried forms;
          forms = subst (λ n. AreForms n question.address (take c.progress.tried forms ++ question.user ∷ at.0)) stands.holds.names (subst (AreForms c.names question.address) at.1 are);
          count = at.2 ∙ tried;
        },
        subst (λ n. IsNextForm n question.next at.0) tried (next_is c.progress.tried at.0 (length forms) question.next count follows),
      ),
    )

-- ---- a reply is owed

some_of : {X : Type 0} (o : Option X) → is_some o ≡ true → (x : X) × (o ≡ Some x)
some_of None is = absurd (let never : false ≡ true = is in cc)
some_of (Some x) is = (x, refl)

abbrev pub Delivers : Code → ReceivedMessage → Type 0
Delivers c received = (d : Dialogue) → StandsIn c.receiver d → IsDelivery d received

-- to the recipient that stands there
pub record OwesNext (c : Code) (it : Addressee) (received : ReceivedMessage) (p : LmtpState) : Type 0 where
  pub after : List Addressee
  pub text : List ℕ
  pub is : IsOwed p (told_before c) it after received.sender.now text
  pub kept : IsKept text received.text

pub owes_next : (c : Code) (it : Addressee) (received : ReceivedMessage) → Delivers c received → slice_get c.addressees.items c.progress.told ≡ Some it → it.address ≡ received.recipient.now
    → (p : LmtpState) → ConnectionStands c p → OwesNext c it received p
owes_next c it received delivers there same p stands =
    let d = delivers p.dialogue stands.holds.dialogue in
    let at = split c.addressees.items c.progress.told it there in
    record {
      after = at.0;
      text = d.text;
      is = record {
        left = d.left;
        rest = d.rest;
        owed = subst (λ x. p.dialogue.phase ≡ Sending received.sender.now (x ∷ d.left)) (sym same) d.owed;
        first = d.first;
        addressees = sym stands.holds.addressees ∙ at.1;
        count = at.2 ∙ ap (λ (t : LmtpProgress). t.told) stands.holds.progress;
      };
      kept = d.kept;
    }

module _ (now : ℕ) (c : Code) (it : Addressee) (received : ReceivedMessage) (delivers : Delivers c received) (there : slice_get c.addressees.items c.progress.told ≡ Some it) (same : it.address ≡ received.recipient.now) where
  pub owes : (text : Bor (List ℕ)) → received.text ≡ Ok text → Owes c it received.sender.now text.now
  owes text is = λ p stands.
      let o = owes_next c it received delivers there same p stands in
      let kept : (text.now ≡ o.text) × (length o.text ≤ max_text) = subst (IsKept o.text) is o.kept in
      (o.after, subst (IsOwed p (told_before c) it o.after received.sender.now) (sym kept.0) o.is, subst (λ x. length x ≤ max_text) (sym kept.0) kept.1)

  pub known : is_some it.became ≡ true → Demands now c demand.Noted
  known some = λ p stands.
      let o = owes_next c it received delivers there same p stands in
      let b = some_of it.became some in
      (told_before c, it, o.after, received.sender.now, o.text, b.0, o.is, b.1)

  becomes : (fault : TextFault) (p : LmtpState) (text : List ℕ) → IsKept text (Err fault) → BecomesWithoutStore now p (told_before c) it text (Refused (reply_for fault))
  becomes fault.TooLarge p text kept = TooLarge kept refl
  becomes fault.Memory p text kept = Lacked refl

  pub unkept : it.became ≡ None → (fault : TextFault) → received.text ≡ Err fault → Demands now c (demand.Reply (Refused (reply_for fault)))
  unkept fresh fault is = λ p stands.
      let o = owes_next c it received delivers there same p stands in
      (told_before c, it, o.after, received.sender.now, o.text, o.is, inr (fresh, becomes fault p o.text (subst (IsKept o.text) is o.kept)))

module _ (now : ℕ) (c : Code) (it : Addressee) (text : List ℕ) (fresh : it.became ≡ None) where
  pub again : (became : RecipientReply) → earlier (told_before c) it ≡ Some became → (sender : List ℕ) → Owes c it sender text → Demands now c (demand.Reply became)
  again became is = λ sender owes p stands.
      let o = owes p stands in
      (told_before c, it, o.0, sender, text, o.1, inr (fresh, Again is))

  pub too_long : has_long_text_header text ≡ true → (sender : List ℕ) → Owes c it sender text → Demands now c (demand.Reply (Refused HeaderTooLarge))
  too_long is = λ sender owes p stands.
      let o = owes p stands in
      (told_before c, it, o.0, sender, text, o.1, inr (fresh, LongHeader is refl))

  pub goes_round : was_delivered it.address text ≡ true → (sender : List ℕ) → Owes c it sender text → Demands now c (demand.Reply (Refused MailLoop))
  goes_round is = λ sender owes p stands.
      let o = owes p stands in
      (told_before c, it, o.0, sender, text, o.1, inr (fresh, Circles is refl))

  new_one : earlier (told_before c) it ≡ None → has_long_text_header text ≡ false → was_delivered it.address text ≡ false → length text ≤ max_text → IsNewDelivery (told_before c) it text
  new_one once headed straight small = record { fresh = fresh; small = small; once = once; headed = headed; straight = straight }

  pub puts_off : earlier (told_before c) it ≡ None → has_long_text_header text ≡ false → was_delivered it.address text ≡ false → HasWaited now c.progress
      → (sender : List ℕ) → Owes c it sender text → Demands now c (demand.Reply (Refused StoreAway))
  puts_off once headed straight waited = λ sender owes p stands.
      let o = owes p stands in
      (told_before c, it, o.0, sender, text, o.1, inr (fresh, PutOff (new_one once headed straight o.2) (subst (HasWaited now) stands.holds.progress waited) refl))

  pub due : earlier (told_before c) it ≡ None → has_long_text_header text ≡ false → was_delivered it.address text ≡ false → MayAskStore now c.progress
      → (sender : List ℕ) → Owes c it sender text → IsMessageDue now c it sender text
  due once headed straight may = λ sender owes p stands.
      let o = owes p stands in
      (subst (MayAskStore now) stands.holds.progress may, (o.0, record { is = o.1; new = new_one once headed straight o.2 }))

-- ---- the store is given it

pub demanded : (now : ℕ) (c : Code) (it : Addressee) (sender text : List ℕ) → IsMessageDue now c it sender text → Demands now c demand.Delivery
demanded now c it sender text due = λ p stands.
    let d = due p stands in
    (d.0, (told_before c, it, d.1.0, sender, text, d.1.1))

pub requested : (now : ℕ) (c : Code) (it : Addressee) (sender text : List ℕ) → IsMessageDue now c it sender text → (request : DeliveryRequest) → request.user ≡ it.user → request.sender ≡ sender
    → request.recipient ≡ it.address → IsCopy sender it.address text request.message → IsRequested now c request
requested now c it sender text due request user from to copy = λ p stands.
    let d = due p stands in (
      d.0,
      (
        told_before c,
        it,
        d.1.0,
        text,
        record {
          is = subst (λ x. IsOwed p (told_before c) it d.1.0 x text) (sym from) d.1.1.is;
          user = user;
          recipient = to;
          copy = subst (λ x. IsCopy x request.recipient text request.message) (sym from) (subst (λ x. IsCopy sender x text request.message) (sym to) copy);
          new = d.1.1.new;
        },
      ),
    )
