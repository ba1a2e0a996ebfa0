-- What the calls of a connection make of it, put together from their parts.
use Rattle.std.proofs.Common.{◌≡◌, ◌∙◌, inl, inr, ℕ, suc, zero, true, ◌+◌, ◌<◌, if◌then◌else◌, List, [], ◌∷◌, ◌++◌, length, Option, Some, None, refl, sym, ap, subst, arith, length-append}
use Rattle.std.specs.Prelude.{slice_get}
use Rattle.lmtp_dialogue.specs.Dialogues.{DialoguePhase, Sending, Dialogue, dialogue_given, Message}
use Rattle.lmtp_dialogue.specs.Receivers.{StandsIn, ComesNext, ReceiverGoes as GoesIn, GoesFrom, SaysNext, ReceiverHears as HearsIn, ReceiverRefuses as RefusesIn}
use Rattle.lmtp_dialogue.specs.RecipientReplies.{recipient_lines}
use Rattle.lmtp_dialogue.specs.Replies.{lmtp_line_of}
use Rattle.lmtp_dialogue.specs.Talks.{phase_by}
use Rattle.lmtp_dialogue.specs.Turns.{DialogueAnswers, Declines, Resolves, DialogueReplies, lookup_reply, replied}
use Rattle.lmtp_dialogue.specs.declared.receiver.Lookup.{Lookup}
use Rattle.lmtp_dialogue.specs.declared.receiver.Lookup.TheVariants.{Known, Unknown, Away as Absent, Fault, NoRoom}
use Rattle.lmtp_dialogue.specs.declared.receiver.Next.{Next}
use Rattle.lmtp_dialogue.specs.declared.receiver.Receiver.{Receiver}
use Rattle.lmtp_dialogue.specs.declared.receiver.LmtpStage.{LmtpStage}
use Rattle.lmtp_dialogue.specs.declared.receiver.LmtpStage.TheVariants as stage
use Rattle.lmtp_dialogue.specs.declared.recipient_reply.RecipientReply.{RecipientReply}
use Rattle.lmtp_dialogue.specs.declared.recipient_reply.ReplyBuffer.{ReplyBuffer}
use Rattle.lmtp_dialogue.proofs.DialogueLemmas.{one_item}
use Rattle.lmtp_connections.specs.Connections.{LmtpState, is_transaction_open, is_sending, has_some, lmtp_state_after, Answered, Declined, Asked, Away, Brought, IsFormAsked, taken_with, next_form, LookupFinds, IsFinding, Resolved, first_form, IsOwed, became_of, lmtp_state_told, lmtp_state_brought, next_recipient}
use Rattle.lmtp_connections.specs.Stands.{wanted_for, ConnectionHolds, ConnectionStands, is_open_at, is_sending_at, Settles, ConnectionGoesOn, AsksRecipient, ResolvesIt, TellsIt, ConnectionKeeps, ConnectionHears, ConnectionDoes, IsNextForm, Demands, AsksIt, NotesBecame, IsRequested, TellsNoted, noted}
use Rattle.lmtp_connections.specs.Progress.{progress_done, progress_settled, progress_heard, progress_away}
use Rattle.lmtp_connections.specs.declared.addressee.Addressee.{Addressee}
use Rattle.lmtp_dialogue.specs.declared.recipient_reply.RecipientReply.{RecipientReply}
use Rattle.lmtp_connections.specs.declared.demand.Demand.TheVariants as demand
use Rattle.lmtp_connections.specs.declared.demand.DeliveryRequest.{DeliveryRequest}
use Rattle.lmtp_connections.specs.declared.demand.Question.{Question}
use Rattle.lmtp_connections.specs.declared.connection.LmtpConnection.{LmtpConnection as Code}
use Rattle.lmtp_connections.specs.declared.progress.LmtpProgress.{LmtpProgress}

-- ---- what goes on, as the code holds it

open_by : (at : LmtpStage) (sender : List ℕ) (recipients : List (List ℕ)) (told : ℕ) → is_transaction_open (phase_by at sender recipients told) ≡ is_open_at at
open_by stage.Greeted sender recipients told = refl
open_by stage.Ready sender recipients told = refl
open_by stage.Opened sender recipients told = refl
open_by stage.Asking sender recipients told = refl
open_by stage.Sending sender recipients told = refl
open_by stage.Over sender recipients told = refl

sending_by : (at : LmtpStage) (sender : List ℕ) (recipients : List (List ℕ)) (told : ℕ) → is_sending (phase_by at sender recipients told) ≡ is_sending_at at
sending_by stage.Greeted sender recipients told = refl
sending_by stage.Ready sender recipients told = refl
sending_by stage.Opened sender recipients told = refl
sending_by stage.Asking sender recipients told = refl
sending_by stage.Sending sender recipients told = refl
sending_by stage.Over sender recipients told = refl

open_is : (r : Receiver) (d : Dialogue) → StandsIn r d → is_transaction_open d.phase ≡ is_open_at r.talk.stage
open_is r d stands = ap is_transaction_open stands.holds.phase ∙ open_by r.talk.stage r.talk.sender r.talk.recipients r.talk.told

sending_is : (r : Receiver) (d : Dialogue) → StandsIn r d → is_sending d.phase ≡ is_sending_at r.talk.stage
sending_is r d stands = ap is_sending stands.holds.phase ∙ sending_by r.talk.stage r.talk.sender r.talk.recipients r.talk.told

-- ---- what follows

pub goes_on : (now : ℕ) (c m e : Code) (what : Next) → Settles now c m → e.names ≡ m.names → e.receiver ≡ m.receiver → e.addressees ≡ m.addressees → e.progress ≡ m.progress
    → ((d : Dialogue) → StandsIn m.receiver d → ComesNext d what) → e.comes ≡ wanted_for what → ConnectionGoesOn now c e
goes_on now c m e what settles names receiver addressees progress next comes = λ p holds.
    let goes : is_open_at c.receiver.talk.stage ≡ is_transaction_open p.dialogue.phase = sym (open_is c.receiver p.dialogue holds.dialogue) in
    let same : e.receiver ≡ c.receiver = receiver ∙ settles.receiver in
    let inside : StandsIn m.receiver p.dialogue = subst (λ r. StandsIn r p.dialogue) (sym settles.receiver) holds.dialogue in
    record {
      holds = record {
        names = names ∙ (settles.names ∙ holds.names);
        hello = ap (λ (r : Receiver). r.talk.hello) same ∙ holds.hello;
        dialogue = subst (λ r. StandsIn r p.dialogue) (sym same) holds.dialogue;
        addressees = ap (λ a. a.items) addressees ∙ (settles.addressees
            ∙ (ap (λ xs. if is_open_at c.receiver.talk.stage then xs else []) holds.addressees ∙ ap (λ b. if b then p.addressees else []) goes));
        progress = progress ∙ (settles.progress
            ∙ (ap (λ t. progress_settled now (is_open_at c.receiver.talk.stage) (has_some c.addressees.items) t) holds.progress
            ∙ (ap (λ xs. progress_settled now (is_open_at c.receiver.talk.stage) (has_some xs) p.progress) holds.addressees ∙ ap (λ b. progress_settled now b (has_some p.addressees) p.progress) goes)));
      };
      comes = (what, next p.dialogue inside, comes);
    }

-- ---- octets come

pub hears : (now : ℕ) (piece : List ℕ) (c e : Code) (what : Next) → e.names ≡ c.names → HearsIn c.receiver piece e.receiver → e.receiver.talk.hello ≡ c.receiver.talk.hello
    → e.addressees ≡ c.addressees → e.progress ≡ progress_heard now (is_sending_at c.receiver.talk.stage) (length piece) c.progress
    → ((d : Dialogue) → StandsIn e.receiver d → ComesNext d what) → e.comes ≡ wanted_for what → ConnectionHears now piece c e
hears now piece c e what names heard_in hello addressees progress next comes = λ p stands.
    let holds = stands.holds in
    let inside : StandsIn e.receiver (dialogue_given piece p.dialogue) = heard_in p.dialogue holds.dialogue in
    let sending : is_sending_at c.receiver.talk.stage ≡ is_sending p.dialogue.phase = sym (sending_is c.receiver p.dialogue holds.dialogue) in
    record {
      holds = record {
        names = names ∙ holds.names;
        hello = hello ∙ holds.hello;
        dialogue = inside;
        addressees = ap (λ a. a.items) addressees ∙ holds.addressees;
        progress = progress ∙ (ap (λ t. progress_heard now (is_sending_at c.receiver.talk.stage) (length piece) t) holds.progress ∙ ap (λ b. progress_heard now b (length piece) p.progress) sending);
      };
      comes = (what, next (dialogue_given piece p.dialogue) inside, comes);
    }

-- ---- a line

pub answers : (now : ℕ) (c m e : Code) (before after : List ℕ) → before ≡ [] → Demands now c demand.Line → SaysNext c.receiver m.receiver before after
    → m.receiver.talk.hello ≡ c.receiver.talk.hello → m.names ≡ c.names → m.addressees ≡ c.addressees → m.progress ≡ c.progress → ConnectionGoesOn now m e → ConnectionDoes now Answered after c e
answers now c m e before after none line answered hello names addressees progress goes = λ p stands.
    let holds = stands.holds in
    let a = answered p.dialogue holds.dialogue (line p stands) in
    let mid : ConnectionHolds m (record p { dialogue = a.next }) = record {
      names = names ∙ holds.names;
      hello = hello ∙ holds.hello;
      dialogue = a.stands;
      addressees = ap (λ x. x.items) addressees ∙ holds.addressees;
      progress = progress ∙ holds.progress;
    } in
    let said : a.said ≡ after = sym (a.written ∙ ap (λ x. x ++ a.said) none) in (
      lmtp_state_after now a.next p.addressees p.progress p,
      inl (record { later = a.next; answers = subst (λ x. DialogueAnswers p.hello p.dialogue x a.next) said (subst (λ x. DialogueAnswers x p.dialogue a.said a.next) holds.hello a.does); leaves = refl }),
      goes (record p { dialogue = a.next }) mid,
    )

-- ---- a MAIL for which there is no room

pub declines : (now room : ℕ) (c m e : Code) (before after : List ℕ) → before ≡ [] → RefusesIn room c.receiver m.receiver before after true
    → m.receiver.talk.hello ≡ c.receiver.talk.hello → m.names ≡ c.names → m.addressees ≡ c.addressees → m.progress ≡ c.progress → ConnectionGoesOn now m e → ConnectionDoes now (Declined room) after c e
declines now room c m e before after none refused hello names addressees progress goes = λ p stands.
    let holds = stands.holds in
    let a = refused p.dialogue holds.dialogue in
    let mid : ConnectionHolds m (record p { dialogue = a.next }) = record {
      names = names ∙ holds.names;
      hello = hello ∙ holds.hello;
      dialogue = a.stands;
      addressees = ap (λ x. x.items) addressees ∙ holds.addressees;
      progress = progress ∙ holds.progress;
    } in
    let said : a.said ≡ after = sym (a.written ∙ ap (λ x. x ++ a.said) none) in (
      lmtp_state_after now a.next p.addressees p.progress p,
      record { later = a.next; declines = subst (λ x. Declines room p.dialogue x a.next) said a.does; leaves = refl },
      goes (record p { dialogue = a.next }) mid,
    )

-- ---- the text isn't kept

pub drops : (c e : Code) → ((d : Dialogue) → StandsIn c.receiver d → StandsIn e.receiver d) → e.receiver.talk.hello ≡ c.receiver.talk.hello
    → e ≡ record c { receiver = e.receiver } → ConnectionKeeps c e
drops c e stands_in hello rest = λ p stands. record {
  holds = record {
    names = ap (λ (x : Code). x.names) rest ∙ stands.holds.names;
    hello = hello ∙ stands.holds.hello;
    dialogue = stands_in p.dialogue stands.holds.dialogue;
    addressees = ap (λ (x : Code). x.addressees.items) rest ∙ stands.holds.addressees;
    progress = ap (λ (x : Code). x.progress) rest ∙ stands.holds.progress;
  };
  comes = (stands.comes.0, stands.comes.1, ap (λ (x : Code). x.comes) rest ∙ stands.comes.2);
}

-- ---- a recipient

pub resolves : (now : ℕ) (lookup : Lookup) (said octets : List ℕ) (c m e : Code) → GoesIn (λ d. Resolves d lookup) c.receiver m.receiver [] octets
    → said ≡ lmtp_line_of (lookup_reply lookup) → m.receiver.talk.hello ≡ c.receiver.talk.hello → m.names ≡ c.names → m.addressees ≡ c.addressees → m.progress ≡ first_form c.progress → ConnectionGoesOn now m e
    → ResolvesIt now lookup said c e
resolves now lookup said octets c m e admits line hello names addressees progress goes = λ p holds asks. by p holds asks (admits p.dialogue holds.dialogue)
  where
    on : (p : LmtpState) (later : Dialogue) → ConnectionHolds c p → StandsIn m.receiver later → ConnectionStands e (lmtp_state_after now later p.addressees (first_form p.progress) p)
    on p later holds inside = goes (record p { dialogue = later; progress = first_form p.progress }) (record {
      names = names ∙ holds.names;
      hello = hello ∙ holds.hello;
      dialogue = inside;
      addressees = ap (λ x. x.items) addressees ∙ holds.addressees;
      progress = progress ∙ ap first_form holds.progress;
    })

    by : (p : LmtpState) → ConnectionHolds c p → AsksRecipient p → GoesFrom (λ d. Resolves d lookup) p.dialogue m.receiver [] octets
        → (later : Dialogue) × Resolves p.dialogue lookup said later × ConnectionStands e (lmtp_state_after now later p.addressees (first_form p.progress) p)
    by p holds asks g = elim g.happens [
      | inl is ↦ (g.next, subst (λ x. Resolves p.dialogue lookup x g.next) (is.told ∙ sym line) is, on p g.next holds g.stands)
      | inr none ↦ absurd (none.0 (lmtp_line_of (lookup_reply lookup)) _ (record { sender = asks.0; taken = asks.1; address = asks.2; asked = asks.3; told = refl; leaves = refl }))
    ]

-- ---- a reply behind the text

longer : (before after : List Addressee) (it : Addressee) → length before < length (before ++ it ∷ after)
longer before after it = grind (arith, length-append)

pub tells : (now : ℕ) (became : RecipientReply) (said octets : List ℕ) (any : RecipientReply) (c m n e : Code) → GoesIn (λ d. DialogueReplies d any) c.receiver m.receiver [] octets
    → said ≡ recipient_lines became → m.receiver.talk.hello ≡ c.receiver.talk.hello → m.names ≡ c.names → m.addressees ≡ c.addressees → m.progress ≡ c.progress
    → ((before after : List Addressee) (it : Addressee) → m.addressees.items ≡ before ++ it ∷ after → length before ≡ m.progress.told → n.addressees.items ≡ before ++ record it { became = Some became } ∷ after)
    → (m.progress.told < length m.addressees.items → n.progress ≡ next_recipient m.progress) → n.receiver ≡ m.receiver → n.names ≡ m.names → ConnectionGoesOn now n e
    → TellsIt now became said c e
tells now became said octets any c m n e passes line hello names addressees progress noted counted receiver same_names goes = λ p stands before it after sender text is.
    (line, by p stands before it after sender text is (passes p.dialogue stands.holds.dialogue))
  where
    on : (p : LmtpState) (later : Dialogue) (before : List Addressee) (it : Addressee) (after : List Addressee) → ConnectionStands c p → p.addressees ≡ before ++ it ∷ after → length before ≡ p.progress.told
        → StandsIn m.receiver later → ConnectionStands e (lmtp_state_after now later (before ++ record it { became = Some became } ∷ after) (next_recipient p.progress) p)
    on p later before it after stands addressed count inside =
        let holds = stands.holds in
        let items : m.addressees.items ≡ before ++ it ∷ after = ap (λ x. x.items) addressees ∙ (holds.addressees ∙ addressed) in
        let told : length before ≡ m.progress.told = count ∙ ap (λ (t : LmtpProgress). t.told) (sym (progress ∙ holds.progress)) in
        let within : m.progress.told < length m.addressees.items = subst (λ x. m.progress.told < length x) (sym items) (subst (λ k. k < length (before ++ it ∷ after)) told (longer before after it)) in
        goes (record p { dialogue = later; addressees = before ++ record it { became = Some became } ∷ after; progress = next_recipient p.progress }) (record {
          names = same_names ∙ (names ∙ holds.names);
          hello = ap (λ (r : Receiver). r.talk.hello) receiver ∙ (hello ∙ holds.hello);
          dialogue = subst (λ r. StandsIn r later) (sym receiver) inside;
          addressees = noted before after it items told;
          progress = counted within ∙ ap next_recipient (progress ∙ holds.progress);
        })

    sender_of : DialoguePhase → List ℕ
    sender_of (Sending sender left) = sender
    sender_of phase = []

    left_of : DialoguePhase → List (List ℕ)
    left_of (Sending sender (recipient ∷ left)) = left
    left_of phase = []

    by : (p : LmtpState) → ConnectionStands c p → (before : List Addressee) (it : Addressee) (after : List Addressee) (sender text : List ℕ) (is : IsOwed p before it after sender text)
        → GoesFrom (λ d. DialogueReplies d any) p.dialogue m.receiver [] octets → ConnectionStands e (lmtp_state_told now became p before it after sender text is)
    by p stands before it after sender text is g = elim g.happens [
      | inl r ↦
          let phase : Sending r.sender (r.recipient ∷ r.left) ≡ Sending sender (it.address ∷ is.left) = sym r.owed ∙ is.owed in
          let later : g.next ≡ replied sender is.left p.dialogue is.rest =
          r.leaves ∙ (ap (λ x. replied x r.left p.dialogue r.rest) (ap sender_of phase)
          ∙ (ap (λ x. replied sender x p.dialogue r.rest) (ap left_of phase)
          ∙ ap (λ x. replied sender is.left p.dialogue x) (one_item p.dialogue (Message r.text) (Message text) r.rest is.rest r.first is.first).1)) in
          on p (replied sender is.left p.dialogue is.rest) before it after stands is.addressees is.count (subst (λ d. StandsIn m.receiver d) later g.stands)
      | inr none ↦ absurd (none.0 (recipient_lines any) _ (record { sender = sender; recipient = it.address; left = is.left; text = text; rest = is.rest; owed = is.owed; first = is.first; told = refl; leaves = refl }))
    ]

-- ---- the store is away

pub awaits : (now : ℕ) (c : Code) (t : LmtpProgress) → AsksIt now c → t ≡ progress_away now c.progress → ConnectionDoes now Away [] c (record c { progress = t })
awaits now c t asks is = λ p stands. (
  record p { progress = progress_away now p.progress },
  ((asks p stands).0, (asks p stands).1, refl, refl),
  record {
    holds = record {
      names = stands.holds.names;
      hello = stands.holds.hello;
      dialogue = stands.holds.dialogue;
      addressees = stands.holds.addressees;
      progress = is ∙ ap (progress_away now) stands.holds.progress;
    };
    comes = stands.comes;
  },
)

-- ---- the store has said what is found

finds_by : (now : ℕ) (p : LmtpState) (address user : List ℕ) (others : List (List ℕ)) (lookup : Lookup) (said : List ℕ) (q : LmtpState) → (lookup ≡ Unknown → others ≡ [])
    → Resolved now p lookup (taken_with lookup user address p.addressees) said q → LookupFinds now p address user others lookup said q
finds_by now p address user [] lookup said q last resolved = resolved
finds_by now p address user (next ∷ others) Unknown said q last resolved = absurd (let never : next ∷ others ≡ [] = last refl in cc)
finds_by now p address user (next ∷ others) Known said q last resolved = resolved
finds_by now p address user (next ∷ others) Absent said q last resolved = resolved
finds_by now p address user (next ∷ others) Fault said q last resolved = resolved
finds_by now p address user (next ∷ others) NoRoom said q last resolved = resolved

pub not_taken : (lookup : Lookup) (user address : List ℕ) (addressees : List Addressee) → (lookup ≡ Known → ⊥) → addressees ≡ taken_with lookup user address addressees
not_taken Known user address addressees other = absurd (other refl)
not_taken Unknown user address addressees other = refl
not_taken Absent user address addressees other = refl
not_taken Fault user address addressees other = refl
not_taken NoRoom user address addressees other = refl

pub found : (now : ℕ) (lookup : Lookup) (said : List ℕ) (c m e : Code) (question : Question) → IsFinding lookup → Demands now c (demand.Account question) → (lookup ≡ Unknown → question.next ≡ None)
    → m.names ≡ c.names → m.receiver ≡ c.receiver → m.addressees.items ≡ taken_with lookup question.user question.address c.addressees.items → m.progress ≡ c.progress → ResolvesIt now lookup said m e
    → ConnectionDoes now (Asked question.user lookup) said c e
found now lookup said c m e question is_found asked last names receiver addressees progress resolved = λ p stands.
    let holds = stands.holds in
    let a = asked p stands in
    let all = taken_with lookup question.user question.address p.addressees in
    let mid : ConnectionHolds m (record p { addressees = all }) = record {
      names = names ∙ holds.names;
      hello = ap (λ (r : Receiver). r.talk.hello) receiver ∙ holds.hello;
      dialogue = subst (λ r. StandsIn r p.dialogue) (sym receiver) holds.dialogue;
      addressees = addressees ∙ ap (taken_with lookup question.user question.address) holds.addressees;
      progress = progress ∙ holds.progress;
    } in
    let r = resolved (record p { addressees = all }) mid (a.1.1.sender, a.1.1.taken, question.address, a.1.1.asks) in
    let q = lmtp_state_after now r.0 all (first_form p.progress) p in
    let none : lookup ≡ Unknown → a.1.0 ≡ [] = λ unknown. subst (λ o. IsNextForm p.progress.tried o a.1.0) (last unknown) a.1.2 in (
      q,
      (a.0, is_found, (question.address, a.1.0, a.1.1, finds_by now p question.address question.user a.1.0 lookup said q none (record { later = r.0; resolves = r.1; leaves = refl }))),
      r.2,
    )

pub tried : (now count : ℕ) (c : Code) (t : LmtpProgress) (question : Question) → Demands now c (demand.Account question) → question.next ≡ Some count → t ≡ record (progress_done now c.progress) { tried = count }
    → ConnectionDoes now (Asked question.user Unknown) [] c (record c { progress = t })
tried now count c t question asked next is = λ p stands.
    let a = asked p stands in
    let more : (count ≡ p.progress.tried + 1) × ((form : List ℕ) × (rest : List (List ℕ)) × (a.1.0 ≡ form ∷ rest)) = subst (λ o. IsNextForm p.progress.tried o a.1.0) next a.1.2 in
    let asks : IsFormAsked p question.address question.user (more.1.0 ∷ more.1.1) = subst (IsFormAsked p question.address question.user) more.1.2 a.1.1 in (
      record p { progress = next_form (progress_done now p.progress) },
      (a.0, tt, (question.address, more.1.0 ∷ more.1.1, asks, (refl, refl))),
      record {
        holds = record {
          names = stands.holds.names;
          hello = stands.holds.hello;
          dialogue = stands.holds.dialogue;
          addressees = stands.holds.addressees;
          progress = is ∙ (ap (λ (x : LmtpProgress). record (progress_done now x) { tried = count }) stands.holds.progress ∙ ap (λ k. record (progress_done now p.progress) { tried = k }) more.0);
        };
        comes = stands.comes;
      },
    )

pub puts_off : (now : ℕ) (said : List ℕ) (c e : Code) → Demands now c demand.PutOff → ResolvesIt now Absent said c e → ConnectionDoes now Answered said c e
puts_off now said c e demands resolved = λ p stands.
    let d = demands p stands in
    let r = resolved p stands.holds d.1 in
    (lmtp_state_after now r.0 p.addressees (first_form p.progress) p, inr (inl (d.0, record { later = r.0; resolves = r.1; leaves = refl })), r.2)

-- ---- a reply is made

pub replies : (now : ℕ) (became : RecipientReply) (said : List ℕ) (c e : Code) → Demands now c (demand.Reply became) → TellsIt now became said c e → ConnectionDoes now Answered said c e
replies now became said c e demands told = λ p stands.
    let d = demands p stands in
    let t = told p stands d.0 d.1 d.2 d.3 d.4 d.5 in (
      lmtp_state_told now became p d.0 d.1 d.2 d.3 d.4 d.5,
      inr (inr (became, record { before = d.0; it = d.1; after = d.2; sender = d.3; text = d.4; is = d.5; says = t.0; leaves = refl }, d.6)),
      t.1,
    )

-- ---- what was noted is told

-- the item of a list at its seam
at_seam : {X : Type 0} (before after : List X) (x : X) (i : ℕ) → length before ≡ i → slice_get (before ++ x ∷ after) i ≡ Some x
at_seam [] after x zero is = refl
at_seam [] after x (suc i) is = absurd (omega (arith, is))
at_seam (y ∷ before) after x zero is = absurd (omega (arith, is))
at_seam (y ∷ before) after x (suc i) is = at_seam before after x i (omega (arith, is))

module _ (c : Code) (before after : List Addressee) (it : Addressee) (items : c.addressees.items ≡ before ++ it ∷ after) (count : length before ≡ c.progress.told) where
  -- what was noted is what became of the message for the one who comes next
  noted_there : noted c ≡ it.became
  noted_there = ap (λ (xs : List Addressee). became_of (slice_get xs c.progress.told)) items ∙ ap became_of (at_seam before after it c.progress.told count)

  -- to note it once more changes nothing
  pub noted_again : (became : RecipientReply) → noted c ≡ Some became → c.addressees.items ≡ before ++ record it { became = Some became } ∷ after
  noted_again became is =
      let same : it.became ≡ Some became = sym noted_there ∙ is in
      items ∙ ap (λ b. before ++ record it { became = b } ∷ after) same

replies_noted : (now : ℕ) (said : List ℕ) (c e : Code) → Demands now c demand.Noted → TellsNoted now said c e → ConnectionDoes now Answered said c e
replies_noted now said c e demands told = λ p stands.
    let d = demands p stands in
    let before = d.0 in
    let it = d.1 in
    let owed = d.6 in
    let holds = stands.holds in
    let count : length before ≡ c.progress.told = owed.count ∙ ap (λ (t : LmtpProgress). t.told) (sym holds.progress) in
    let is : noted c ≡ Some d.5 = noted_there c before d.2 it (holds.addressees ∙ owed.addressees) count ∙ d.7 in
    let t = told d.5 is p stands before it d.2 d.3 d.4 owed in (
      lmtp_state_told now d.5 p before it d.2 d.3 d.4 owed,
      inr (inr (d.5, record { before = before; it = it; after = d.2; sender = d.3; text = d.4; is = owed; says = t.0; leaves = refl }, inl d.7)),
      t.1,
    )

-- the same connection with memory reserved, or without
with_room : (c : Code) (room : Option ReplyBuffer) (p : LmtpState) → ConnectionStands c p → ConnectionStands (record c { room = room }) p
with_room c room p stands = record {
  holds = record {
    names = stands.holds.names;
    hello = stands.holds.hello;
    dialogue = stands.holds.dialogue;
    addressees = stands.holds.addressees;
    progress = stands.holds.progress;
  };
  comes = stands.comes;
}

pub replies_with : (now : ℕ) (said : List ℕ) (c e : Code) (room : Option ReplyBuffer) → Demands now c demand.Noted → TellsNoted now said (record c { room = room }) e → ConnectionDoes now Answered said c e
replies_with now said c e room demands told = replies_noted now said c e demands (λ became is p stands. told became is p (with_room c room p stands))

-- ---- the store was given a message

pub brings : (now : ℕ) (request : DeliveryRequest) (became : RecipientReply) (c m : Code) (t : LmtpProgress) → IsRequested now c request → NotesBecame became c m → m ≡ record c { addressees = m.addressees }
    → t ≡ progress_settled now true true m.progress → ConnectionDoes now (Brought request became) [] c (record m { progress = t })
brings now request became c m t requested noted rest is = λ p stands.
    let d = requested p stands in
    let holds = stands.holds in
    let owed = d.1.4.is in
    let same : m.progress ≡ p.progress = ap (λ (x : Code). x.progress) rest ∙ holds.progress in
    let count : length d.1.0 ≡ c.progress.told = owed.count ∙ ap (λ (x : LmtpProgress). x.told) (sym holds.progress) in (
      lmtp_state_brought now became p d.1.0 d.1.1 d.1.2,
      (d.0, refl, record { before = d.1.0; it = d.1.1; after = d.1.2; text = d.1.3; is = d.1.4; leaves = refl }),
      record {
        holds = record {
          names = ap (λ (x : Code). x.names) rest ∙ holds.names;
          hello = ap (λ (x : Code). x.receiver.talk.hello) rest ∙ holds.hello;
          dialogue = subst (λ r. StandsIn r p.dialogue) (sym (ap (λ (x : Code). x.receiver) rest)) holds.dialogue;
          addressees = noted d.1.0 d.1.2 d.1.1 (holds.addressees ∙ owed.addressees) count;
          progress = is ∙ ap (progress_settled now true true) same;
        };
        comes = (stands.comes.0, stands.comes.1, ap (λ (x : Code). x.comes) rest ∙ stands.comes.2);
      },
    )
