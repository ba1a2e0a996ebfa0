-- For which dialogue a receiver stands once something was answered.
use Rattle.std.proofs.Common.{◌≡◌, ℕ, ◌+◌, ◌-◌, true, false, List, [], ◌∷◌, length, take, drop, get_or, inl, inr, refl, sym, ap, ◌∙◌, subst, append-nil}
use Rattle.lmtp_dialogue.specs.Dialogues.{DialoguePhase, Opened, Asking, Sending, Dialogue, Item, Command, LongLine, Message, SpellsItem, IsNextItem, DialogueWaits}
use Rattle.lmtp_dialogue.specs.Lines.{LineFinds}
use Rattle.lmtp_dialogue.specs.Receivers.{IsItemGone, ReceiverPasses, HoldsDialogue, IsItemTaken, StandsIn, ReceiverTakesIn, GoesFrom, ReceiverGoes, DoesFrom, ReceiverAdmits, reads_lines, takes_lines, is_line, SaysNext}
use Rattle.lmtp_dialogue.specs.RecipientReplies.{recipient_lines}
use Rattle.lmtp_dialogue.specs.Talks.{phase_by, phase_of, item_by, TakesTurn, TalkObeys, TalkDoes, TalkReports, resolved_turn, phase_replied, IsTextAfter}
use Rattle.lmtp_dialogue.specs.Talks.{PassesReply as TalkPasses}
use Rattle.lmtp_dialogue.specs.Texts.{TextStandsFor, text_after}
use Rattle.lmtp_dialogue.specs.Turns.{LmtpTurn, IsLineTurn, DialogueAnswers, Resolves, DialogueReplies, replied, taken_by, max_text}
use Rattle.lmtp_dialogue.specs.declared.command_line.Found.{Found}
use Rattle.lmtp_dialogue.specs.declared.command_line.Found.TheVariants.{Line}
use Rattle.lmtp_dialogue.specs.declared.receiver.Lookup.{Lookup}
use Rattle.lmtp_dialogue.specs.declared.receiver.Receiver.{Receiver}
use Rattle.lmtp_dialogue.specs.declared.receiver.LmtpStage.{LmtpStage}
use Rattle.lmtp_dialogue.specs.declared.receiver.LmtpStage.TheVariants as stage
use Rattle.lmtp_dialogue.specs.declared.recipient_reply.RecipientReply.{RecipientReply}
use Rattle.lmtp_dialogue.specs.declared.message_text.TextState.TheVariants.{Start, Ended}
use Rattle.lmtp_dialogue.specs.declared.message_text.Text.{Text}
use Rattle.lmtp_dialogue.proofs.NextLemmas.{SendsIn, sends_in, first_line_in, no_line_in, no_text_in, text_first, owed_in}
use Rattle.lmtp_dialogue.proofs.StageLemmas.{reads_taken, fresh_text, sound_fresh, gone_none, stage_of, stage_by}

-- ---- nothing happens

stays : (Is : Dialogue → List ℕ → Dialogue → Type 0) (r : Receiver) (d : Dialogue) (out : List ℕ) → ((octets : List ℕ) (later : Dialogue) → Is d octets later → ⊥)
    → StandsIn r d → GoesFrom Is d r out out
stays Is r d out never stands = record {
  said = [];
  next = d;
  happens = inr (never, refl, refl);
  written = sym (append-nil out);
  stands = stands;
}

no_answer : (hello : List ℕ) (d : Dialogue) → DialogueWaits d → (octets : List ℕ) (later : Dialogue) → DialogueAnswers hello d octets later → ⊥
no_answer hello d waits octets later is = waits is.item is.rest is.first

pub no_line : (r : Receiver) (found : Found) (out : List ℕ) → reads_lines r.talk.stage ≡ true → ((count : ℕ) → found ≡ Line count → ⊥) → LineFinds found r.unread
    → ReceiverGoes (DialogueAnswers r.talk.hello) r r out out
no_line r found out reads other finds = λ d stands.
    stays (DialogueAnswers r.talk.hello) r d out (no_answer r.talk.hello d (no_line_in r d found reads stands other finds)) stands

-- where no lines are read none comes
unread_line : (at : LmtpStage) (sender : List ℕ) (recipients : List (List ℕ)) (told : ℕ) (item : Item) (octets : List ℕ)
    → reads_lines at ≡ false → is_line item ≡ true → SpellsItem (phase_by at sender recipients told) item octets → ⊥
unread_line stage.Greeted sender recipients told item octets reads line spelled = absurd (cc reads)
unread_line stage.Ready sender recipients told item octets reads line spelled = absurd (cc reads)
unread_line stage.Opened sender recipients told item octets reads line spelled = absurd (cc reads)
unread_line stage.Asking sender recipients told item octets reads line spelled = spelled
unread_line stage.Sending sender recipients told (Message text) octets reads line spelled = absurd (cc line)
unread_line stage.Sending sender recipients told (Command line) octets reads is spelled = spelled
unread_line stage.Sending sender recipients told LongLine octets reads line spelled = spelled
unread_line stage.Over sender recipients told item octets reads line spelled = spelled

unread_in : (r : Receiver) (d : Dialogue) (item : Item) (rest : List ℕ) → reads_lines r.talk.stage ≡ false → StandsIn r d → is_line item ≡ true → IsNextItem d item rest → ⊥
unread_in r d item rest reads stands line first =
    unread_line r.talk.stage r.talk.sender r.talk.recipients r.talk.told item first.octets reads line
    (subst (λ p. SpellsItem p item first.octets) stands.holds.phase first.spelled)

turn_line : (hello : List ℕ) (phase : DialoguePhase) (item : Item) (turn : LmtpTurn) → IsLineTurn hello phase item turn → is_line item ≡ true
turn_line hello phase (Command line) turn is = refl
turn_line hello phase LongLine turn is = refl
turn_line hello phase (Message text) turn is = absurd is

pub no_lines : (r : Receiver) (out : List ℕ) → reads_lines r.talk.stage ≡ false → ReceiverGoes (DialogueAnswers r.talk.hello) r r out out
no_lines r out reads = λ d stands.
    stays (DialogueAnswers r.talk.hello) r d out
    (λ octets later is. unread_in r d is.item is.rest reads stands (turn_line r.talk.hello d.phase is.item is.turn is.takes) is.first) stands

pub no_lines_next : (r : Receiver) (out : List ℕ) → reads_lines r.talk.stage ≡ false → SaysNext r r out out
no_lines_next r out reads = λ d stands comes. absurd (unread_in r d comes.0 comes.1 reads stands comes.3 comes.2)

pub no_line_next : (r : Receiver) (found : Found) (out : List ℕ) → reads_lines r.talk.stage ≡ true → ((count : ℕ) → found ≡ Line count → ⊥) → LineFinds found r.unread
    → SaysNext r r out out
no_line_next r found out reads other finds = λ d stands comes. absurd (no_line_in r d found reads stands other finds comes.0 comes.1 comes.2)

-- ---- a line is answered

line_does : (r m s : Receiver) (count : ℕ) (before after : List ℕ) → reads_lines r.talk.stage ≡ true → LineFinds (Line count) r.unread
    → TakesTurn (item_by r.long (take count r.unread)) r.talk m.talk before after → m.long ≡ false → m.unread ≡ drop (count + 2) r.unread → ReceiverTakesIn m s
    → (d : Dialogue) → StandsIn r d → DoesFrom (DialogueAnswers r.talk.hello) d s before after
line_does r m s count before after reads found turns short unread takes = λ d stands.
    let rest = drop (count + 2) r.unread in
    let item = item_by r.long (take count r.unread) in
    let later : Dialogue = record { phase = turns.turn.phase; unread = rest } in
    let fresh = subst (λ t. TextStandsFor t []) (sym turns.obeys.text) (fresh_text r.talk.stage r.talk.text (reads_taken r.talk.stage reads) stands.holds.sound) in
    record {
      said = turns.turn.said;
      next = later;
      does = record {
        item = item;
        rest = rest;
        turn = turns.turn;
        first = first_line_in r d count reads stands found;
        takes = subst (λ p. IsLineTurn r.talk.hello p item turns.turn) (sym stands.holds.phase) turns.takes;
        told = refl;
        leaves = refl;
      };
      written = turns.obeys.said;
      stands = takes later (record {
        phase = sym turns.obeys.phase;
        heard = record {
          gone = [];
          is = rw short (gone_none m.talk.stage m.talk.text m.unread fresh);
          written = sym unread;
        };
        sound = sound_fresh m.talk.stage m.talk.text fresh;
        limit = ap (λ t. let x : Text = t in x.limit) turns.obeys.text ∙ stands.holds.limit;
      });
    }

does_so : (Is : Dialogue → List ℕ → Dialogue → Type 0) (d : Dialogue) (s : Receiver) (before after : List ℕ) → DoesFrom Is d s before after → GoesFrom Is d s before after
does_so Is d s before after is = record { said = is.said; next = is.next; happens = inl is.does; written = is.written; stands = is.stands }

-- it is answered, where it comes next and wherever the receiver stands
pub line_goes : (r m s : Receiver) (count : ℕ) (before after : List ℕ) → reads_lines r.talk.stage ≡ true → LineFinds (Line count) r.unread
    → TakesTurn (item_by r.long (take count r.unread)) r.talk m.talk before after → m.long ≡ false → m.unread ≡ drop (count + 2) r.unread → ReceiverTakesIn m s
    → ReceiverGoes (DialogueAnswers r.talk.hello) r s before after × SaysNext r s before after
line_goes r m s count before after reads found turns short unread takes =
    let does = line_does r m s count before after reads found turns short unread takes in
    ((λ d stands. does_so (DialogueAnswers r.talk.hello) d s before after (does d stands)), (λ d stands comes. does d stands))

-- ---- a recipient is resolved

pub other_stage : (at : LmtpStage) (sender : List ℕ) (recipients : List (List ℕ)) (told : ℕ) (phase : DialoguePhase) → phase ≡ phase_by at sender recipients told → stage_of phase ≡ at
other_stage at sender recipients told phase same = ap stage_of same ∙ stage_by at sender recipients told

pub not_asked : (r : Receiver) (lookup : Lookup) (out : List ℕ) → (r.talk.stage ≡ stage.Asking → ⊥) → ReceiverGoes (λ d. Resolves d lookup) r r out out
not_asked r lookup out other = λ d stands.
    stays (λ e. Resolves e lookup) r d out
    (λ octets later is. other (sym (other_stage r.talk.stage r.talk.sender r.talk.recipients r.talk.told d.phase stands.holds.phase) ∙ ap stage_of is.asked)) stands

pub resolves : (r s : Receiver) (lookup : Lookup) (before after : List ℕ) → r.talk.stage ≡ stage.Asking → TalkObeys (resolved_turn (phase_of r.talk) lookup) r.talk s.talk before after
    → s.long ≡ r.long → s.unread ≡ r.unread → ReceiverGoes (λ d. Resolves d lookup) r s before after
resolves r s lookup before after at obeys long unread = λ d stands.
    let sender = r.talk.sender in
    let taken = take (length r.talk.recipients - 1) r.talk.recipients in
    let address = get_or r.talk.recipients (length r.talk.recipients - 1) [] in
    let asked : phase_of r.talk ≡ Asking sender taken address = ap (λ a. phase_by a r.talk.sender r.talk.recipients r.talk.told) at in
    let opened : phase_of s.talk ≡ Opened sender (taken_by lookup taken address) = obeys.phase ∙ ap (λ p. (let t : LmtpTurn = resolved_turn p lookup in t.phase)) asked in
    let at_later : s.talk.stage ≡ stage.Opened = sym (stage_by s.talk.stage s.talk.sender s.talk.recipients s.talk.told) ∙ ap stage_of opened in
    let fresh = subst (λ t. TextStandsFor t []) (sym obeys.text) (fresh_text r.talk.stage r.talk.text (ap takes_lines at) stands.holds.sound) in
    let gone = stands.holds.heard.gone in
    record {
      said = _;
      next = record d { phase = Opened sender (taken_by lookup taken address) };
      happens = inl (record {
        sender = sender;
        taken = taken;
        address = address;
        asked = stands.holds.phase ∙ asked;
        told = ap (λ p. (let t : LmtpTurn = resolved_turn p lookup in t.said)) asked;
        leaves = refl;
      });
      written = obeys.said;
      stands = record {
        holds = record {
          phase = sym opened;
          heard = record {
            gone = gone;
            is = rw (at_later, long, unread) (subst (λ a. IsItemGone a r.long r.talk.text r.unread gone) at stands.holds.heard.is);
            written = rw unread stands.holds.heard.written;
          };
          sound = sound_fresh s.talk.stage s.talk.text fresh;
          limit = ap (λ t. let x : Text = t in x.limit) obeys.text ∙ stands.holds.limit;
        };
        taken = rw (at_later, long, unread) (subst (λ a. IsItemTaken a r.long r.talk.text r.unread) at stands.taken);
      };
    }

pub admits : (r s : Receiver) (lookup : Lookup) → r.talk.stage ≡ stage.Asking → TalkDoes (resolved_turn (phase_of r.talk) lookup) r.talk s.talk
    → s.long ≡ r.long → s.unread ≡ r.unread → ReceiverAdmits lookup r s
admits r s lookup at does long unread = (_, resolves r s lookup [] _ at does long unread)

pub admits_none : (r : Receiver) (lookup : Lookup) → (r.talk.stage ≡ stage.Asking → ⊥) → ReceiverAdmits lookup r r
admits_none r lookup other = ([], not_asked r lookup [] other)

-- ---- a reply behind a text

pub not_sent : (r : Receiver) (outcome : RecipientReply) (out : List ℕ) → (r.talk.stage ≡ stage.Sending → ⊥) → ReceiverGoes (λ d. DialogueReplies d outcome) r r out out
not_sent r outcome out other = λ d stands.
    stays (λ e. DialogueReplies e outcome) r d out
    (λ octets later is. other (sym (other_stage r.talk.stage r.talk.sender r.talk.recipients r.talk.told d.phase stands.holds.phase) ∙ ap stage_of is.owed)) stands

pub not_whole : (r : Receiver) (outcome : RecipientReply) (out : List ℕ) → r.talk.stage ≡ stage.Sending → (r.talk.text.place ≡ Ended → ⊥) → ReceiverGoes (λ d. DialogueReplies d outcome) r r out out
not_whole r outcome out at goes = λ d stands.
    stays (λ e. DialogueReplies e outcome) r d out (λ octets later is. no_text_in r d at stands goes (Message is.text) is.rest is.first) stands

-- what is held behind a reply
held_after : (r m : Receiver) (d : Dialogue) (left : List (List ℕ)) → SendsIn r d → phase_of m.talk ≡ phase_replied (Sending r.talk.sender (get_or r.talk.recipients r.talk.told [] ∷ left))
    → IsTextAfter (phase_of m.talk) r.talk.text m.talk.text → m.talk.text.limit ≡ max_text → m.long ≡ r.long → m.unread ≡ r.unread → HoldsDialogue m (replied r.talk.sender left d r.unread)
held_after r m d [] sends phase text limit long unread =
    let at : m.talk.stage ≡ stage.Ready = sym (stage_by m.talk.stage m.talk.sender m.talk.recipients m.talk.told) ∙ ap stage_of phase in
    let fresh : TextStandsFor m.talk.text [] = subst (λ p. IsTextAfter p r.talk.text m.talk.text) phase text in
    record {
      phase = sym phase;
      heard = record {
        gone = [];
        is = rw (at, long, sends.short) refl;
        written = sym unread;
      };
      sound = sound_fresh m.talk.stage m.talk.text fresh;
      limit = limit;
    }
held_after r m d (next ∷ left) sends phase text limit long unread =
    let at : m.talk.stage ≡ stage.Sending = sym (stage_by m.talk.stage m.talk.sender m.talk.recipients m.talk.told) ∙ ap stage_of phase in
    let same : m.talk.text ≡ r.talk.text = subst (λ p. IsTextAfter p r.talk.text m.talk.text) phase text in
    record {
      phase = sym phase;
      heard = record {
        gone = sends.gone;
        is = rw (at, same) (long ∙ sends.short, sends.stands);
        written = rw unread sends.written;
      };
      sound = rw at tt;
      limit = limit;
    }

pub report_goes : (r m s : Receiver) (outcome : RecipientReply) (before after : List ℕ) → r.talk.stage ≡ stage.Sending → r.talk.text.place ≡ Ended
    → TalkReports r.talk m.talk (recipient_lines outcome) before after → m.long ≡ r.long → m.unread ≡ r.unread → ReceiverTakesIn m s → ReceiverGoes (λ d. DialogueReplies d outcome) r s before after
report_goes r m s outcome before after at ended reports long unread takes = λ d stands.
    let sends = sends_in r d at stands in
    let recipient = get_or r.talk.recipients r.talk.told [] in
    let left = drop (r.talk.told + 1) r.talk.recipients in
    let owed = owed_in r d at sends in
    let phase : phase_of m.talk ≡ phase_replied (Sending r.talk.sender (recipient ∷ left)) = reports.passes.phase ∙ ap phase_replied (sym stands.holds.phase ∙ owed) in
    record {
      said = recipient_lines outcome;
      next = replied r.talk.sender left d r.unread;
      happens = inl (record {
        sender = r.talk.sender;
        recipient = recipient;
        left = left;
        text = text_after Start sends.gone;
        rest = r.unread;
        owed = owed;
        first = text_first r d sends ended;
        told = refl;
        leaves = refl;
      });
      written = reports.written;
      stands = takes (replied r.talk.sender left d r.unread) (held_after r m d left sends phase reports.passes.text (reports.passes.limit stands.holds.limit) long unread);
    }

-- a reply is made, whatever it says
pub pass_goes : (r m s : Receiver) → r.talk.stage ≡ stage.Sending → r.talk.text.place ≡ Ended → TalkPasses r.talk m.talk → m.long ≡ r.long
    → m.unread ≡ r.unread → ReceiverTakesIn m s → ReceiverPasses r s
pass_goes r m s at ended passes long unread takes = λ outcome.
    (recipient_lines outcome, report_goes r m s outcome [] (recipient_lines outcome) at ended (record { written = refl; passes = passes }) long unread takes)

pub pass_none : (r : Receiver) → ((outcome : RecipientReply) → ReceiverGoes (λ d. DialogueReplies d outcome) r r [] []) → ReceiverPasses r r
pass_none r stays_so = λ outcome. ([], stays_so outcome)
