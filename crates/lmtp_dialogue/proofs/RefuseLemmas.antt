-- A MAIL that is refused for lack of room.
use Rattle.std.proofs.Common.{◌≡◌, ℕ, ◌+◌, Bool, true, false, List, [], ◌++◌, take, drop, inl, inr, refl, sym, ap, ◌∙◌, subst}
use Rattle.lmtp_dialogue.specs.Dialogues.{Dialogue, Command, IsNextItem}
use Rattle.lmtp_dialogue.specs.Lines.{LineFinds}
use Rattle.lmtp_dialogue.specs.ReadCommands.{ReadsLmtpCommand}
use Rattle.lmtp_dialogue.specs.Receivers.{ReceiverRefuses, IsOverRoom, StandsIn, ReceiverTakesIn, reads_lines}
use Rattle.lmtp_dialogue.specs.Replies.{lmtp_line_of}
use Rattle.lmtp_dialogue.specs.Talks.{phase_by, item_by}
use Rattle.lmtp_dialogue.specs.Turns.{Declines, lacks_room}
use Rattle.lmtp_dialogue.specs.declared.command_line.Found.{Found}
use Rattle.lmtp_dialogue.specs.declared.command_line.Found.TheVariants.{Line}
use Rattle.lmtp_dialogue.specs.declared.receiver.Receiver.{Receiver}
use Rattle.lmtp_dialogue.specs.declared.receiver.LmtpStage.TheVariants as stage
use Rattle.lmtp_dialogue.specs.declared.reply.LmtpReply.TheVariants as reply
use Rattle.lmtp_dialogue.proofs.AnswerLemmas.{other_stage}
use Rattle.lmtp_dialogue.proofs.DialogueLemmas.{one_item}
use Rattle.lmtp_dialogue.proofs.NextLemmas.{first_line_in, no_line_in}
use Rattle.lmtp_dialogue.proofs.ReadingLemmas.{one_size}
use Rattle.lmtp_dialogue.proofs.StageLemmas.{reads_taken, fresh_text, gone_none, stage_of}

-- ---- none is

pub not_ready : (r : Receiver) (room : ℕ) (out : List ℕ) → (r.talk.stage ≡ stage.Ready → ⊥) → ReceiverRefuses room r r out out false
not_ready r room out other = (
  refl,
  refl,
  λ d stands said next is.
      other (sym (other_stage r.talk.stage r.talk.sender r.talk.recipients r.talk.told d.phase stands.holds.phase) ∙ ap stage_of is.ready),
)

pub no_mail : (r : Receiver) (room : ℕ) (found : Found) (out : List ℕ) → r.talk.stage ≡ stage.Ready → ((count : ℕ) → found ≡ Line count → ⊥) → LineFinds found r.unread
    → ReceiverRefuses room r r out out false
no_mail r room found out ready other finds =
    (refl, refl, λ d stands said next is. no_line_in r d found (ap reads_lines ready) stands other finds (Command is.line) is.rest is.first)

same_line : (long : Bool) (a b : List ℕ) → long ≡ false → item_by long a ≡ Command b → a ≡ b
same_line true a b short same = absurd (cc short)
same_line false a b short same = cc

not_long : (long : Bool) (a b : List ℕ) → long ≡ true → item_by long a ≡ Command b → ⊥
not_long true a b is same = cc
not_long false a b is same = cc

-- the line is none such
fits : (r : Receiver) (room count : ℕ) (d : Dialogue) (said : List ℕ) (next : Dialogue) → r.talk.stage ≡ stage.Ready → LineFinds (Line count) r.unread
    → StandsIn r d → IsOverRoom room r count false → Declines room d said next → ⊥
fits r room count d said next ready found stands over is =
    let line = take count r.unread in
    let first = first_line_in r d count (ap reads_lines ready) stands found in
    let same : item_by r.long line ≡ Command is.line = (one_item d (item_by r.long line) (Command is.line) (drop (count + 2) r.unread) is.rest first is.first).0 in
    elim over [
      | inl long ↦ not_long r.long line is.line long.0 same
      | inr short ↦
          let reads = subst (λ l. ReadsLmtpCommand l short.1.0) (same_line r.long line is.line short.0 same) short.1.1 in
          let none : false ≡ true = short.1.2 ∙ (ap (lacks_room room) (one_size is.line short.1.0 is.asked reads is.reads) ∙ is.lacks) in
          cc
    ]

pub has_room : (r : Receiver) (room count : ℕ) (out : List ℕ) → r.talk.stage ≡ stage.Ready → LineFinds (Line count) r.unread → IsOverRoom room r count false
    → ReceiverRefuses room r r out out false
has_room r room count out ready found over = (refl, refl, λ d stands said next is. fits r room count d said next ready found stands over is)

-- ---- one is

pub refuses : (r s : Receiver) (room count : ℕ) (unread before after : List ℕ) → r.talk.stage ≡ stage.Ready → LineFinds (Line count) r.unread → IsOverRoom room r count true
    → after ≡ before ++ lmtp_line_of reply.NoRoom → unread ≡ drop (count + 2) r.unread → ReceiverTakesIn (record { unread = unread; long = r.long; talk = r.talk }) s
    → ReceiverRefuses room r s before after true
refuses r s room count unread before after ready found (inl long) written dropped takes = absurd (cc long.1)
refuses r s room count unread before after ready found (inr short) written dropped takes = λ d stands.
    let rest = drop (count + 2) r.unread in
    let reads : reads_lines r.talk.stage ≡ true = ap reads_lines ready in
    let later : Dialogue = record d { unread = rest } in
    let fresh = fresh_text r.talk.stage r.talk.text (reads_taken r.talk.stage reads) stands.holds.sound in
    record {
      said = lmtp_line_of reply.NoRoom;
      next = later;
      does = record {
        line = take count r.unread;
        rest = rest;
        asked = short.1.0;
        ready = stands.holds.phase ∙ ap (λ a. phase_by a r.talk.sender r.talk.recipients r.talk.told) ready;
        first = subst (λ b. IsNextItem d (item_by b (take count r.unread)) rest) short.0 (first_line_in r d count reads stands found);
        reads = short.1.1;
        lacks = sym short.1.2;
        told = refl;
        leaves = refl;
      };
      written = written;
      stands = takes later (record {
        phase = stands.holds.phase;
        heard = record { gone = []; is = rw short.0 (gone_none r.talk.stage r.talk.text unread fresh); written = sym dropped };
        sound = stands.holds.sound;
        limit = stands.holds.limit;
      });
    }
