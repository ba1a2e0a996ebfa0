-- What comes next in the dialogue for which a receiver stands.
use Rattle.std.proofs.Common.{◌≡◌, ℕ, ◌+◌, ◌<◌, ◌≤◌, Bool, true, false, List, [], ◌∷◌, ◌++◌, length, take, drop, get_or, Ok, Err, inl, inr, refl, sym, ap, ◌∙◌, subst, append_assoc, append-nil, length-append, arith}
use Rattle.std.proofs.lemmas.List.{length-take-le}
use Rattle.std.specs.Borrow.{Bor}
use Rattle.std.specs.Prelude.{Result}
use Rattle.lmtp_dialogue.specs.Dialogues.{Sending, Dialogue, Item, Command, LongLine, Message, IsLineItem, SpellsItem, IsNextItem, DialogueWaits}
use Rattle.lmtp_dialogue.specs.Lines.{line_end, HasNoLineEnd, IsCrlfLine, LineFinds}
use Rattle.lmtp_dialogue.specs.Receivers.{IsLineGone, IsItemGone, IsLineTaken, IsItemTaken, StandsIn, reads_lines, is_heard, is_line, IsKept, IsDelivery}
use Rattle.lmtp_dialogue.specs.Talks.{phase_by, item_by}
use Rattle.lmtp_dialogue.specs.Texts.{line_with_crlf, RunsFrom, text_state_after, text_after, TextEndsAt, TextKeeps, TextStandsFor, IsFinishedText, after}
use Rattle.lmtp_dialogue.specs.Turns.{max_text}
use Rattle.lmtp_dialogue.specs.declared.command_line.Found.{Found}
use Rattle.lmtp_dialogue.specs.declared.command_line.Found.TheVariants.{Need, Line, TooLong}
use Rattle.lmtp_dialogue.specs.declared.receiver.ReceivedMessage.{ReceivedMessage}
use Rattle.lmtp_dialogue.specs.declared.receiver.Receiver.{Receiver}
use Rattle.lmtp_dialogue.specs.declared.receiver.LmtpStage.TheVariants as stage
use Rattle.lmtp_dialogue.specs.declared.message_text.TextState.{TextState}
use Rattle.lmtp_dialogue.specs.declared.message_text.TextState.TheVariants.{Start, Ended}
use Rattle.lmtp_dialogue.specs.declared.message_text.Text.{Text}
use Rattle.lmtp_dialogue.specs.declared.message_text.TextFault.{TextFault}
use Rattle.lmtp_dialogue.specs.declared.message_text.TextFault.TheVariants.{TooLarge, Memory}
use Rattle.lmtp_dialogue.proofs.DialogueLemmas.{one_line}
use Rattle.lmtp_dialogue.proofs.FeedLemmas.{is_text}
use Rattle.lmtp_dialogue.proofs.SkipLemmas.{agrees_itself}
use Rattle.lmtp_dialogue.proofs.StageLemmas.{reads_taken, line_gone, line_taken, spells_line, line_spelled, heard_line, owed_first}
use Rattle.lmtp_dialogue.proofs.TextLemmas.{no_end_one, text_ends}

-- ---- a line

-- octets of an item that is a line, and what stands behind them
record IsLineFirst (unread : List ℕ) (item : Item) (rest : List ℕ) : Type 0 where
  octets : List ℕ
  spelled : IsLineItem item octets
  written : unread ≡ octets ++ rest

written_so : (line rest : List ℕ) → line ++ (line_end ++ rest) ≡ line_with_crlf line ++ rest
written_so line rest = sym (append_assoc line line_end rest)

line_in_short : (count : ℕ) (unread : List ℕ) → LineFinds (Line count) unread → IsLineFirst unread (Command (take count unread)) (drop (count + 2) unread)
line_in_short count unread found =
    let line = take count unread in
    record {
      octets = line_with_crlf line;
      spelled = (found.0.whole, refl, omega (arith, found.1, length-append line line_end, length-take-le count unread (omega (arith, found.2))));
      written = found.0.written ∙ written_so line (drop (count + 2) unread);
    }

-- of one that is too long the CRLF is held first
line_in_long : (count : ℕ) (unread gone : List ℕ) → LineFinds (Line count) unread → IsLineGone true unread gone → IsLineTaken true unread
    → IsLineFirst (gone ++ unread) LongLine (drop (count + 2) unread)
line_in_long count unread gone found is (inl last) = absurd (omega (arith, found.2, ap length last.1))
line_in_long count unread gone found is (inr end) =
    let both = one_line (take count unread) [] (drop (count + 2) unread) end.0 found.0.whole no_line (sym found.0.written ∙ end.1) in
    record {
      octets = line_with_crlf gone;
      spelled = (gone, is.0 (13 ∷ []) (inr (10 ∷ end.0, end.1)) (no_end_one 13), refl, omega (arith, is.2, length-append gone line_end));
      written = ap (λ t. gone ++ t) (end.1 ∙ ap (λ t. line_end ++ t) (sym both.1)) ∙ written_so gone (drop (count + 2) unread);
    }
  where
    no_line : IsCrlfLine []
    no_line = no_end_one 13

line_in : (long : Bool) (count : ℕ) (unread gone : List ℕ) → LineFinds (Line count) unread → IsLineGone long unread gone → IsLineTaken long unread
    → IsLineFirst (gone ++ unread) (item_by long (take count unread)) (drop (count + 2) unread)
line_in false count unread gone found is held =
    subst (λ g. IsLineFirst (g ++ unread) (Command (take count unread)) (drop (count + 2) unread)) (sym is) (line_in_short count unread found)
line_in true count unread gone found is held = line_in_long count unread gone found is held

pub first_line_in : (r : Receiver) (d : Dialogue) (count : ℕ) → reads_lines r.talk.stage ≡ true → StandsIn r d → LineFinds (Line count) r.unread
    → IsNextItem d (item_by r.long (take count r.unread)) (drop (count + 2) r.unread)
first_line_in r d count reads stands found =
    let takes = reads_taken r.talk.stage reads in
    let gone = stands.holds.heard.gone in
    let is = line_gone r.talk.stage r.long r.talk.text r.unread gone takes stands.holds.heard.is in
    let first = line_in r.long count r.unread gone found is (line_taken r.talk.stage r.long r.talk.text r.unread takes stands.taken) in
    record {
      octets = first.octets;
      spelled = subst (λ p. SpellsItem p (item_by r.long (take count r.unread)) first.octets) (sym stands.holds.phase)
          (spells_line r.talk.stage r.talk.sender r.talk.recipients r.talk.told (item_by r.long (take count r.unread)) first.octets reads first.spelled);
      written = stands.holds.heard.written ∙ first.written;
    }

pub is_line_by : (long : Bool) (line : List ℕ) → is_line (item_by long line) ≡ true
is_line_by false line = refl
is_line_by true line = refl

-- ---- no line

line_has_end : (item : Item) (octets rest : List ℕ) → IsLineItem item octets → HasNoLineEnd (octets ++ rest) → ⊥
line_has_end (Command line) octets rest is none = none line rest (ap (λ o. o ++ rest) is.1 ∙ append_assoc line line_end rest)
line_has_end LongLine octets rest is none = none is.0 rest (ap (λ o. o ++ rest) is.2 ∙ append_assoc is.0 line_end rest)
line_has_end (Message text) octets rest is none = is

-- what is found where no line is
abbrev NotLine : Found → Type 0
NotLine found = (count : ℕ) → found ≡ Line count → ⊥

none_short : (found : Found) (unread : List ℕ) → NotLine found → LineFinds found unread → (LineFinds TooLong unread → ⊥) → HasNoLineEnd unread
none_short Need unread other finds short = finds.0
none_short (Line count) unread other finds short = absurd (other count refl)
none_short TooLong unread other finds short = absurd (short finds)

none_ended : (found : Found) (rest : List ℕ) → NotLine found → LineFinds found (line_end ++ rest) → ⊥
none_ended Need rest other finds = finds.0 [] rest refl
none_ended (Line count) rest other finds = other count refl
none_ended TooLong rest other finds = finds.0 [] (take 2046 rest) refl

none_long : (found : Found) (unread gone : List ℕ) → NotLine found → LineFinds found unread → IsLineGone true unread gone → IsLineTaken true unread → HasNoLineEnd (gone ++ unread)
none_long found unread gone other finds is (inl last) = is.0 unread (agrees_itself unread) (subst HasNoLineEnd (sym last.1) (no_end_one last.0))
none_long found unread gone other finds is (inr end) = absurd (none_ended found end.0 other (subst (LineFinds found) end.1 finds))

none_by : (long : Bool) (found : Found) (unread gone : List ℕ) → NotLine found → LineFinds found unread → IsLineGone long unread gone → IsLineTaken long unread → HasNoLineEnd (gone ++ unread)
none_by false found unread gone other finds is held = subst (λ g. HasNoLineEnd (g ++ unread)) (sym is) (none_short found unread other finds held)
none_by true found unread gone other finds is held = none_long found unread gone other finds is held

pub no_line_in : (r : Receiver) (d : Dialogue) (found : Found) → reads_lines r.talk.stage ≡ true → StandsIn r d → NotLine found → LineFinds found r.unread → DialogueWaits d
no_line_in r d found reads stands other finds = λ item rest first.
    let takes = reads_taken r.talk.stage reads in
    let gone = stands.holds.heard.gone in
    let is = line_gone r.talk.stage r.long r.talk.text r.unread gone takes stands.holds.heard.is in
    let none = none_by r.long found r.unread gone other finds is (line_taken r.talk.stage r.long r.talk.text r.unread takes stands.taken) in
    let spelled = subst (λ p. SpellsItem p item first.octets) stands.holds.phase first.spelled in
    line_has_end item first.octets rest (line_spelled r.talk.stage r.talk.sender r.talk.recipients r.talk.told item first.octets reads spelled)
    (subst HasNoLineEnd (sym stands.holds.heard.written ∙ first.written) none)

pub heard_in : (r : Receiver) (d : Dialogue) → reads_lines r.talk.stage ≡ true → StandsIn r d → is_heard d.phase ≡ true
heard_in r d reads stands = subst (λ p. is_heard p ≡ true) (sym stands.holds.phase) (heard_line r.talk.stage r.talk.sender r.talk.recipients r.talk.told reads)

-- ---- a text

-- where octets run up to their end, none of their fronts ends a text but all of them
pub runs_out : (from : TextState) (sent rest : List ℕ) → RunsFrom from (sent ++ rest) → TextEndsAt from sent → text_state_after from (sent ++ rest) ≡ Ended
runs_out from [] [] runs ends = ends
runs_out from [] (octet ∷ rest) runs ends = absurd (runs.0 ends)
runs_out from (octet ∷ sent) rest runs ends = runs_out (after from octet) sent rest runs.1 ends.1

no_text : (text : Text) (gone : List ℕ) → TextStandsFor text gone → (text.place ≡ Ended → ⊥) → (sent rest : List ℕ) → gone ≡ sent ++ rest → TextEndsAt Start sent → ⊥
no_text text gone stands goes sent rest same ends =
    goes (stands.place ∙ (ap (text_state_after Start) same ∙ runs_out Start sent rest (subst (RunsFrom Start) same stands.runs) ends))

-- the same of an item that comes first while one is sent
no_message : (sender : List ℕ) (left : List (List ℕ)) (item : Item) (octets rest gone : List ℕ) (text : Text)
    → SpellsItem (Sending sender left) item octets → TextStandsFor text gone → (text.place ≡ Ended → ⊥) → gone ≡ octets ++ rest → ⊥
no_message sender left (Message sent) octets rest gone text spelled stands goes same = no_text text gone stands goes octets rest same (text_ends octets sent spelled)
no_message sender left (Command line) octets rest gone text spelled stands goes same = spelled
no_message sender left LongLine octets rest gone text spelled stands goes same = spelled

-- what is known while a text is sent
pub record SendsIn (r : Receiver) (d : Dialogue) : Type 0 where
  pub phase : d.phase ≡ Sending r.talk.sender (drop r.talk.told r.talk.recipients)
  pub gone : List ℕ
  pub short : r.long ≡ false
  pub stands : TextStandsFor r.talk.text gone
  pub written : d.unread ≡ gone ++ r.unread
  pub taken : (r.talk.text.place ≡ Ended → ⊥) → r.unread ≡ []

pub sends_in : (r : Receiver) (d : Dialogue) → r.talk.stage ≡ stage.Sending → StandsIn r d → SendsIn r d
sends_in r d at stands =
    let is = subst (λ a. IsItemGone a r.long r.talk.text r.unread stands.holds.heard.gone) at stands.holds.heard.is in
    record {
      phase = stands.holds.phase ∙ ap (λ a. phase_by a r.talk.sender r.talk.recipients r.talk.told) at;
      gone = stands.holds.heard.gone;
      short = is.0;
      stands = is.1;
      written = stands.holds.heard.written;
      taken = subst (λ a. IsItemTaken a r.long r.talk.text r.unread) at stands.taken;
    }

pub no_text_in : (r : Receiver) (d : Dialogue) → r.talk.stage ≡ stage.Sending → StandsIn r d → (r.talk.text.place ≡ Ended → ⊥) → DialogueWaits d
no_text_in r d at stands goes = λ item rest first.
    let sends = sends_in r d at stands in
    no_message r.talk.sender (drop r.talk.told r.talk.recipients) item first.octets rest sends.gone r.talk.text
    (subst (λ p. SpellsItem p item first.octets) sends.phase first.spelled) sends.stands goes
    (sym (append-nil sends.gone) ∙ (ap (λ t. sends.gone ++ t) (sym (sends.taken goes)) ∙ (sym sends.written ∙ first.written)))

pub sending_is_heard : (r : Receiver) (d : Dialogue) → r.talk.stage ≡ stage.Sending → StandsIn r d → is_heard d.phase ≡ true
sending_is_heard r d at stands = subst (λ p. is_heard p ≡ true) (sym (sends_in r d at stands).phase) refl

pub text_first : (r : Receiver) (d : Dialogue) (sends : SendsIn r d) → r.talk.text.place ≡ Ended → IsNextItem d (Message (text_after Start sends.gone)) r.unread
text_first r d sends ended = record {
  octets = sends.gone;
  spelled = subst (λ p. SpellsItem p (Message (text_after Start sends.gone)) sends.gone) (sym sends.phase) (is_text r.talk.text sends.gone ended sends.stands);
  written = sends.written;
}

kept_by : (text : Text) (gone : List ℕ) (result : Result (Bor (List ℕ)) TextFault) → TextStandsFor text gone → text.limit ≡ max_text → IsFinishedText text result → IsKept (text_after Start gone) result
kept_by text gone (Ok kept) stands limit is =
    let same : (text.kept ≡ text_after Start gone) × (length (text_after Start gone) ≤ text.limit) = subst (TextKeeps text (text_after Start gone)) is.0 stands.keeps in
    (is.1 ∙ same.0, subst (λ n. length (text_after Start gone) ≤ n) limit same.1)
kept_by text gone (Err TooLarge) stands limit is =
    let over : (text.kept ≡ []) × (text.limit < length (text_after Start gone)) = subst (TextKeeps text (text_after Start gone)) is stands.keeps in
    subst (λ n. n < length (text_after Start gone)) limit over.1
kept_by text gone (Err Memory) stands limit is = tt

pub owed_in : (r : Receiver) (d : Dialogue) → r.talk.stage ≡ stage.Sending → SendsIn r d
    → d.phase ≡ Sending r.talk.sender (get_or r.talk.recipients r.talk.told [] ∷ drop (r.talk.told + 1) r.talk.recipients)
owed_in r d at sends = sends.phase ∙ ap (Sending r.talk.sender) (owed_first r.talk.recipients r.talk.told (r.talk.owed at))

delivery_of : (r : Receiver) (d : Dialogue) (received : ReceivedMessage) → r.talk.stage ≡ stage.Sending → SendsIn r d → r.talk.text.limit ≡ max_text → r.talk.text.place ≡ Ended
    → received.sender.now ≡ r.talk.sender → received.recipient.now ≡ get_or r.talk.recipients r.talk.told [] → IsFinishedText r.talk.text received.text → IsDelivery d received
delivery_of r d received at sends limit ended sender recipient text =
    let left = drop (r.talk.told + 1) r.talk.recipients in
    record {
      left = left;
      text = text_after Start sends.gone;
      rest = r.unread;
      owed =
          owed_in r d at sends
          ∙ (ap (λ s. Sending s (get_or r.talk.recipients r.talk.told [] ∷ left)) (sym sender) ∙ ap (λ n. Sending received.sender.now (n ∷ left)) (sym recipient));
      first = text_first r d sends ended;
      kept = kept_by r.talk.text sends.gone received.text sends.stands limit text;
    }

pub delivery_in : (r : Receiver) (d : Dialogue) (received : ReceivedMessage) → r.talk.stage ≡ stage.Sending → StandsIn r d → r.talk.text.place ≡ Ended
    → received.sender.now ≡ r.talk.sender → received.recipient.now ≡ get_or r.talk.recipients r.talk.told [] → IsFinishedText r.talk.text received.text → IsDelivery d received
delivery_in r d received at stands = delivery_of r d received at (sends_in r d at stands) stands.holds.limit
