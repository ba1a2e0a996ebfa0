-- What holds of a connection, whatever happened to it.
use Rattle.std.proofs.Common.{◌≡◌, ℕ, zero, suc, ◌+◌, ◌≤◌, Bool, false, List, [], ◌∷◌, ◌++◌, length, take, drop, Option, Some, None, refl, sym, ap, ◌∙◌, subst, append-nil, append_assoc, arith}
use Rattle.std.proofs.lemmas.List.{take-append-drop}
use Rattle.smtp_dialogue.specs.Messages.{SmtpMail}
use Rattle.smtp_dialogue.specs.Dialogues.{Speaks, ByTurn, stage_text, smtp_turn_of}
use Rattle.smtp_dialogue.specs.Replies.{IsSmtpReply}
use Rattle.smtp_dialogue.specs.declared.extension.Extensions.{Extensions}
use Rattle.smtp_dialogue.specs.declared.dialogue.SmtpStage.{SmtpStage}
use Rattle.smtp_dialogue.specs.declared.dialogue.SmtpStage.TheVariants.{Sender, Recipient, Data, Text}
use Rattle.smtp_dialogue.specs.declared.dialogue.Ending.{Ending}
use Rattle.smtp_dialogue.specs.declared.dialogue.Ending.TheVariants as endings
use Rattle.smtp_dialogue.specs.declared.dialogue.NextStage.{NextStage}
use Rattle.smtp_dialogue.specs.declared.dialogue.NextStage.TheVariants.{Goes, Ends}
use Rattle.smtp_dialogue.proofs.ReplyLemmas.{dropped}
use Rattle.smtp_send.specs.Talks.{SendTalk, talk, talk_written, talk_heard, TalkSays, Treats}
use Rattle.smtp_send.specs.Wires.{WirePasses, sent_none, came_none}
use Rattle.smtp_send.proofs.TalkLemmas.{treats}
use Rattle.smtp_send.proofs.WireLemmas.{sent_more, message_more, came_more, forgets, reads_reply}
use Rattle.smtp_connections.specs.Exchanges.{lost_at, after_ending, phase_by_turn, phase_after, ending_in, ending_by}
use Rattle.smtp_connections.specs.Connections.{no_lines, message_lines, line_in, left_at, left_to_write, IsNewConnection, Begins, ended, ended_in, OffersBy, lines_after, after_reply}
use Rattle.smtp_connections.specs.Cuts.{stage_at}
use Rattle.smtp_connections.specs.Lives.{SmtpHandover, SmtpPassed, nothing_passed, passed_written, passed_heard, passed_ended, passed_begun, DealsLead, IsUnderWay, GoesOn, unread_at, IsSince, PassedAre, LifeStands}
use Rattle.smtp_connections.specs.declared.end.SmtpEnd.{SmtpEnd}
use Rattle.smtp_connections.specs.declared.exchange.SmtpExchange.{SmtpExchange}
use Rattle.smtp_connections.specs.declared.exchange.SmtpExchange.TheVariants.{Greeting, Ehlo, Helo, Message, Reset, Quit}
use Rattle.smtp_connections.specs.declared.exchange.SmtpPhase.{SmtpPhase}
use Rattle.smtp_connections.specs.declared.exchange.SmtpPhase.TheVariants.{Writing, Awaiting, Ready, Over}
use Rattle.smtp_connections.specs.declared.lines.MessageLines.{MessageLines}
use Rattle.smtp_connections.specs.declared.connection.SmtpConnection.{SmtpConnection as Code}
use Rattle.smtp_connections.proofs.PhaseLemmas.{is_awaiting, after_not_awaiting, ending_not, lost_none, lost_some, ending_no_stage, after_no_stage, no_ending, written_stage, awaited_stage}

-- ---- while no reply is awaited

pub unread_none : (p : SmtpPhase) (heard : List ℕ) → is_awaiting p ≡ false → unread_at p heard ≡ []
unread_none (Awaiting exchange) heard off = absurd (cc off)
unread_none (Writing exchange count) heard off = refl
unread_none Ready heard off = refl
unread_none (Over end) heard off = refl

pub no_since : (p : SmtpPhase) (heard since : List ℕ) → is_awaiting p ≡ false → IsSince p heard since
no_since (Awaiting exchange) heard since off = absurd (cc off)
no_since (Writing exchange count) heard since off = tt
no_since Ready heard since off = tt
no_since (Over end) heard since off = tt

-- ---- a new connection

pub new_stands : (host : List ℕ) (may : Bool) (c : Code) → IsNewConnection host may c → LifeStands c nothing_passed
new_stands host may c is = record {
  start = talk [] [];
  now = talk [] [];
  wire = record {
    sent = [];
    came = [];
    passed = (refl, ap (λ p. unread_at p c.heard) is.phase ∙ is.heard);
    carries = sent_none;
    answers = came_none;
  };
  deals = refl;
  goes = (refl, ap stage_at is.phase);
  since = subst (λ p. IsSince p c.heard []) (sym is.phase) is.heard;
}

-- ---- octets are written

line_same : (exchange : SmtpExchange) (c : Code) (p : SmtpPhase) (h : List ℕ) → line_in (record c { phase = p; heard = h }) exchange ≡ line_in c exchange
line_same Greeting c p h = refl
line_same Ehlo c p h = refl
line_same Helo c p h = refl
line_same (Message Sender) c p h = refl
line_same (Message Recipient) c p h = refl
line_same (Message Data) c p h = refl
line_same (Message Text) c p h = refl
line_same Reset c p h = refl
line_same Quit c p h = refl

take_all : (n : ℕ) (xs : List ℕ) → length xs ≤ n → drop n xs ≡ []
take_all zero [] fits = refl
take_all (suc n) [] fits = refl
take_all zero (x ∷ xs) fits = absurd (omega arith)
take_all (suc n) (x ∷ xs) fits = take_all n xs (omega arith)

abbrev After : Code → SmtpPhase → List ℕ → Code
After c q h = record c { phase = q; heard = h }

-- some of the rest of a stage
under_way_more : (handover : SmtpHandover) (stage : SmtpStage) (count : ℕ) (c : Code) (q : SmtpPhase) (h : List ℕ) (start now : SendTalk) → IsUnderWay handover stage c start now → stage_at q ≡ stage_at c.phase
    → left_at (After c q h) q ≡ drop count (left_to_write c) → IsUnderWay handover stage (After c q h) start (talk_written now (take count (left_to_write c)))
under_way_more handover stage count c q h start now it at left = record {
  at = at ∙ it.at;
  offers = it.offers;
  addressed = it.addressed;
  needs = it.needs;
  lines = it.lines;
  before = it.before;
  codes = it.codes;
  here = it.here ++ take count (left_to_write c);
  whole =
      it.whole
      ∙ (ap (λ t. it.here ++ t) (sym (take-append-drop count (left_to_write c)))
      ∙ (sym (append_assoc it.here (take count (left_to_write c)) (drop count (left_to_write c))) ∙ ap (λ t. (it.here ++ take count (left_to_write c)) ++ t) (sym left)));
  written =
      ap (λ t. t ++ take count (left_to_write c)) it.written
      ∙ (append_assoc start.written (it.before ++ it.here) (take count (left_to_write c)) ∙ ap (λ t. start.written ++ t) (append_assoc it.before it.here (take count (left_to_write c))));
  answered = it.answered;
  leads = it.leads;
}

adds : (p : SmtpPassed) (octets sent came : List ℕ) → PassedAre p sent came → PassedAre (passed_written octets p) (sent ++ octets) came
adds p octets sent came (one, two) = (ap (λ t. t ++ octets) one, two)

written_by : (g : Option SmtpHandover) (count : ℕ) (c : Code) (q : SmtpPhase) (h : List ℕ) (p : SmtpPassed) → LifeStands c (record p { goes = g }) → unread_at c.phase c.heard ≡ [] → unread_at q h ≡ []
    → stage_at q ≡ stage_at c.phase → left_at (After c q h) q ≡ drop count (left_to_write c) → IsSince q h [] → LifeStands (After c q h) (passed_written (take count (left_to_write c)) (record p { goes = g }))
written_by None count c q h p it old new at left since =
    let octets = take count (left_to_write c) in
    let wire : WirePasses (PassedAre p) [] it.now = subst (λ u. WirePasses (PassedAre p) u it.now) old it.wire in
    record {
      start = it.start;
      now = it.now;
      wire = subst (λ u. WirePasses (PassedAre (passed_written octets p)) u it.now) (sym new) (sent_more (PassedAre p) (PassedAre (passed_written octets p)) [] octets it.now (adds p octets) wire);
      deals = it.deals;
      goes = (it.goes.0, at ∙ it.goes.1);
      since = since;
    }
written_by (Some handover) count c q h p it old new at left since =
    let octets = take count (left_to_write c) in
    let wire : WirePasses (PassedAre p) [] it.now = subst (λ u. WirePasses (PassedAre p) u it.now) old it.wire in
    record {
      start = it.start;
      now = talk_written it.now octets;
      wire =
          subst (λ u. WirePasses (PassedAre (passed_written octets p)) u (talk_written it.now octets)) (sym new)
          (message_more (PassedAre p) (PassedAre (passed_written octets p)) [] octets it.now (adds p octets) wire);
      deals = it.deals;
      goes = (it.goes.0, under_way_more handover it.goes.0 count c q h it.start it.now it.goes.1 at left);
      since = since;
    }

-- it stays the server's turn no longer than all is written
left_more : (exchange : SmtpExchange) (before count : ℕ) (c : Code) (h : List ℕ) → c.phase ≡ Writing exchange before
    → left_at (After c (Writing exchange (before + count)) h) (Writing exchange (before + count)) ≡ drop count (left_to_write c)
left_more exchange before count c h is =
    ap (drop (before + count)) (line_same exchange c (Writing exchange (before + count)) h) ∙ (sym (dropped (line_in c exchange) before count) ∙ ap (λ p. drop count (left_at c p)) (sym is))

pub wrote_some : (exchange : SmtpExchange) (before count : ℕ) (c : Code) (p : SmtpPassed) → LifeStands c p → c.phase ≡ Writing exchange before
    → LifeStands (record c { phase = Writing exchange (before + count) }) (passed_written (take count (left_to_write c)) p)
wrote_some exchange before count c p it is =
    written_by p.goes count c (Writing exchange (before + count)) c.heard p it (ap (λ q. unread_at q c.heard) is) refl (written_stage exchange (before + count) before ∙ ap stage_at (sym is)) (left_more exchange before count c c.heard is) tt

pub wrote_all : (exchange : SmtpExchange) (before count : ℕ) (c : Code) (p : SmtpPassed) → LifeStands c p → c.phase ≡ Writing exchange before → length (left_to_write c) ≤ count
    → LifeStands (record c { phase = Awaiting exchange; heard = [] }) (passed_written (take count (left_to_write c)) p)
wrote_all exchange before count c p it is fits =
    written_by p.goes count c (Awaiting exchange) [] p it (ap (λ q. unread_at q c.heard) is) refl (awaited_stage exchange before ∙ ap stage_at (sym is)) (sym (take_all count (left_to_write c) fits)) refl

-- ---- octets come

comes : (p : SmtpPassed) (piece sent came : List ℕ) → PassedAre p sent came → PassedAre (passed_heard piece p) sent (came ++ piece)
comes p piece sent came (one, two) = (one, ap (λ t. t ++ piece) two)

under_way_heard : (g : Option SmtpHandover) (exchange : SmtpExchange) (h : List ℕ) (c : Code) (start now : SendTalk) → GoesOn g (record c { phase = Awaiting exchange }) start now
    → GoesOn g (After c (Awaiting exchange) h) start now
under_way_heard None exchange h c start now it = it
under_way_heard (Some handover) exchange h c start now (stage, it) = (
  stage,
  record {
    at = it.at;
    offers = it.offers;
    addressed = it.addressed;
    needs = it.needs;
    lines = it.lines;
    before = it.before;
    codes = it.codes;
    here = it.here;
    whole = it.whole;
    written = it.written;
    answered = it.answered;
    leads = it.leads;
  },
)

pub came : (exchange : SmtpExchange) (piece : List ℕ) (c : Code) (p : SmtpPassed) → LifeStands (record c { phase = Awaiting exchange }) p → LifeStands (After c (Awaiting exchange) (c.heard ++ piece)) (passed_heard piece p)
came exchange piece c p it = record {
  start = it.start;
  now = it.now;
  wire = came_more (PassedAre p) (PassedAre (passed_heard piece p)) c.heard (c.heard ++ piece) piece it.now (comes p piece) refl it.wire;
  deals = it.deals;
  goes = under_way_heard p.goes exchange (c.heard ++ piece) c it.start it.now it.goes;
  since = ap (λ t. t ++ piece) it.since;
}

-- what comes when it isn't the server's turn is of no message
pub ignored : (piece : List ℕ) (c : Code) (p : SmtpPassed) → is_awaiting c.phase ≡ false → LifeStands c p → LifeStands c (passed_heard piece p)
ignored piece c p off it =
    let none = unread_none c.phase c.heard off in
    let wire : WirePasses (PassedAre p) [] it.now = subst (λ u. WirePasses (PassedAre p) u it.now) none it.wire in
    let more = came_more (PassedAre p) (PassedAre (passed_heard piece p)) [] piece piece it.now (comes p piece) refl wire in
    record {
      start = it.start;
      now = it.now;
      wire = subst (λ u. WirePasses (PassedAre (passed_heard piece p)) u it.now) (sym none) (forgets (PassedAre (passed_heard piece p)) piece it.now more);
      deals = it.deals;
      goes = it.goes;
      since = no_since c.phase c.heard (p.since ++ piece) off;
    }

-- ---- it ends

says_lost : (handover : SmtpHandover) (stage : SmtpStage) (c : Code) (start now : SendTalk) → IsUnderWay handover stage c start now → TalkSays c.offered handover.mail Sender start now endings.Lost
says_lost handover stage c start now it = record {
  lines = it.before ++ it.here;
  codes = it.codes;
  written = it.written;
  answered = it.answered;
  speaks =
      subst (λ cs. Speaks c.offered handover.mail cs Sender (it.before ++ it.here) endings.Lost) (append-nil it.codes)
      (it.leads [] it.here endings.Lost ((left_to_write c, it.whole), refl));
}

deal_of : (handover : SmtpHandover) (stage : SmtpStage) (c : Code) (start now done : SendTalk) (ending : Ending) → IsUnderWay handover stage c start now
    → TalkSays c.offered handover.mail Sender start done ending → Treats handover.offered c.may_eight_bit handover.mail start done ending
deal_of handover stage c start now done ending it says =
    subst (λ o. Treats o c.may_eight_bit handover.mail start done ending) (sym it.offers) (treats c.offered c.may_eight_bit handover.mail start done ending it.addressed it.needs says)

lose : (g : Option SmtpHandover) (q : SmtpPhase) (end : SmtpEnd) (c : Code) (p : SmtpPassed) → LifeStands (record c { phase = q }) (record p { goes = g })
    → LifeStands (record c { phase = Over end; lines = no_lines }) (passed_ended (lost_at q) (record p { goes = g }))
lose None q end c p it =
    subst (λ r. LifeStands (record c { phase = Over end; lines = no_lines }) (passed_ended r (record p { goes = None }))) (sym (lost_none q it.goes.1))
    (record { start = it.start; now = it.now; wire = forgets (PassedAre p) (unread_at q c.heard) it.now it.wire; deals = it.deals; goes = (it.goes.0, refl); since = tt })
lose (Some handover) q end c p it =
    let under = it.goes.1 in
    subst (λ r. LifeStands (record c { phase = Over end; lines = no_lines }) (passed_ended r (record p { goes = Some handover }))) (sym (lost_some q it.goes.0 under.at))
    (record {
      start = it.now;
      now = it.now;
      wire = forgets (PassedAre p) (unread_at q c.heard) it.now it.wire;
      deals = (it.start, it.deals, deal_of handover it.goes.0 (record c { phase = q }) it.start it.now it.now endings.Lost under (says_lost handover it.goes.0 (record c { phase = q }) it.start it.now under));
      goes = (refl, refl);
      since = tt;
    })

ended_by : (q : SmtpPhase) (end : SmtpEnd) (c : Code) (p : SmtpPassed) → LifeStands (record c { phase = q }) p → LifeStands (ended_in end q (record c { phase = q })) (passed_ended (lost_at q) p)
ended_by (Writing exchange count) end c p it = lose p.goes (Writing exchange count) end c p it
ended_by (Awaiting exchange) end c p it = lose p.goes (Awaiting exchange) end c p it
ended_by Ready end c p it = lose p.goes Ready end c p it
ended_by (Over x) end c p it = it

pub ended_stands : (end : SmtpEnd) (c : Code) (p : SmtpPassed) → LifeStands c p → LifeStands (ended end c) (passed_ended (lost_at c.phase) p)
ended_stands end c p it = ended_by c.phase end c p it

-- ---- a reply comes

-- all of a stage was written, if nothing of it is left
stage_done : (handover : SmtpHandover) (stage : SmtpStage) (c : Code) (start now : SendTalk) (it : IsUnderWay handover stage c start now) → left_to_write c ≡ [] → stage_text c.offered handover.mail stage ≡ it.here
stage_done handover stage c start now it none = it.whole ∙ (ap (λ t. it.here ++ t) none ∙ append-nil it.here)

line_is : (stage : SmtpStage) (c : Code) (offered : Extensions) (mail : SmtpMail) → c.lines ≡ message_lines offered mail → line_in c (Message stage) ≡ stage_text offered mail stage
line_is Sender c offered mail is = ap (λ (l : MessageLines). l.mail) is
line_is Recipient c offered mail is = ap (λ (l : MessageLines). l.rcpt) is
line_is Data c offered mail is = refl
line_is Text c offered mail is = ap (λ (l : MessageLines). l.text) is

-- a stage and its reply, in front of what follows them
one_more : (offered : Extensions) (mail : SmtpMail) (stage : SmtpStage) (code : ℕ) (turn : NextStage) (later more : List ℕ) (ending : Ending) → smtp_turn_of stage code ≡ turn
    → ByTurn turn later (Speaks offered mail later) more ending → Speaks offered mail (code ∷ later) stage (stage_text offered mail stage ++ more) ending
one_more offered mail stage code turn later more ending is by = (more, refl, subst (λ t. ByTurn t later (Speaks offered mail later) more ending) (sym is) by)

-- the stage after it
next_stage : (handover : SmtpHandover) (stage onward : SmtpStage) (code : ℕ) (m : Code) (h : List ℕ) (start now : SendTalk) → smtp_turn_of stage code ≡ Goes onward → left_to_write m ≡ []
    → IsUnderWay handover stage m start now → IsUnderWay handover onward (After m (Writing (Message onward) 0) h) start (talk_heard now code)
next_stage handover stage onward code m h start now is none it =
    let text = stage_text m.offered handover.mail stage in
    let done : text ≡ it.here = stage_done handover stage m start now it none in
    record {
      at = refl;
      offers = it.offers;
      addressed = it.addressed;
      needs = it.needs;
      lines = it.lines;
      before = it.before ++ it.here;
      codes = it.codes ++ code ∷ [];
      here = [];
      whole = sym (line_is onward (After m (Writing (Message onward) 0) h) m.offered handover.mail it.lines);
      written = it.written ∙ ap (λ t. start.written ++ t) (sym (append-nil (it.before ++ it.here)));
      answered = ap (λ t. t ++ code ∷ []) it.answered ∙ append_assoc start.answered it.codes (code ∷ []);
      leads = λ later more ending speaks.
          let here : Speaks m.offered handover.mail (code ∷ later) stage (text ++ more) ending = one_more m.offered handover.mail stage code (Goes onward) later more ending is speaks in
          let there : Speaks m.offered handover.mail (code ∷ later) stage (it.here ++ more) ending = subst (λ t. Speaks m.offered handover.mail (code ∷ later) stage (t ++ more) ending) done here in
          let all = it.leads (code ∷ later) (it.here ++ more) ending there in
          subst (λ cs. Speaks m.offered handover.mail cs Sender ((it.before ++ it.here) ++ more) ending) (sym (append_assoc it.codes (code ∷ []) later))
          (subst (λ t. Speaks m.offered handover.mail (it.codes ++ code ∷ later) Sender t ending) (sym (append_assoc it.before it.here more)) all);
    }

-- or the end of the message
says_end : (handover : SmtpHandover) (stage : SmtpStage) (code : ℕ) (ending : Ending) (m : Code) (start now : SendTalk) → smtp_turn_of stage code ≡ Ends ending → left_to_write m ≡ []
    → IsUnderWay handover stage m start now → TalkSays m.offered handover.mail Sender start (talk_heard now code) ending
says_end handover stage code ending m start now is none it =
    let text = stage_text m.offered handover.mail stage in
    let done : text ≡ it.here = stage_done handover stage m start now it none in
    let here : Speaks m.offered handover.mail (code ∷ []) stage (text ++ []) ending = one_more m.offered handover.mail stage code (Ends ending) [] [] ending is (refl, refl, refl) in
    let there : Speaks m.offered handover.mail (code ∷ []) stage it.here ending = subst (λ t. Speaks m.offered handover.mail (code ∷ []) stage t ending) (append-nil text ∙ done) here in
    record {
      lines = it.before ++ it.here;
      codes = it.codes ++ code ∷ [];
      written = it.written;
      answered = ap (λ t. t ++ code ∷ []) it.answered ∙ append_assoc start.answered it.codes (code ∷ []);
      speaks = it.leads (code ∷ []) it.here ending there;
    }

-- the reply is read from what came, and of what follows it nothing is kept
reads : (all : List ℕ) (count code : ℕ) (p : SmtpPassed) (now : SendTalk) → IsSmtpReply all code (drop count all) → WirePasses (PassedAre p) all now → WirePasses (PassedAre p) [] (talk_heard now code)
reads all count code p now reply wire =
    forgets (PassedAre p) (drop count all) (talk_heard now code) (reads_reply (PassedAre p) all (drop count all) count code now reply refl wire)

same_stage : (a b : SmtpStage) → Some a ≡ Some b → a ≡ b
same_stage a b is = cc

-- what a stage's reply makes of its message
abbrev Turned : NextStage → List ℕ → Code → Code
Turned turn h m = record m { phase = phase_by_turn turn; lines = lines_after (ending_in turn) m.lines; heard = h }

turned : (turn : NextStage) (stage : SmtpStage) (g : Option SmtpHandover) (code count : ℕ) (h : List ℕ) (m : Code) (p : SmtpPassed) → m.phase ≡ Awaiting (Message stage) → smtp_turn_of stage code ≡ turn
    → IsSmtpReply m.heard code (drop count m.heard) → LifeStands m (record p { goes = g }) → LifeStands (Turned turn h m) (passed_ended (ending_in turn) (record p { goes = g }))
turned turn stage None code count h m p at is reply it = let never : Some stage ≡ None = sym (ap stage_at at) ∙ it.goes.1 in absurd (cc never)
turned (Goes onward) stage (Some handover) code count h m p at is reply it =
    let wire : WirePasses (PassedAre p) m.heard it.now = subst (λ q. WirePasses (PassedAre p) (unread_at q m.heard) it.now) at it.wire in
    let under : it.goes.0 ≡ stage = same_stage it.goes.0 stage (sym it.goes.1.at ∙ ap stage_at at) in
    let way : IsUnderWay handover stage m it.start it.now = subst (λ s. IsUnderWay handover s m it.start it.now) under it.goes.1 in
    record {
      start = it.start;
      now = talk_heard it.now code;
      wire = reads m.heard count code p it.now reply wire;
      deals = it.deals;
      goes = (onward, next_stage handover stage onward code m h it.start it.now is (ap (left_at m) at) way);
      since = tt;
    }
turned (Ends ending) stage (Some handover) code count h m p at is reply it =
    let wire : WirePasses (PassedAre p) m.heard it.now = subst (λ q. WirePasses (PassedAre p) (unread_at q m.heard) it.now) at it.wire in
    let under : it.goes.0 ≡ stage = same_stage it.goes.0 stage (sym it.goes.1.at ∙ ap stage_at at) in
    let way : IsUnderWay handover stage m it.start it.now = subst (λ s. IsUnderWay handover s m it.start it.now) under it.goes.1 in
    let off = ending_not ending in
    let done = talk_heard it.now code in
    record {
      start = done;
      now = done;
      wire = subst (λ u. WirePasses (PassedAre p) u done) (sym (unread_none (after_ending ending) h off)) (reads m.heard count code p it.now reply wire);
      deals = (it.start, it.deals, deal_of handover stage m it.start it.now done ending way (says_end handover stage code ending m it.start it.now is (ap (left_at m) at) way));
      goes = (refl, ending_no_stage ending);
      since = no_since (after_ending ending) h p.since off;
    }

-- a reply to something else
other : (exchange : SmtpExchange) (g : Option SmtpHandover) (code : ℕ) (h : List ℕ) (offered : Extensions) (m : Code) (p : SmtpPassed) → m.phase ≡ Awaiting exchange → stage_at (Awaiting exchange) ≡ None
    → LifeStands m (record p { goes = g }) → LifeStands (after_reply exchange code h offered m) (passed_ended (ending_by exchange code) (record p { goes = g }))
other exchange (Some handover) code h offered m p at off it = let never : Some it.goes.0 ≡ None = sym it.goes.1.at ∙ (ap stage_at at ∙ off) in absurd (cc never)
other exchange None code h offered m p at off it =
    let away = after_not_awaiting exchange code in
    let q = phase_after exchange code in
    subst (λ r. LifeStands (after_reply exchange code h offered m) (passed_ended r (record p { goes = None }))) (sym (no_ending exchange code off))
    (record {
      start = it.start;
      now = it.now;
      wire = subst (λ u. WirePasses (PassedAre p) u it.now) (sym (unread_none q h away)) (forgets (PassedAre p) (unread_at m.phase m.heard) it.now it.wire);
      deals = it.deals;
      goes = (it.goes.0, after_no_stage exchange code off);
      since = no_since q h p.since away;
    })

pub replied_stands : (exchange : SmtpExchange) (code count : ℕ) (h : List ℕ) (offered : Extensions) (m : Code) (p : SmtpPassed) → m.phase ≡ Awaiting exchange → OffersBy exchange h m.offered offered
    → IsSmtpReply m.heard code (drop count m.heard) → LifeStands m p → LifeStands (after_reply exchange code h offered m) (passed_ended (ending_by exchange code) p)
replied_stands (Message stage) code count h offered m p at offers reply it =
    subst (λ o. LifeStands (after_reply (Message stage) code h o m) (passed_ended (ending_by (Message stage) code) p)) (sym offers)
    (turned (smtp_turn_of stage code) stage p.goes code count h m p at refl reply it)
replied_stands Greeting code count h offered m p at offers reply it = other Greeting p.goes code h offered m p at refl it
replied_stands Ehlo code count h offered m p at offers reply it = other Ehlo p.goes code h offered m p at refl it
replied_stands Helo code count h offered m p at offers reply it = other Helo p.goes code h offered m p at refl it
replied_stands Reset code count h offered m p at offers reply it = other Reset p.goes code h offered m p at refl it
replied_stands Quit code count h offered m p at offers reply it = other Quit p.goes code h offered m p at refl it

-- ---- a message begins, or QUIT is said

none_goes : (g : Option SmtpHandover) (c : Code) (start now : SendTalk) → c.phase ≡ Ready → GoesOn g c start now → now ≡ start
none_goes None c start now at goes = goes.0
none_goes (Some handover) c start now at goes = let never : Some goes.0 ≡ None = sym goes.1.at ∙ ap stage_at at in absurd (cc never)

pub begun_stands : (mail : SmtpMail) (ending : Option Ending) (c e : Code) (p : SmtpPassed) → c.phase ≡ Ready → Begins mail c ending e → LifeStands c p
    → LifeStands e (passed_begun (record { mail = mail; offered = c.offered }) ending p)
begun_stands mail None c e p at begins it =
    let handover : SmtpHandover = record { mail = mail; offered = c.offered } in
    let start = none_goes p.goes c it.start it.now at it.goes in
    let wire : WirePasses (PassedAre p) [] it.now = subst (λ q. WirePasses (PassedAre p) (unread_at q c.heard) it.now) at it.wire in
    subst (λ m. LifeStands m (record p { goes = Some handover })) (sym begins.begun)
    (record {
      start = it.now;
      now = it.now;
      wire = wire;
      deals = subst (DealsLead c.may_eight_bit p.deals) (sym start) it.deals;
      goes = (
        Sender,
        record {
          at = refl;
          offers = refl;
          addressed = begins.addressed;
          needs = begins.needs;
          lines = refl;
          before = [];
          codes = [];
          here = [];
          whole = refl;
          written = sym (append-nil it.now.written);
          answered = sym (append-nil it.now.answered);
          leads = λ later more ending speaks. speaks;
        },
      );
      since = tt;
    })
begun_stands mail (Some endings.Unaddressed) c e p at begins it =
    let start = none_goes p.goes c it.start it.now at it.goes in
    subst (λ m. LifeStands m (passed_begun (record { mail = mail; offered = c.offered }) (Some endings.Unaddressed) p)) (sym begins.1)
    (record {
      start = it.now;
      now = it.now;
      wire = it.wire;
      deals = (it.now, subst (DealsLead c.may_eight_bit p.deals) (sym start) it.deals, (refl, begins.0));
      goes = (refl, ap stage_at at);
      since = it.since;
    })
begun_stands mail (Some endings.Undeclared) c e p at begins it =
    let start = none_goes p.goes c it.start it.now at it.goes in
    subst (λ m. LifeStands m (passed_begun (record { mail = mail; offered = c.offered }) (Some endings.Undeclared) p)) (sym begins.2)
    (record {
      start = it.now;
      now = it.now;
      wire = it.wire;
      deals = (it.now, subst (DealsLead c.may_eight_bit p.deals) (sym start) it.deals, (refl, begins.0, begins.1));
      goes = (refl, ap stage_at at);
      since = it.since;
    })
begun_stands mail (Some endings.Sent) c e p at begins it = absurd begins
begun_stands mail (Some (endings.Refused code)) c e p at begins it = absurd begins
begun_stands mail (Some (endings.Delayed code)) c e p at begins it = absurd begins
begun_stands mail (Some (endings.OutOfPlace code)) c e p at begins it = absurd begins
begun_stands mail (Some endings.Lost) c e p at begins it = absurd begins

quit_by : (g : Option SmtpHandover) (c : Code) (p : SmtpPassed) → c.phase ≡ Ready → LifeStands c (record p { goes = g }) → LifeStands (record c { phase = Writing Quit 0 }) (record p { goes = g })
quit_by (Some handover) c p at it = let never : Some it.goes.0 ≡ None = sym it.goes.1.at ∙ ap stage_at at in absurd (cc never)
quit_by None c p at it = record {
  start = it.start;
  now = it.now;
  wire = subst (λ q. WirePasses (PassedAre p) (unread_at q c.heard) it.now) at it.wire;
  deals = it.deals;
  goes = (it.goes.0, refl);
  since = tt;
}

pub quit_stands : (c : Code) (p : SmtpPassed) → c.phase ≡ Ready → LifeStands c p → LifeStands (record c { phase = Writing Quit 0 }) p
quit_stands c p at it = quit_by p.goes c p at it
