-- A message's dialogue over a connection.
use Rattle.std.proofs.Common.{◌≡◌, ℕ, ◌<◌, ◌==◌, Bool, true, false, List, [], ◌∷◌, ◌++◌, refl, sym, ap, ◌∙◌, subst, append-nil, append_assoc, arith, Result, Ok, Err}
use Rattle.std.specs.Prelude.{is_err, OnOk, OnErr}
use Rattle.smtp_dialogue.specs.Messages.{SmtpMail, IsMailAddressed, IsOffered}
use Rattle.smtp_dialogue.specs.Dialogues.{Speaks, ByTurn, stage_text, smtp_turn_of, next_or_end, ending_of, reply_class}
use Rattle.smtp_dialogue.specs.declared.extension.Extensions.{Extensions}
use Rattle.smtp_dialogue.specs.declared.dialogue.SmtpStage.{SmtpStage}
use Rattle.smtp_dialogue.specs.declared.dialogue.SmtpStage.TheVariants.{Sender, Recipient, Data, Text}
use Rattle.smtp_dialogue.specs.declared.dialogue.Ending.{Ending}
use Rattle.smtp_dialogue.specs.declared.dialogue.Ending.TheVariants as ending
use Rattle.smtp_dialogue.specs.declared.dialogue.NextStage.{NextStage}
use Rattle.smtp_dialogue.specs.declared.dialogue.NextStage.TheVariants.{Goes, Ends}
use Rattle.smtp_send.specs.Talks.{SendTalk, TalkSays, StageGoesOn, StageSteps, Treats, WritesPrefix, Writing, talk, talk_written, stages_behind, IsLater}

pub broken : (all : List ℕ) (before now after : SendTalk) (part sent rest : List ℕ) → Writing all before now sent → sent ≡ part ++ rest → WritesPrefix part now after → WritesPrefix all before after
broken all before now after part sent rest writing same breaks = record {
  front = writing.done ++ breaks.front;
  rest = breaks.rest ++ rest;
  cut =
      writing.whole
      ∙ (ap (λ t. writing.done ++ t) (same ∙ (ap (λ t. t ++ rest) breaks.cut ∙ append_assoc breaks.front breaks.rest rest))
      ∙ sym (append_assoc writing.done breaks.front (breaks.rest ++ rest)));
  written = breaks.written ∙ (ap (λ t. t ++ breaks.front) writing.written ∙ append_assoc before.written writing.done breaks.front);
  answered = breaks.answered ∙ writing.answered;
}

pub begins : (all : List ℕ) (before : SendTalk) (sent : List ℕ) → sent ≡ all → Writing all before before sent
begins all before sent same = record { done = []; written = sym (append-nil before.written); answered = refl; whole = sym same }

pub part_more : (all : List ℕ) (before now : SendTalk) (part sent rest : List ℕ) → Writing all before now sent → sent ≡ part ++ rest → Writing all before (talk_written now part) rest
part_more all before now part sent rest writing same = record {
  done = writing.done ++ part;
  written = ap (λ t. t ++ part) writing.written ∙ append_assoc before.written writing.done part;
  answered = writing.answered;
  whole = writing.whole ∙ (ap (λ t. writing.done ++ t) same ∙ sym (append_assoc writing.done part rest));
}

-- a part was gathered, and a front of what was gathered was written
pub part_gathered : (all : List ℕ) (before now after : SendTalk) (piece part gathered left rest : List ℕ) → Writing all before now (piece ++ left) → left ≡ part ++ rest → Writing (piece ++ part) now after gathered
    → Writing all before after (gathered ++ rest)
part_gathered all before now after piece part gathered left rest one same two = record {
  done = one.done ++ two.done;
  written = two.written ∙ (ap (λ t. t ++ two.done) one.written ∙ append_assoc before.written one.done two.done);
  answered = two.answered ∙ one.answered;
  whole =
      one.whole
      ∙ (ap (λ t. one.done ++ t) (ap (λ t. piece ++ t) same ∙ (sym (append_assoc piece part rest) ∙ (ap (λ t. t ++ rest) two.whole ∙ append_assoc two.done gathered rest)))
      ∙ sym (append_assoc one.done two.done (gathered ++ rest)));
}

pub all_written : (all : List ℕ) (before now : SendTalk) (rest : List ℕ) → Writing all before now rest → rest ≡ [] → now ≡ talk_written before all
all_written all before now rest writing none =
    let same : all ≡ writing.done = writing.whole ∙ (ap (λ t. writing.done ++ t) none ∙ append-nil writing.done) in
    ap (λ w. talk w now.answered) (writing.written ∙ ap (λ d. before.written ++ d) (sym same)) ∙ ap (λ a. talk (before.written ++ all) a) writing.answered

-- ---- stages

-- the stage that follows has one less left
less_by : (is_taken : Bool) (to onward : SmtpStage) (code : ℕ) → next_or_end is_taken to code ≡ Goes onward → to ≡ onward
less_by true to onward code same = cc
less_by false to onward code same = absurd (cc same)

text_by : (onward : SmtpStage) (code : ℕ) (is_taken : Bool) → (code == 250) ≡ is_taken → smtp_turn_of Text code ≡ Goes onward → ⊥
text_by onward code true test same = let no : Ends ending.Sent ≡ Goes onward = rw test at same in absurd (cc no)
text_by onward code false test same = let no : Ends (ending_of code) ≡ Goes onward = rw test at same in absurd (cc no)

less : (stage onward : SmtpStage) (code : ℕ) → smtp_turn_of stage code ≡ Goes onward → stages_behind onward < stages_behind stage
less Sender onward code same = let is = less_by (reply_class code == 2) Recipient onward code same in subst (λ s. stages_behind s < 3) is (omega arith)
less Recipient onward code same = let is = less_by (reply_class code == 2) Data onward code same in subst (λ s. stages_behind s < 2) is (omega arith)
less Data onward code same = let is = less_by (reply_class code == 3) Text onward code same in subst (λ s. stages_behind s < 1) is (omega arith)
less Text onward code same = absurd (text_by onward code (code == 250) refl same)

pub later : (stage : SmtpStage) (code : ℕ) (turn : NextStage) → turn ≡ smtp_turn_of stage code → IsLater stage turn
later stage code (Goes onward) same = less stage onward code (sym same)
later stage code (Ends end) same = tt

-- a stage, and what follows it
pub says_more : (offered : Extensions) (mail : SmtpMail) (stage onward : SmtpStage) (before mid after : SendTalk) (end : Ending) → StageGoesOn offered mail stage before mid onward → TalkSays offered mail onward mid after end
    → TalkSays offered mail stage before after end
says_more offered mail stage onward before mid after end goes says = record {
  lines = stage_text offered mail stage ++ says.lines;
  codes = goes.code ∷ says.codes;
  written = says.written ∙ (ap (λ t. t ++ says.lines) goes.written ∙ append_assoc before.written (stage_text offered mail stage) says.lines);
  answered = says.answered ∙ (ap (λ t. t ++ says.codes) goes.answered ∙ append_assoc before.answered (goes.code ∷ []) says.codes);
  speaks = (says.lines, refl, subst (λ turn. ByTurn turn says.codes (Speaks offered mail says.codes) says.lines end) (sym goes.turns) says.speaks);
}

-- the last stage
pub ends_here : (offered : Extensions) (mail : SmtpMail) (stage : SmtpStage) (before after : SendTalk) (code : ℕ) (end : Ending) → after.written ≡ before.written ++ stage_text offered mail stage
    → after.answered ≡ before.answered ++ code ∷ [] → smtp_turn_of stage code ≡ Ends end → TalkSays offered mail stage before after end
ends_here offered mail stage before after code end written answered turns = record {
  lines = stage_text offered mail stage;
  codes = code ∷ [];
  written = written;
  answered = answered;
  speaks = ([], sym (append-nil (stage_text offered mail stage)), subst (λ turn. ByTurn turn [] (Speaks offered mail []) [] end) (sym turns) (refl, refl, refl));
}

pub step_by : (offered : Extensions) (mail : SmtpMail) (stage : SmtpStage) (before after : SendTalk) (code : ℕ) (turn : NextStage) → after.written ≡ before.written ++ stage_text offered mail stage
    → after.answered ≡ before.answered ++ code ∷ [] → turn ≡ smtp_turn_of stage code → StageSteps offered mail stage before after turn
step_by offered mail stage before after code (Goes onward) written answered same = record { code = code; written = written; answered = answered; turns = sym same }
step_by offered mail stage before after code (Ends end) written answered same = ends_here offered mail stage before after code end written answered (sym same)

-- the connection is lost
pub lost : (offered : Extensions) (mail : SmtpMail) (stage : SmtpStage) (before after : SendTalk) → WritesPrefix (stage_text offered mail stage) before after → TalkSays offered mail stage before after ending.Lost
lost offered mail stage before after breaks = record {
  lines = breaks.front;
  codes = [];
  written = breaks.written;
  answered = breaks.answered ∙ sym (append-nil before.answered);
  speaks = ((breaks.rest, breaks.cut), refl);
}

pub whole_front : (octets : List ℕ) (before : SendTalk) → WritesPrefix octets before (talk_written before octets)
whole_front octets before = record { front = octets; rest = []; cut = sym (append-nil octets); written = refl; answered = refl }

-- ---- how a dialogue ends

abbrev is_of_dialogue : Ending → Bool
is_of_dialogue ending.Unaddressed = false
is_of_dialogue ending.Undeclared = false
is_of_dialogue ending.Sent = true
is_of_dialogue ending.Lost = true
is_of_dialogue (ending.Refused code) = true
is_of_dialogue (ending.Delayed code) = true
is_of_dialogue (ending.OutOfPlace code) = true

reply_by : (code : ℕ) (five four : Bool) → (reply_class code == 5) ≡ five → (reply_class code == 4) ≡ four → is_of_dialogue (ending_of code) ≡ true
reply_by code true four first second = rw first refl
reply_by code false true first second = rw (first, second) refl
reply_by code false false first second = rw (first, second) refl

reply : (code : ℕ) → is_of_dialogue (ending_of code) ≡ true
reply code = reply_by code (reply_class code == 5) (reply_class code == 4) refl refl

goes_by : (is_taken : Bool) (to : SmtpStage) (code : ℕ) (codes written : List ℕ) (end : Ending) (Later : SmtpStage → List ℕ → Ending → Type 0) → ByTurn (next_or_end is_taken to code) codes Later written end
    → (Later to written end → is_of_dialogue end ≡ true) → is_of_dialogue end ≡ true
goes_by true to code codes written end Later by goes = goes by
goes_by false to code codes written end Later by goes = ap is_of_dialogue by.2 ∙ reply code

last_by : (is_taken : Bool) (code : ℕ) (codes written : List ℕ) (end : Ending) (Later : SmtpStage → List ℕ → Ending → Type 0) → (code == 250) ≡ is_taken → ByTurn (smtp_turn_of Text code) codes Later written end
    → is_of_dialogue end ≡ true
last_by true code codes written end Later test by = let it : ByTurn (Ends ending.Sent) codes Later written end = rw test at by in ap is_of_dialogue it.2
last_by false code codes written end Later test by = let it : ByTurn (Ends (ending_of code)) codes Later written end = rw test at by in ap is_of_dialogue it.2 ∙ reply code

of_dialogue : (offered : Extensions) (mail : SmtpMail) (codes : List ℕ) (stage : SmtpStage) (written : List ℕ) (end : Ending) → Speaks offered mail codes stage written end → is_of_dialogue end ≡ true
of_dialogue offered mail [] stage written end speaks = ap is_of_dialogue speaks.1
of_dialogue offered mail (code ∷ codes) Sender written end (more, same, by) =
    goes_by (reply_class code == 2) Recipient code codes more end (Speaks offered mail codes) by (of_dialogue offered mail codes Recipient more end)
of_dialogue offered mail (code ∷ codes) Recipient written end (more, same, by) =
    goes_by (reply_class code == 2) Data code codes more end (Speaks offered mail codes) by (of_dialogue offered mail codes Data more end)
of_dialogue offered mail (code ∷ codes) Data written end (more, same, by) =
    goes_by (reply_class code == 3) Text code codes more end (Speaks offered mail codes) by (of_dialogue offered mail codes Text more end)
of_dialogue offered mail (code ∷ codes) Text written end (more, same, by) = last_by (code == 250) code codes more end (Speaks offered mail codes) refl by

treats_by : (offered : Extensions) (may : Bool) (mail : SmtpMail) (before after : SendTalk) (end : Ending) → IsMailAddressed mail → IsOffered offered may mail → TalkSays offered mail Sender before after end
    → is_of_dialogue end ≡ true → Treats offered may mail before after end
treats_by offered may mail before after ending.Unaddressed addressed needs says is = absurd (cc is)
treats_by offered may mail before after ending.Undeclared addressed needs says is = absurd (cc is)
treats_by offered may mail before after ending.Sent addressed needs says is = record { addressed = addressed; needs = needs; says = says }
treats_by offered may mail before after ending.Lost addressed needs says is = record { addressed = addressed; needs = needs; says = says }
treats_by offered may mail before after (ending.Refused code) addressed needs says is = record { addressed = addressed; needs = needs; says = says }
treats_by offered may mail before after (ending.Delayed code) addressed needs says is = record { addressed = addressed; needs = needs; says = says }
treats_by offered may mail before after (ending.OutOfPlace code) addressed needs says is = record { addressed = addressed; needs = needs; says = says }

pub treats : (offered : Extensions) (may : Bool) (mail : SmtpMail) (before after : SendTalk) (end : Ending) → IsMailAddressed mail → IsOffered offered may mail → TalkSays offered mail Sender before after end
    → Treats offered may mail before after end
treats offered may mail before after end addressed needs says =
    treats_by offered may mail before after end addressed needs says (of_dialogue offered mail says.codes Sender says.lines end says.speaks)

-- ---- results

pub err_of : {A E P : Type 0} (r : Result A E) → is_err r ≡ true → OnErr r P → P
err_of (Ok x) is on = absurd (cc is)
err_of (Err e) is on = on

pub err_map : {A E P Q : Type 0} (r : Result A E) → (P → Q) → OnErr r P → OnErr r Q
err_map (Ok x) wider on = tt
err_map (Err e) wider on = wider on

pub ok_of : {A E P : Type 0} (r : Result A E) → is_err r ≡ false → OnOk r P → P
ok_of (Ok x) is on = on
ok_of (Err e) is on = absurd (cc is)
