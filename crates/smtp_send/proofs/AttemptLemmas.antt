-- What a run does with rows.
use Rattle.std.proofs.Common.{◌≡◌, Bool, true, false, List, [], ◌∷◌, ◌++◌, Option, Some, None, Result, Ok, Err, refl, sym, subst, ◌∙◌}
use Rattle.std.specs.Prelude.{is_ok, IfSome, IsSome}
use Rattle.std.proofs.lemmas.List.Elements.{All-nil, All-cons, All-append}
use Rattle.smtp_dialogue.specs.declared.extension.Extensions.{Extensions}
use Rattle.smtp_dialogue.specs.declared.dialogue.Ending.{Ending}
use Rattle.smtp_dialogue.specs.declared.dialogue.Ending.TheVariants.{Sent}
use Rattle.smtp_send.specs.Rows.{Rows, Content, IsThere, RowHasOctets, RowStands, TakesOut, RowTakenOut}
use Rattle.smtp_send.specs.Talks.{SendTalk, Treats}
use Rattle.smtp_dialogue.specs.Messages.{SmtpMail}
use Rattle.smtp_send.specs.Attempts.{SendAttempt, SendState, state, AttemptsLead, HasLeft, RunReaches, Handles, EndsRow, IsMessageOfRow}
use Rattle.smtp_send.specs.declared.queue.DueMessage.{DueMessage}
use Rattle.smtp_send.specs.declared.queue.TakenOut.{TakenOut}
use Rattle.smtp_send.specs.declared.queue.TakenOut.TheVariants.{Removed, Gone, Changed}
use Rattle.smtp_send.specs.declared.row.Stop.{Stop}
use Rattle.smtp_send.specs.declared.row.Stop.TheVariants.{Memory, Store, Output, Kept, Unreachable}

-- ---- a row that was to be taken out

-- whatever became of it, it doesn't stand there any more
stands_no_more : (row : DueMessage) (taken : TakenOut) (before after : Rows) → RowTakenOut row taken before after → RowStands row after → ⊥
stands_no_more row Removed before after takes (content, some, octets) = let none = takes.1.gone in absurd (let no = sym none ∙ some in cc)
stands_no_more row Gone before after takes (content, some, octets) =
    let there : before row.user row.id ≡ Some content = subst (λ rows. rows row.user row.id ≡ Some content) takes.1 some in
    absurd (let no = sym takes.0 ∙ there in cc)
stands_no_more row Changed before after takes (content, some, octets) =
    let there : before row.user row.id ≡ Some content = subst (λ rows. rows row.user row.id ≡ Some content) takes.1 some in
    let same : takes.0.0 ≡ content = (let h = sym takes.0.1 ∙ there in cc) in
    takes.0.2 (subst (RowHasOctets row) (sym same) octets)

-- ---- nothing is done

pub nothing : (may : Bool) (Shows : Rows → Type 0) (Said : SendTalk → Type 0) (before : SendState) (whole : Bool) → Shows before.rows → Said before.talk → RunReaches may Shows Said before whole
nothing may Shows Said before whole shows said = record { attempts = []; after = before; shows = shows; said = said; leads = refl; left = λ is. All-nil HasLeft }

-- ---- attempts behind others

follows : (may : Bool) (first later : List SendAttempt) (before mid after : SendState) → AttemptsLead may first before mid → AttemptsLead may later mid after → AttemptsLead may (later ++ first) before after
follows may first [] before mid after one two = subst (AttemptsLead may first before) (sym two) one
follows may first (attempt ∷ later) before mid after one (last, two, does) = (last, follows may first later before mid last one two, does)

pub joins : (may : Bool) (Mid Shows : Rows → Type 0) (Heard Said : SendTalk → Type 0) (before : SendState) (whole : Bool) → RunReaches may Mid Heard before true
    → ((mid : SendState) → Mid mid.rows → Heard mid.talk → RunReaches may Shows Said mid whole) → RunReaches may Shows Said before whole
joins may Mid Shows Heard Said before whole one more =
    let two = more one.after one.shows one.said in
    record {
      attempts = two.attempts ++ one.attempts;
      after = two.after;
      shows = two.shows;
      said = two.said;
      leads = follows may one.attempts two.attempts before one.after two.after one.leads two.leads;
      left = λ is. All-append HasLeft two.attempts one.attempts (two.left is) (one.left refl);
    }

-- what is shown and said is so still
pub stays : (may : Bool) (Mid Shows : Rows → Type 0) (Heard Said : SendTalk → Type 0) (before : SendState) (was whole : Bool) → RunReaches may Mid Heard before was → ((rows : Rows) → Mid rows → Shows rows)
    → ((t : SendTalk) → Heard t → Said t) → (whole ≡ true → was ≡ true) → RunReaches may Shows Said before whole
stays may Mid Shows Heard Said before was whole one same quiet less = record {
  attempts = one.attempts;
  after = one.after;
  shows = same one.after.rows one.shows;
  said = quiet one.after.talk one.said;
  leads = one.leads;
  left = λ is. one.left (less is);
}

-- ---- one row

one_attempt : (may : Bool) (offered : Extensions) (row : DueMessage) (before after : SendState) (ending : Ending) (taken : Option TakenOut) → IsThere row before.rows → Handles offered may row before after ending taken
    → AttemptsLead may (record { row = row; offered = offered; ending = ending; taken = taken } ∷ []) before after
one_attempt may offered row before after ending taken there handles =
    (before, refl, record { there = there; mail = handles.mail; message = handles.message; treats = handles.treats; leaves = handles.leaves })

-- it isn't sent, and stays
pub waits : (offered : Extensions) (may : Bool) (row : DueMessage) (mail : SmtpMail) (before : SendState) (u : SendTalk) (ending : Ending) → IsMessageOfRow row mail → Treats offered may mail before.talk u ending → (ending ≡ Sent → ⊥)
    → EndsRow offered may row before (state before.rows u) (Ok ending)
waits offered may row mail before u ending message treats other = (None, record { mail = mail; message = message; treats = treats; leaves = refl }, λ same. absurd (other same))

-- it is sent, and taken out
pub leaves : (offered : Extensions) (may : Bool) (row : DueMessage) (mail : SmtpMail) (before : SendState) (u : SendTalk) (after : Rows) (taken : TakenOut) → IsMessageOfRow row mail → Treats offered may mail before.talk u Sent
    → RowTakenOut row taken before.rows after → EndsRow offered may row before (state after u) (Ok Sent)
leaves offered may row mail before u after taken message treats takes = (Some taken, record { mail = mail; message = message; treats = treats; leaves = (refl, takes) }, λ same. refl)

-- it is sent, and can't leave
pub keeps : (offered : Extensions) (may : Bool) (row : DueMessage) (mail : SmtpMail) (before : SendState) (u : SendTalk) → IsMessageOfRow row mail → Treats offered may mail before.talk u Sent
    → EndsRow offered may row before (state before.rows u) (Err Kept)
keeps offered may row mail before u message treats = record { mail = mail; message = message; treats = treats; leaves = refl }

pub one_row : (may : Bool) (Shows : Rows → Type 0) (Said : SendTalk → Type 0) (offered : Extensions) (row : DueMessage) (before after : SendState) (result : Result Ending Stop) → IsThere row before.rows → Shows after.rows
    → Said after.talk → EndsRow offered may row before after result → RunReaches may Shows Said before (is_ok result)
one_row may Shows Said offered row before after (Ok ending) there shows said (taken, handles, left) = record {
  attempts = record { row = row; offered = offered; ending = ending; taken = taken } ∷ [];
  after = after;
  shows = shows;
  said = said;
  leads = one_attempt may offered row before after ending taken there handles;
  left = λ is. All-cons HasLeft (record { row = row; offered = offered; ending = ending; taken = taken }) [] left (All-nil HasLeft);
}
one_row may Shows Said offered row before after (Err Memory) there shows said ends = record {
  attempts = [];
  after = after;
  shows = shows;
  said = said;
  leads = ends;
  left = λ is. All-nil HasLeft;
}
one_row may Shows Said offered row before after (Err Kept) there shows said handles = record {
  attempts = record { row = row; offered = offered; ending = Sent; taken = None } ∷ [];
  after = after;
  shows = shows;
  said = said;
  leads = one_attempt may offered row before after Sent None there handles;
  left = λ is. absurd (cc is);
}
one_row may Shows Said offered row before after (Err Store) there shows said ends = absurd ends
one_row may Shows Said offered row before after (Err Output) there shows said ends = absurd ends
one_row may Shows Said offered row before after (Err Unreachable) there shows said ends = absurd ends

-- ---- one row behind others

pub row_there : (P : DueMessage → Type 0) (found : Option DueMessage) (row : DueMessage) → found ≡ Some row → IfSome found P → P row
row_there P found row same is = let Q : Option DueMessage → Type 0 = λ o. IfSome o P in subst Q same is

pub then_row : (may was : Bool) (First Mid Shows : Rows → Type 0) (Heard Said : SendTalk → Type 0) (before : SendState) (whole : Bool) (row : DueMessage) → was ≡ may → RunReaches may First Heard before true
    → ((rows : Rows) → First rows → Mid rows) → ((rows : Rows) → First rows → IsThere row rows)
    → ((mid : SendState) → Mid mid.rows → Heard mid.talk → IsThere row mid.rows → RunReaches was Shows Said mid whole) → RunReaches may Shows Said before whole
then_row may was First Mid Shows Heard Said before whole row same one stay there more =
    joins may First Shows Heard Said before whole one
    (λ mid shows said. let here = stay mid.rows shows in subst (λ m. RunReaches m Shows Said mid whole) same (more mid here said (there mid.rows shows)))
