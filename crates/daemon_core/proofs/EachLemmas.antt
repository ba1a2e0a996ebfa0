-- Steps of several clients of LMTP in one act.
use Rattle.std.proofs.Common.{◌≡◌, ◌≤◌, ℕ, Bool, true, false, cond, List, [], ◌∷◌, ◌++◌, Option, Some, None, refl, sym, ◌∙◌, ap, subst, arith}
use Rattle.std.proofs.lemmas.List.{append-nil}
use Rattle.lmtp_connections.specs.Stands.{ConnectionStands}
use Rattle.lmtp_connections.specs.declared.connection.LmtpConnection.{LmtpConnection}
use Rattle.net_loop.specs.Talk.{is_same_id}
use Rattle.net_loop.proofs.TalkLemmas.{one_number}
use Rattle.daemon_core.specs.Holding.{firm_connection}
use Rattle.daemon_core.specs.LmtpSteps.{Connections, StepsOne, StepsEach}
use Rattle.daemon_core.specs.MailActs.{MailLine, IsLmtpNoted, Its, TellsEach}
use Rattle.daemon_core.specs.declared.note.Note.{Note}

pub some_connection : (a b : LmtpConnection) → Some a ≡ Some b → a ≡ b
some_connection a b is = cc

-- where there is no client of LMTP none is
none_one : (now n : ℕ) (note : Note) (before after : Connections) (id : ℕ) → StepsOne now n note before after → before id ≡ None → after id ≡ None
none_one now n note before after id step none = by (is_same_id n id) refl
  where
    by : (b : Bool) → is_same_id n id ≡ b → after id ≡ None
    by true is = absurd (let never : None ≡ Some step.connection = sym none ∙ (ap before (sym (one_number n id is)) ∙ step.was) in cc)
    by false is = step.changes id ∙ (ap (λ b. cond b (Some step.later) (before id)) is ∙ none)

pub none_stepped : (now : ℕ) (steps : List (ℕ × Note)) (before after : Connections) (id : ℕ) → StepsEach now steps before after → before id ≡ None → after id ≡ None
none_stepped now [] before after id each none = each id ∙ none
none_stepped now (it ∷ more) before after id each none = none_stepped now more each.0 after id each.2 (none_one now it.0 it.1 before each.0 id each.1 none)

-- no connection holds more
less_one : (now n : ℕ) (note : Note) (before after : Connections) (id : ℕ) → StepsOne now n note before after → firm_connection (after id) ≤ firm_connection (before id)
less_one now n note before after id step = by (is_same_id n id) refl
  where
    by : (b : Bool) → is_same_id n id ≡ b → firm_connection (after id) ≤ firm_connection (before id)
    by true is =
        let was : before id ≡ Some step.connection = ap before (sym (one_number n id is)) ∙ step.was in
        let new : after id ≡ Some step.later = step.changes id ∙ ap (λ b. cond b (Some step.later) (before id)) is in
        omega (arith, ap firm_connection was, ap firm_connection new, step.held)
    by false is = omega (arith, ap firm_connection (step.changes id ∙ ap (λ b. cond b (Some step.later) (before id)) is))

pub less_stepped : (now : ℕ) (steps : List (ℕ × Note)) (before after : Connections) (id : ℕ) → StepsEach now steps before after → firm_connection (after id) ≤ firm_connection (before id)
less_stepped now [] before after id each = omega (arith, ap firm_connection (each id))
less_stepped now (it ∷ more) before after id each = omega (arith, less_one now it.0 it.1 before each.0 id each.1, less_stepped now more each.0 after id each.2)

-- ---- the line of one of them

abbrev pub StandsAt : Connections → ℕ → MailLine → Type 0
StandsAt at id l = (c : LmtpConnection) → at id ≡ Some c → ConnectionStands c l.connection

-- nothing is said or sent
pub record StepsLine (now : ℕ) (steps : List (ℕ × Note)) (after : Connections) (id : ℕ) (l : MailLine) : Type 0 where
  pub line : MailLine
  pub tells : TellsEach id now l steps line
  pub stands : StandsAt after id line
  pub spelled : line.spelled ≡ l.spelled
  pub sent : line.sent ≡ l.sent

pub record StepsOn (now n : ℕ) (note : Note) (after : Connections) (id : ℕ) (l : MailLine) : Type 0 where
  pub line : MailLine
  pub tells : Its (is_same_id n id) (IsLmtpNoted now l note line) (line ≡ l)
  pub stands : StandsAt after id line
  pub spelled : line.spelled ≡ l.spelled
  pub sent : line.sent ≡ l.sent

line_one : (now n : ℕ) (note : Note) (before after : Connections) (id : ℕ) (l : MailLine) → StepsOne now n note before after → StandsAt before id l → StepsOn now n note after id l
line_one now n note before after id l step stands = by (is_same_id n id) refl
  where
    by : (b : Bool) → is_same_id n id ≡ b → StepsOn now n note after id l
    by true is =
        let was : before id ≡ Some step.connection = ap before (sym (one_number n id is)) ∙ step.was in
        let new : after id ≡ Some step.later = step.changes id ∙ ap (λ b. cond b (Some step.later) (before id)) is in
        let did = step.does l.connection (stands step.connection was) in
        let k : MailLine = record { connection = did.0; spelled = l.spelled ++ []; sent = l.sent } in
        record {
          line = k;
          tells = subst (λ b. Its b (IsLmtpNoted now l note k) (k ≡ l)) (sym is) (record { lmtp_step = step.lmtp_step; told = step.is; said = []; after = did.0; goes = did.1; leaves = refl });
          stands = λ c at. subst (λ x. ConnectionStands x did.0) (some_connection step.later c (sym new ∙ at)) did.2;
          spelled = append-nil l.spelled;
          sent = refl;
        }
    by false is = record {
      line = l;
      tells = subst (λ b. Its b (IsLmtpNoted now l note l) (l ≡ l)) (sym is) refl;
      stands = λ c at. stands c (sym (step.changes id ∙ ap (λ b. cond b (Some step.later) (before id)) is) ∙ at);
      spelled = refl;
      sent = refl;
    }

pub line_stepped : (now : ℕ) (steps : List (ℕ × Note)) (before after : Connections) (id : ℕ) (l : MailLine) → StepsEach now steps before after → StandsAt before id l → StepsLine now steps after id l
line_stepped now [] before after id l each stands = record { line = l; tells = refl; stands = λ c at. stands c (sym (each id) ∙ at); spelled = refl; sent = refl }
line_stepped now (it ∷ more) before after id l each stands =
    let one = line_one now it.0 it.1 before each.0 id l each.1 stands in
    let rest = line_stepped now more each.0 after id one.line each.2 one.stands in
    record { line = rest.line; tells = (one.line, one.tells, rest.tells); stands = rest.stands; spelled = rest.spelled ∙ one.spelled; sent = rest.sent ∙ one.sent }
