-- What a crash leaves, act by act.
use Rattle.std.proofs.Common.{◌≡◌, ◌⊎◌, ℕ, ◌==◌, Bool, true, false, List, [], ◌∷◌, ◌++◌, refl, sym, ◌∙◌, ap, subst, inl, inr}
use Rattle.sqlite_trees.specs.Tree.{Trees}
use Rattle.store_accounts.specs.Shows.{ShowsIn}
use Rattle.store_engine.specs.World.{World, Runs}
use Rattle.store_engine.specs.declared.answer.Answer.{Answer}
use Rattle.store_engine.specs.declared.answer.Answer.TheVariants.{Refused}
use Rattle.store_engine.specs.declared.event.Event.{Event}
use Rattle.maildir_moves.specs.Enduring.{MayLeave}
use Rattle.maildir_moves.specs.declared.moving.Moving.TheVariants as moving
use Rattle.maildir_moves.proofs.RefusedLemmas.{refused_same}
use Rattle.net_loop.specs.declared.act.Act.{Act}
use Rattle.net_loop.specs.declared.act.Act.TheVariants.{Displaced, Came, Heard, Noted, Worked, Full, Ended}
use Rattle.daemon_core.specs.Acts.{LacksThen, IsMadeOr, IsHeardOr, LeadsIn, ActLeads, RestsOn}
use Rattle.daemon_core.specs.DaemonRules.{lmtp}
use Rattle.daemon_core.specs.Moves.{answers_by, takes_by}
use Rattle.daemon_core.specs.Tried.{AreRefusals, RefusedAt, AllRefusedAt, TriesBy, TriesAt, TriedIn, LeavesTried, IsLeftByCrash}
use Rattle.daemon_core.specs.declared.note.Note.{Note}
use Rattle.daemon_core.specs.declared.note.Note.TheVariants.{Did, Away, Freed, Spoke, Answered, Asked, Looked, Moved, Gathered, Delivered, Parted, PutOff}
use Rattle.daemon_core.proofs.LeadLemmas.{TriedHere}

-- ---- an act leads as it does where fewer follow it

lacks_less : (id : ℕ) (some more : List (Act Note)) → LacksThen id (some ++ more) → LacksThen id some
lacks_less id [] more lacks = tt
lacks_less id (Full n ∷ some) more lacks = lacks
lacks_less id (_ ∷ some) more lacks = absurd lacks

made_less : (answer : Answer) (id : ℕ) (some more : List (Act Note)) → IsMadeOr answer id (some ++ more) → IsMadeOr answer id some
made_less answer id some more (inl made) = inl made
made_less answer id some more (inr lacks) = inr (lacks_less id some more lacks)

heard_less : (answer : Answer) (id : ℕ) (some more : List (Act Note)) → IsHeardOr answer id (some ++ more) → IsHeardOr answer id some
heard_less answer id some more (inl made) = inl (made_less answer id some more made)
heard_less answer id some more (inr none) = inr none

in_less : (b : Bool) (w : World) (id : ℕ) (some more : List (Act Note)) (v : World) → LeadsIn b w id (some ++ more) v → LeadsIn b w id some v
in_less true w id some more v led = led
in_less false w id some more v led = (led.0, made_less led.0 id some more led.1, led.2)

leads_less : (w : World) (act : Act Note) (some more : List (Act Note)) (v : World) → ActLeads w act (some ++ more) v → ActLeads w act some v
leads_less w (Came id kind) some more v led = in_less (kind == lmtp) w id some more v led
leads_less w (Heard id piece) some more v led = (led.0, heard_less led.0 id some more led.1, led.2)
leads_less w (Ended id) some more v led = led
leads_less w (Noted id note) some more v led = led
leads_less w (Worked note) some more v led = led
leads_less w (Displaced id) some more v led = led
leads_less w _ some more v led = led

-- ---- what was tried

-- in acts behind another one
tried_behind : (w mid : World) (act : Act Note) (acts : List (Act Note)) (end : World) (trees : Trees) → ActLeads w act acts mid → LeavesTried mid acts end trees → LeavesTried w (act ∷ acts) end trees
tried_behind w mid act acts end trees led left =
    let t = left.tried in
    record {
      events = left.events;
      met = left.met;
      tried = record {
        some = act ∷ t.some;
        act = t.act;
        rest = t.rest;
        front = ap (λ l. act ∷ l) t.front;
        before = t.before;
        leads = (mid, leads_less w act t.some (t.act ∷ t.rest) mid (subst (λ l. ActLeads w act l mid) (sym t.front) led), t.leads);
        after = t.after;
        tries = t.tries;
        rests = t.rests;
      };
      made = left.made;
    }

-- in this one, and no act behind it changed an account
tried_now : (w mid : World) (act : Act Note) (acts : List (Act Note)) (end : World) (trees : Trees) → TriedHere w act mid trees → RestsOn mid acts end → LeavesTried w (act ∷ acts) end trees
tried_now w mid act acts end trees tried rests =
    record {
      events = tried.0;
      met = tried.1;
      tried = record { some = []; act = act; rest = acts; front = refl; before = w; leads = refl; after = mid; tries = tried.2; rests = rests };
      made = tried.3;
    }

-- a refused event leaves the accounts that it met
pub refused_stays : (others : List Event) (event : Event) (answer : Answer) (w met next : World) → RefusedAt others event answer w met next → next.accounts ≡ met.accounts
refused_stays others event (Refused refusal) w met next at = refused_same at.done.between next event refusal at.done.ours ∙ ap (λ (x : World). x.accounts) (sym at.met_is)
refused_stays others event _ w met next at = absurd at.refused

-- nor do several
runs_refused : (events : List Event) (answers : List Answer) (w v : World) → Runs w events answers v → AreRefusals answers → v.accounts ≡ w.accounts
runs_refused [] [] w v run refused = ap (λ (x : World). x.accounts) run
runs_refused (event ∷ events) (Refused refusal ∷ answers) w v run refused = runs_refused events answers run.0 v run.2 refused.1 ∙ refused_same w run.0 event refusal run.1
runs_refused (event ∷ events) (_ ∷ answers) w v run refused = absurd refused.0
runs_refused [] (answer ∷ answers) w v run refused = absurd run
runs_refused (event ∷ events) [] w v run refused = absurd run

all_refused_stay : (others events : List Event) (answers : List Answer) (w met next : World) → AllRefusedAt others events answers w met next → next.accounts ≡ met.accounts
all_refused_stay others events answers w met next at = runs_refused events answers at.done.between next at.done.ours at.refused ∙ ap (λ (x : World). x.accounts) (sym at.met_is)

tries_stays : (w : World) (note : Note) (next : World) (events : List Event) (met : World) → TriesBy w note next events met → next.accounts ≡ met.accounts
tries_stays w (Did others event answer) next tried met tries = refused_stays others event answer w met next tries.1
tries_stays w (Moved others (moving.Kept batch answer)) next tried met tries = all_refused_stay others (takes_by batch) (answers_by batch answer) w met next tries.3
tries_stays w (Moved others moving.Went) next tried met tries = absurd tries
tries_stays w (Moved others moving.Nothing) next tried met tries = absurd tries
tries_stays w (Moved others moving.Passed) next tried met tries = absurd tries
tries_stays w (Moved others (moving.Failed refusal)) next tried met tries = absurd tries
tries_stays w (Moved others (moving.Stays stay)) next tried met tries = absurd tries
tries_stays w Away next tried met tries = absurd tries
tries_stays w (Freed event answer) next tried met tries = absurd tries
tries_stays w Spoke next tried met tries = absurd tries
tries_stays w Answered next tried met tries = absurd tries
tries_stays w (Asked others user lookup) next tried met tries = absurd tries
tries_stays w (Looked wanted) next tried met tries = absurd tries
tries_stays w Gathered next tried met tries = absurd tries
tries_stays w (Delivered others told) next tried met tries = absurd tries
tries_stays w (Parted others events) next tried met tries = ap (λ (x : World). x.accounts) (sym tries.2)
tries_stays w (PutOff ids) next tried met tries = absurd tries

act_stays : (w : World) (act : Act Note) (next : World) (events : List Event) (met : World) → TriesAt w act next events met → next.accounts ≡ met.accounts
act_stays w (Noted id note) next events met tries = tries_stays w note next events met tries
act_stays w (Worked note) next events met tries = tries_stays w note next events met tries
act_stays w _ next events met tries = absurd tries

-- ---- what is left behind acts

-- the accounts, what was tried in the acts, or what might be left before them, where none changed an account
abbrev pub LeavesOn : (Trees → Type 0) → World → List (Act Note) → (Trees → Type 0) → World → Type 0
LeavesOn before w acts after v = (trees : Trees) → after trees → ShowsIn trees v.accounts ⊎ (RestsOn w acts v × before trees) ⊎ LeavesTried w acts v trees

pub left_here : (before : Trees → Type 0) (w : World) → LeavesOn before w [] before w
left_here before w trees may = inr (inl (refl, may))

rests_same : (w : World) (acts : List (Act Note)) (v : World) → RestsOn w acts v → v.accounts ≡ w.accounts
rests_same w [] v rests = ap (λ (x : World). x.accounts) rests
rests_same w (act ∷ acts) v rests = rests_same rests.0 acts v rests.3 ∙ rests.2

-- events that were tried met the accounts that are there at the end
pub tried_same : (start : World) (acts : List (Act Note)) (end : World) (events : List Event) (met : World) → TriedIn start acts end events met → end.accounts ≡ met.accounts
tried_same start acts end events met tried = rests_same tried.after tried.rest end tried.rests ∙ act_stays tried.before tried.act tried.after events met tried.tries

pub left_on : (a b c : Trees → Type 0) (w mid v : World) (act : Act Note) (acts : List (Act Note)) → ActLeads w act acts mid → MayLeave a w.accounts b mid.accounts (TriedHere w act mid) → LeavesOn b mid acts c v
    → LeavesOn a w (act ∷ acts) c v
left_on a b c w mid v act acts led here later trees may = by_later (later trees may)
  where
    by_here : RestsOn mid acts v → ShowsIn trees mid.accounts ⊎ ((mid.accounts ≡ w.accounts) × a trees) ⊎ TriedHere w act mid trees
        → ShowsIn trees v.accounts ⊎ (RestsOn w (act ∷ acts) v × a trees) ⊎ LeavesTried w (act ∷ acts) v trees
    by_here rests (inl shown) = inl (subst (ShowsIn trees) (sym (rests_same mid acts v rests)) shown)
    by_here rests (inr (inl old)) = inr (inl ((mid, led, old.0, rests), old.1))
    by_here rests (inr (inr tried)) = inr (inr (tried_now w mid act acts v trees tried rests))

    by_later : ShowsIn trees v.accounts ⊎ (RestsOn mid acts v × b trees) ⊎ LeavesTried mid acts v trees → ShowsIn trees v.accounts ⊎ (RestsOn w (act ∷ acts) v × a trees) ⊎ LeavesTried w (act ∷ acts) v trees
    by_later (inl shown) = inl shown
    by_later (inr (inl old)) = by_here old.0 (here trees old.1)
    by_later (inr (inr tried)) = inr (inr (tried_behind w mid act acts v trees led tried))

-- from a store of which a crash leaves the accounts alone
pub is_left : (before after : Trees → Type 0) (w v : World) (acts : List (Act Note)) → ((trees : Trees) → before trees → ShowsIn trees w.accounts) → LeavesOn before w acts after v → (trees : Trees) → after trees → IsLeftByCrash w acts v trees
is_left before after w v acts settled left trees may = by (left trees may)
  where
    by : ShowsIn trees v.accounts ⊎ (RestsOn w acts v × before trees) ⊎ LeavesTried w acts v trees → IsLeftByCrash w acts v trees
    by (inl shown) = inl shown
    by (inr (inl old)) = inl (subst (ShowsIn trees) (sym (rests_same w acts v old.0)) (settled trees old.1))
    by (inr (inr tried)) = inr tried
