-- What others' events make of a store in memory.
use Rattle.std.proofs.Common.{◌≡◌, List, Bool, true, false, Result, Ok, Err, OnOk, OnErr, is_ok, refl, sym, ◌∙◌, ap, subst, inl, inr}
use Rattle.sqlite_trees.specs.declared.memory.MemStore.{MemStore}
use Rattle.sqlite.specs.Held.{Held, state}
use Rattle.sqlite.specs.Steps.{over_memory}
use Rattle.sqlite.proofs.Callers.{memory_is_clean}
use Rattle.store_accounts.specs.Account.{Accounts}
use Rattle.store_accounts.specs.Connection.{StaysSame}
use Rattle.store_accounts.specs.Shows.{Presents}
use Rattle.store_accounts.specs.declared.refusal.Refusal.{Refusal}
use Rattle.managesieve_sessions.specs.Acts.{Lasts}
use Rattle.store_engine.specs.Hosts.{Row, TurnsBy, ActsBy, answer_by}
use Rattle.store_engine.specs.World.{World, EventHappens, Next, MayRefuseEvent}
use Rattle.store_engine.specs.declared.answer.Answer.{Answer}
use Rattle.store_engine.specs.declared.event.Event.{Event}
use Rattle.store_engine.specs.declared.terms.Terms.{Terms}
use Rattle.daemon_core.specs.Together.{StoreDelivers}
use Rattle.daemon_core.specs.declared.gathered.GatheredRequest.{GatheredRequest}
use Rattle.test_daemon.specs.Memory.{memory_view_of, shelf_view}
use Rattle.test_daemon.specs.Shelves.{IsDeliveredTogether, IsLet}
use Rattle.test_daemon.specs.declared.memory.MemShelf.{MemShelf}

abbrev with : World → Accounts → World
with w later = record { accounts = later; sessions = w.sessions }

-- an event of accounts that a call made of the store; of one that was refused nothing is left, since memory has what was committed alone
module _ (event : Event) (By : Row) (May : Refusal → Type 0) (may : (w : World) (refusal : Refusal) → May refusal → MayRefuseEvent w event refusal)
    (happens : (w : World) (answer : Answer) (later : Accounts) → By w.accounts answer later → EventHappens w event answer (with w later)) (old new : Held MemStore) where
  next_by : (w : World) (answer : Answer) (later : Accounts) → TurnsBy By May answer w.accounts later → Next w event answer (with w later)
  next_by w answer later (inl row) = inl (happens w answer later row)
  next_by w answer later (inr (refusal, is_may, is, same)) = inr (record { refusal = refusal; may = may w refusal is_may; refused = is; stays = ap (with w) same })

  by_result : {X : Type 0} (told : X → Answer) (q r : Result X Refusal) → ActsBy By May told (state over_memory old) (state over_memory new) q → q ≡ r → IsLet memory_view_of event (is_ok r) old new
  by_result told q (Ok x) acts is = λ w shown.
      let it =
      subst (λ z. OnOk z ((later : Accounts) × TurnsBy By May (answer_by told q) w.accounts later × Lasts w.accounts later (state over_memory old) (state over_memory new))) is
      (acts.lasts (memory_is_clean new) refl w.accounts (shown refl)) in (
        answer_by told q,
        it.0,
        next_by w (answer_by told q) it.0 it.1,
        (λ is_open. it.2.shown),
        λ trees left. elim (it.2.crash trees left.1) [ inl shows ↦ inl shows | inr stays ↦ inr (inl (stays.0, (refl, stays.1))) ],
      )
  by_result told q (Err refusal) acts is = λ accounts shown.
      let p = shown refl in
      let same = subst (λ z. OnErr z (StaysSame (state over_memory old) (state over_memory new))) is (acts.same (memory_is_clean new) (p.0, p.1)) in (
        (λ is_open. subst (λ db. Presents db accounts) (sym (same.now_is is_open)) p),
        λ trees left. inr (inl (refl, (refl, left.1 ∙ ap (λ db. db.trees) (same.committed_is left.0)))),
      )

  pub lets_by : {X : Type 0} (told : X → Answer) (q : Result X Refusal) (b : Bool) → b ≡ is_ok q → ActsBy By May told (state over_memory old) (state over_memory new) q → IsLet memory_view_of event b old new
  lets_by told q b is acts = subst (λ x. IsLet memory_view_of event x old new) (sym is) (by_result told q q acts refl)

-- on a shelf
pub on_shelf : (event : Event) (b : Bool) (s t : MemShelf) → IsLet memory_view_of event b s.store t.store → IsLet shelf_view event b s t
on_shelf event true s t lets = lets
on_shelf event false s t lets = lets

-- messages that are delivered together
pub together_on_shelf : (terms : Terms) (requests : List GatheredRequest) (result : Result (List Answer) Refusal) (s t : MemShelf) → StoreDelivers terms requests result (state over_memory s.store) (state over_memory t.store)
    → IsDeliveredTogether shelf_view terms requests result s t
together_on_shelf terms requests (Ok answers) s t delivers =
    (delivers.0, λ w shown. let it = delivers.1 (memory_is_clean t.store) w shown in record { later = it.later; run = it.run; shown = it.endures.shown; left = it.endures.left })
together_on_shelf terms requests (Err refusal) s t delivers = λ w shown. let it = delivers (memory_is_clean t.store) w shown in (it.shown, it.left)
