-- Messages that are delivered together, as the host has them done.
use Rattle.std.proofs.Common.{◌≡◌, Bool, true, false, [], List, length, Result, Ok, Err, refl, sym, ◌∙◌, ap, subst, inl, inr}
use Rattle.sqlite_trees.specs.Tree.{Trees}
use Rattle.sqlite_trees.specs.declared.store.Store.{Ghosts}
use Rattle.sqlite.specs.Held.{Held, state}
use Rattle.sqlite.specs.State.{HasCleanDisk}
use Rattle.store_accounts.specs.Account.{Accounts}
use Rattle.store_accounts.specs.declared.refusal.Refusal.{Refusal}
use Rattle.store_accounts.specs.declared.refusal.Refusal.TheVariants.{Store}
use Rattle.managesieve_sessions.specs.Acts.{HasAccounts}
use Rattle.store_engine.specs.Hosts.{SessionMap}
use Rattle.store_engine.specs.declared.answer.Answer.{Answer}
use Rattle.store_engine.specs.declared.terms.Terms.{Terms}
use Rattle.maildir_moves.specs.Enduring.{ShowsMade, leaves_of, none_tried}
use Rattle.maildir_moves.proofs.EnduringLemmas.{left_then}
use Rattle.daemon_core.specs.StoreAccess.{View, ViewStillShows}
use Rattle.daemon_core.specs.Together.{AreEventsDone, AreEventsTried, deliveries_told, deliveries_of, events_told, answers_told, StoreDelivers}
use Rattle.daemon_core.specs.declared.gathered.GatheredRequest.{GatheredRequest}
use Rattle.daemon_core.proofs.MoveLemmas.{let_none}
use Rattle.daemon_host.specs.Held.{DeliversBy}

-- by one call of `deliver_requests`: nobody came between
pub delivers_alone : {R S : Type 0} (g : Ghosts S) (view : View R) (clean : R → Type 0) (terms : Terms) (requests : List GatheredRequest) (result : Result (List Answer) Refusal) (r q : R) (old new : Held S)
    → ((accounts : Accounts) → view.shows r accounts → HasAccounts (state g old) accounts) → ((accounts : Accounts) → HasAccounts (state g new) accounts → view.shows q accounts)
    → ((trees : Trees) → leaves_of (state g old) trees → view.leaves r trees) → ((trees : Trees) → view.leaves q trees → leaves_of (state g new) trees)
    → (clean q → HasCleanDisk (state g new)) → StoreDelivers terms requests result (state g old) (state g new) → DeliversBy view clean terms requests result r q
delivers_alone g view clean terms requests (Ok answers) r q old new was is left may disk delivers = (
  delivers.0,
  λ c kept w at.
      let it = delivers.1 (disk c) w (was w.accounts at.shown) in (
        record { accounts = it.later; sessions = w.sessions },
        record { strangers = tt; told = []; between = w; theirs = refl; apart = refl; ours = it.run },
        record {
          is = record { shown = is it.later it.endures.shown; sessions = at.sessions };
          left = λ trees leaves. elim (it.endures.left trees (may trees leaves)) [ inl shown ↦ inl shown | inr rest ↦ elim rest [ inl before ↦ inr (inl (before.0, left trees before.1)) | inr tried ↦ inr (inr tried) ] ];
        },
      ),
)
delivers_alone g view clean terms requests (Err refusal) r q old new was is left may disk delivers = λ c kept w at.
    let it = delivers (disk c) w (was w.accounts at.shown) in (
      w,
      let_none w,
      record {
        is = record { shown = is w.accounts it.shown; sessions = at.sessions };
        left = λ trees leaves. elim (it.left trees (may trees leaves)) [ inl shown ↦ inl shown | inr rest ↦ elim rest [ inl before ↦ inr (inl (before.0, left trees before.1)) | inr tried ↦ inr (inr tried) ] ];
      },
    )

-- behind calls that changed no account
pub delivers_behind : {R : Type 0} (view : View R) (clean : R → Type 0) (terms : Terms) (requests : List GatheredRequest) (result : Result (List Answer) Refusal) (r m q : R) → ViewStillShows view r m
    → DeliversBy view clean terms requests result m q → DeliversBy view clean terms requests result r q
delivers_behind view clean terms requests (Ok answers) r m q still delivers = (
  delivers.0,
  λ c kept w at.
      let here = still w.accounts at.shown in
      let it = delivers.1 c kept w (record { shown = here.0; sessions = at.sessions }) in
      (it.0, it.1, record { is = it.2.is; left = left_then (view.leaves r) (view.leaves m) (view.leaves q) w.accounts w.accounts it.0.accounts none_tried here.1 it.2.left }),
)
delivers_behind view clean terms requests (Err refusal) r m q still delivers = λ c kept w at.
    let here = still w.accounts at.shown in
    let it = delivers c kept w (record { shown = here.0; sessions = at.sessions }) in
    (it.0, it.1, record { is = it.2.is; left = left_then (view.leaves r) (view.leaves m) (view.leaves q) w.accounts w.accounts it.0.accounts (ShowsMade (deliveries_of terms requests) it.0) here.1 it.2.left })

-- as it is told, where what was done is still in the file at the path, or isn't
pub delivers_told : {R : Type 0} (view : View R) (clean : R → Type 0) (terms : Terms) (requests : List GatheredRequest) (answers told : Result (List Answer) Refusal) (kept : Bool) (r m q : R)
    → (kept ≡ true → told ≡ answers) → (kept ≡ false → told ≡ Err Store) → (clean q → (kept ≡ true) × (q ≡ m)) → DeliversBy view clean terms requests answers r m → DeliversBy view clean terms requests told r q
delivers_told view clean terms requests answers told true r m q same lost stays delivers = subst (λ x. DeliversBy view clean terms requests x r q) (sym (same refl)) (by answers delivers)
  where
    by : (x : Result (List Answer) Refusal) → DeliversBy view clean terms requests x r m → DeliversBy view clean terms requests x r q
    by (Ok all) it = (
      it.0,
      λ c. let here = (stays c).1 in
          λ session. subst (λ s. AreEventsDone view [] (events_told (deliveries_told terms requests all)) (answers_told (deliveries_told terms requests all)) r session s session) (sym here) (it.1 (subst clean here c) session),
    )
    by (Err refusal) it = λ c.
        let here = (stays c).1 in
        λ session. subst (λ s. AreEventsTried view [] (deliveries_of terms requests) r session s session) (sym here) (it (subst clean here c) session)
delivers_told view clean terms requests answers told false r m q same lost stays delivers =
    subst (λ x. DeliversBy view clean terms requests x r q) (sym (lost refl)) (λ c. absurd (let never : false ≡ true = (stays c).0 in cc))
