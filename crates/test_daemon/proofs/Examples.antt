-- Right cases of the definitions, and near misses.
use Rattle.std.proofs.Common.{◌≡◌, ℕ, true, false, List, [], ◌∷◌, None, option_map, refl, sym, ◌∙◌, ap, subst, inl, inr}
use Rattle.std.specs.FinMap.{empty, get, get-empty}
use Rattle.std.specs.Ordering.{nat_cmp}
use Rattle.std.specs.BTreeMap as tree
use Rattle.std.specs.Map.{lookup}
use Rattle.store_accounts.specs.Account.{Accounts}
use Rattle.managesieve_sessions.specs.declared.progress.Progress.TheVariants.{Done}
use Rattle.store_engine.specs.Hosts.{SessionMap}
use Rattle.store_engine.specs.World.{World, InSession, StepsSession, Next, Runs}
use Rattle.store_engine.specs.declared.answer.Answer.{Answer}
use Rattle.store_engine.specs.declared.answer.Answer.TheVariants.{Out, Ignored}
use Rattle.store_engine.specs.declared.event.Event.TheVariants.{Step, TakeMail}
use Rattle.daemon_core.specs.StoreAccess.{View, IsWorld}
use Rattle.daemon_core.proofs.EventLemmas.{none_open}
use Rattle.test_daemon.specs.Shelves.{IsApplied, LetsOthers, is_of_accounts}

-- an event of accounts, and one of a session
mail_taken : (user folder : List ℕ) → is_of_accounts (TakeMail user folder) ≡ true
mail_taken user folder = refl

a_step : (s : ℕ) → is_of_accounts (Step s) ≡ false
a_step s = refl

-- accounts as they are, of which a crash leaves nothing
abbrev are : View Accounts
are = record { shows = λ held accounts. held ≡ accounts; leaves = λ held trees. ⊥ }

module _ (kept : SessionMap) (new : kept.entries ≡ []) (a b : Accounts) where
  abbrev start : World
  start = record { accounts = a; sessions = empty }

  stands : IsWorld are a kept start
  stands = record { shown = refl; sessions = none_open kept new }

  -- where there is no session a step is ignored, and is no event that is done
  ignored : IsApplied are (Step 1) Ignored a kept a kept
  ignored = λ w is.
      let none : get w.sessions 1 ≡ None = sym (is.sessions 1) ∙ ap (λ es. option_map (λ session. session.client) (lookup (tree.is_at (nat_cmp 1)) es)) new in
      (w, inl (subst (λ o. InSession w o (StepsSession w 1) Ignored w) (sym none) (record { ignored = refl; stays = refl })), record { is = is; left = λ trees left. absurd left })

  never_done : IsApplied are (Step 1) (Out Done []) a kept b kept → ⊥
  never_done applied = go (applied start stands).1
    where
      go : {next : World} → Next start (Step 1) (Out Done []) next → ⊥
      go {next} (inl is) =
          let ignores = subst (λ o. InSession start o (StepsSession start 1) (Out Done []) next) (get-empty nat_cmp 1) is in
          let never : ⊥ = let is_ignored : Out Done [] ≡ Ignored = ignores.ignored in cc in absurd never
      go {next} (inr is) = let never : ⊥ = let refused = is.refused in cc in absurd never

  -- where no event is told no account changes
  same : LetsOthers are [] a b → b ≡ a
  same lets =
      let made = lets start refl in
      made.2 ∙ ap (λ (w : World). w.accounts) (go made.0 made.1.told made.1.runs)
    where
      go : (between : World) (told : List Answer) → Runs start [] told between → between ≡ start
      go between [] runs = runs
      go between (answer ∷ told) runs = absurd runs
