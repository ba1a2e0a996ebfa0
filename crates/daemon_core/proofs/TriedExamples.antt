-- What a crash may leave at the end of acts, and near misses.
use Rattle.std.proofs.Common.{◌≡◌, List, [], ◌∷◌, ◌++◌, None, refl, sym, ◌∙◌, ap, subst, inl, inr}
use Rattle.std.specs.FinMap.{get}
use Rattle.sqlite_trees.specs.Tree.{Trees}
use Rattle.store_accounts.specs.Shows.{ShowsIn}
use Rattle.store_accounts.specs.declared.refusal.Refusal.TheVariants.{Store}
use Rattle.managesieve_sessions.specs.declared.progress.Progress.TheVariants.{Done}
use Rattle.store_engine.specs.World.{World, InSession, StepsSession, Next, Runs}
use Rattle.store_engine.specs.declared.answer.Answer.{Answer}
use Rattle.store_engine.specs.declared.answer.Answer.TheVariants.{Out, Refused}
use Rattle.store_engine.specs.declared.event.Event.{Event}
use Rattle.store_engine.specs.declared.event.Event.TheVariants.{Step}
use Rattle.maildir_moves.specs.Enduring.{ShowsMade}
use Rattle.net_loop.specs.declared.act.Act.{Act}
use Rattle.net_loop.specs.declared.act.Act.TheVariants.{Noted}
use Rattle.daemon_core.specs.Acts.{LeadsOn}
use Rattle.daemon_core.specs.Tried.{TriesAt, LeavesTried, IsLeftByCrash}
use Rattle.daemon_core.specs.declared.note.Note.{Note}
use Rattle.daemon_core.specs.declared.note.Note.TheVariants.{Did}
use Rattle.daemon_core.proofs.TriedLemmas.{tried_same}

-- the step of a session was refused
abbrev refused : Act Note
refused = Noted 1 (Did [] (Step 1) (Refused Store))

-- and then another one's was done
abbrev made : Act Note
made = Noted 2 (Did [] (Step 2) (Out Done []))

-- what the refused step makes of the very world that it met may be left
left_of_it : (w : World) (trees : Trees) → Next w (Step 1) (Refused Store) w → ShowsMade (Step 1 ∷ []) w trees → IsLeftByCrash w (refused ∷ []) w trees
left_of_it w trees next shows = inr (record {
  events = Step 1 ∷ [];
  met = w;
  tried = record {
    some = [];
    act = refused;
    rest = [];
    front = refl;
    before = w;
    leads = refl;
    after = w;
    tries = (refl, record { done = record { strangers = tt; told = []; between = w; theirs = refl; apart = refl; ours = next }; met_is = refl; refused = tt });
    rests = refl;
  };
  made = shows;
})

-- near misses: where no act tried anything a crash leaves the accounts alone
none_left : (w end : World) (trees : Trees) → IsLeftByCrash w [] end trees → ShowsIn trees end.accounts
none_left w end trees (inl shown) = shown
none_left w end trees (inr left) = by left.tried.some left.tried.front
  where
    by : (some : List (Act Note)) → some ++ left.tried.act ∷ left.tried.rest ≡ [] → ShowsIn trees end.accounts
    by [] is = let never : ⊥ = cc in absurd never
    by (act ∷ some) is = let never : ⊥ = cc in absurd never

no_run : (w v : World) (told : List Answer) → Runs w [] told v → v ≡ w
no_run w v [] run = run
no_run w v (answer ∷ told) run = absurd run

no_more : {A : Type 0} (act : Act Note) (some rest : List (Act Note)) → some ++ act ∷ rest ≡ [] → A
no_more act [] rest is = let never : ⊥ = cc in absurd never
no_more act (other ∷ some) rest is = let never : ⊥ = cc in absurd never

module _ (w end : World) (trees : Trees) where
  its_own_by : (events : List Event) (met : World) (act : Act Note) (before after : World) → act ≡ refused → before ≡ w → TriesAt before act after events met → ShowsMade events met trees → ShowsMade (Step 1 ∷ []) w trees
  its_own_by events met act before after is here tries shows =
      let tried : TriesAt before refused after events met = subst (λ a. TriesAt before a after events met) is tries in
      let was : met ≡ w = tried.1.met_is ∙ (no_run before tried.1.done.between tried.1.done.told tried.1.done.theirs ∙ here) in
      subst (λ e. ShowsMade e w trees) tried.0 (subst (λ m. ShowsMade events m trees) was shows)

  -- of a refused step only what that step makes of the world that it met is left
  its_own : LeavesTried w (refused ∷ []) end trees → ShowsMade (Step 1 ∷ []) w trees
  its_own left = by left.tried.some left.tried.front left.tried.leads
    where
      by : (some : List (Act Note)) → some ++ left.tried.act ∷ left.tried.rest ≡ refused ∷ [] → LeadsOn w some left.tried.before → ShowsMade (Step 1 ∷ []) w trees
      by [] is leads = let same : left.tried.act ≡ refused = cc in its_own_by left.events left.met left.tried.act left.tried.before left.tried.after same leads left.tried.tries left.made
      by (act ∷ some) is leads = let none : some ++ left.tried.act ∷ left.tried.rest ≡ [] = cc in no_more left.tried.act some left.tried.rest none

  -- so no command of another session: where the one that was stepped has none, a crash leaves the accounts alone
  not_of_another : get w.sessions 1 ≡ None → IsLeftByCrash w (refused ∷ []) end trees → ShowsIn trees end.accounts
  not_of_another gone (inl shown) = shown
  not_of_another gone (inr left) =
      let shows = its_own left in
      let same : end.accounts ≡ w.accounts = tried_same w (refused ∷ []) end left.events left.met left.tried ∙ met_is left.tried.some left.tried.front left.tried.leads in
      subst (ShowsIn trees) (ap (λ (x : World). x.accounts) (by shows.told shows.after shows.run) ∙ sym same) shows.shown
    where
      met_is : (some : List (Act Note)) → some ++ left.tried.act ∷ left.tried.rest ≡ refused ∷ [] → LeadsOn w some left.tried.before → left.met.accounts ≡ w.accounts
      met_is [] is leads =
          let same : left.tried.act ≡ refused = cc in
          let tried : TriesAt left.tried.before refused left.tried.after left.events left.met = subst (λ a. TriesAt left.tried.before a left.tried.after left.events left.met) same left.tried.tries in
          ap (λ (x : World). x.accounts) (tried.1.met_is ∙ (no_run left.tried.before tried.1.done.between tried.1.done.told tried.1.done.theirs ∙ leads))
      met_is (act ∷ some) is leads = let none : some ++ left.tried.act ∷ left.tried.rest ≡ [] = cc in no_more left.tried.act some left.tried.rest none

      one : (answer : Answer) (after : World) → Next w (Step 1) answer after → after ≡ w
      one answer after (inl steps) = let ignores = subst (λ o. InSession w o (StepsSession w 1) answer after) gone steps in ignores.stays
      one answer after (inr stays) = stays.stays

      by : (told : List Answer) (after : World) → Runs w (Step 1 ∷ []) told after → after ≡ w
      by (answer ∷ []) after run = run.2 ∙ one answer run.0 run.1
      by (answer ∷ other ∷ told) after run = absurd run.2
      by [] after run = absurd run

  -- nor an event that was tried before a commit that changed an account
  not_behind_a_change : (end.accounts ≡ w.accounts → ⊥) → IsLeftByCrash w (refused ∷ made ∷ []) end trees → ShowsIn trees end.accounts
  not_behind_a_change changed (inl shown) = shown
  not_behind_a_change changed (inr left) = by left.tried.some left.tried.front left.tried.leads
    where
      by : (some : List (Act Note)) → some ++ left.tried.act ∷ left.tried.rest ≡ refused ∷ made ∷ [] → LeadsOn w some left.tried.before → ShowsIn trees end.accounts
      by [] is leads =
          let same : left.tried.act ≡ refused = cc in
          let tried : TriesAt left.tried.before refused left.tried.after left.events left.met = subst (λ a. TriesAt left.tried.before a left.tried.after left.events left.met) same left.tried.tries in
          let was : left.met ≡ w = tried.1.met_is ∙ (no_run left.tried.before tried.1.done.between tried.1.done.told tried.1.done.theirs ∙ leads) in
          absurd (changed (tried_same w (refused ∷ made ∷ []) end left.events left.met left.tried ∙ ap (λ (x : World). x.accounts) was))
      by (first ∷ []) is leads =
          let same : left.tried.act ≡ made = cc in
          let tried : TriesAt left.tried.before made left.tried.after left.events left.met = subst (λ a. TriesAt left.tried.before a left.tried.after left.events left.met) same left.tried.tries in
          absurd tried.1.refused
      by (first ∷ second ∷ some) is leads = let none : some ++ left.tried.act ∷ left.tried.rest ≡ [] = cc in no_more left.tried.act some left.tried.rest none
