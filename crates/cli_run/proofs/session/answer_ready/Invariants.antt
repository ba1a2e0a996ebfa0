-- What stood ready was answered so far.
use Rattle.std.proofs.Common.{◌≡◌, None, IsTrue}
use Rattle.sqlite.specs.Held.{state}
use Rattle.store_accounts.specs.Account.{Accounts}
use Rattle.store_accounts.specs.Schema.{no_schema}
use Rattle.cli_run.specs.Serving.{RoundsAnswer, AreSeen, HasGiven, HasOpenStore, Unstopped, StoodReady}
use Rattle.cli_run.specs.Streams.{InTurn}
use Rattle.cli_run.proofs.session.answer_ready.Given as goal
use Rattle.cli_run.specs.Transitions.{from_to}

abbrev pub invariant-loop : goal.invariant-loop
invariant-loop g l = record {
  answered : IsTrue g.K.Keeper.tells → (accounts : Accounts) → AreSeen (HasGiven g.K.Keeper.gives g.K.Keeper.will_wait l.location) (λ s. (state g.K.S.Store s).now) (g.K.Keeper.holds l.initial.keeper) l.initial.store accounts
      → RoundsAnswer Unstopped (HasOpenStore g.K.Keeper.gives g.K.Keeper.will_wait l.location l.store) accounts (from_to l.initial.session.client l.session.client) (from_to l.initial.answers l.answers) (AreSeen (HasGiven g.K.Keeper.gives g.K.Keeper.will_wait l.location) (λ s. (state g.K.S.Store s).now) (g.K.Keeper.holds l.keeper) l.store);
  none : IsTrue g.K.Keeper.tells → (g.K.Keeper.holds l.initial.keeper).schema ≡ no_schema → l.initial.store ≡ None → (g.K.Keeper.holds l.keeper ≡ g.K.Keeper.holds l.initial.keeper) × (l.store ≡ None);
  turns : InTurn StoodReady l.initial.session.client l.counter l.session.client;
  closed : g.K.Keeper.unclosed l.keeper ≡ g.K.Keeper.unclosed l.initial.keeper;
}
