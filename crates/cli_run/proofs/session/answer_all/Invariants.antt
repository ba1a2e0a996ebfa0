-- Rounds led here from where the loop began.
use Rattle.std.proofs.Common.{◌≡◌, false, IsTrue}
use Rattle.store_accounts.specs.Account.{Accounts}
use Rattle.store_accounts.specs.Schema.{no_schema}
use Rattle.store_accounts.specs.Shows.{OffersAccounts}
use Rattle.cli_run.specs.Serving.{HasNoted, KeepsFirst, StopsServing, StoodReady, WasOut, RoundsWrite}
use Rattle.cli_run.specs.Streams.{InTurn}
use Rattle.cli_run.proofs.session.answer_all.Given as goal
use Rattle.cli_run.specs.Transitions.{from_to}

abbrev pub invariant-loop : goal.invariant-loop
invariant-loop g l = record {
  back : g.K.Keeper.is_out l.initial.keeper ≡ false → g.K.Keeper.is_out l.keeper ≡ false;
  written : IsTrue g.K.Keeper.tells → g.K.Keeper.is_out l.initial.keeper ≡ false → (accounts : Accounts) → OffersAccounts (g.K.Keeper.holds l.initial.keeper) accounts
      → RoundsWrite (StopsServing g.K.Keeper.refuses g.K.Keeper.will_wait l.location (HasNoted l.first_fault)) (WasOut g.K.Keeper.gives g.K.Keeper.will_wait g.K.Keeper.closes l.location (HasNoted l.first_fault)) accounts (from_to l.initial.session.client l.session.client) (from_to (g.W.Write.contents l.initial.output) (g.W.Write.contents l.output)) (g.K.Keeper.holds l.keeper);
  turns : InTurn StoodReady l.initial.session.client l.counter l.session.client;
  kept : KeepsFirst l.initial.first_fault l.first_fault;
  none : IsTrue g.K.Keeper.tells → (g.K.Keeper.holds l.initial.keeper).schema ≡ no_schema → (g.K.Keeper.holds l.keeper).schema ≡ no_schema;
}
