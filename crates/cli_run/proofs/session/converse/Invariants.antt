-- The session is served so far, from where it was served when it began.
use Rattle.std.proofs.Common.{◌≡◌, ℕ, List, Option, false, IsTrue}
use Rattle.store_accounts.specs.Account.{Accounts}
use Rattle.store_accounts.specs.Schema.{no_schema}
use Rattle.cli_run.specs.Serving.{IsTold, Served, StopsServing, Unstopped, WasOut}
use Rattle.cli_run.specs.Streams.{ReadGoesOn, InTurn}
use Rattle.cli_run.proofs.ServingLemmas.{ToldSoFar}
use Rattle.cli_run.proofs.session.converse.Given as goal
use Rattle.cli_run.specs.Transitions.{from_to}

abbrev pub invariant-loop : goal.invariant-loop
invariant-loop g l = record {
  reads : InTurn (ReadGoesOn g.R.Read.remaining) l.initial.input l.counter l.input;
  live : l.session.client.closed ≡ false;
  back : g.K.Keeper.is_out l.initial.keeper ≡ false → g.K.Keeper.is_out l.keeper ≡ false;
  served : IsTrue g.K.Keeper.tells → g.K.Keeper.is_out l.initial.keeper ≡ false → (accounts : Accounts) (first_in first_out : Option (List ℕ))
      → Served Unstopped ⊥ accounts (from_to first_in (g.R.Read.remaining l.initial.input)) (from_to first_out (g.W.Write.contents l.initial.output)) l.initial.session.client (g.K.Keeper.holds l.initial.keeper)
      → Served (StopsServing g.K.Keeper.refuses g.K.Keeper.will_wait l.location (IsTold (g.E.Write.contents l.initial.errors) (g.E.Write.contents l.errors))) (WasOut g.K.Keeper.gives g.K.Keeper.will_wait g.K.Keeper.closes l.location (IsTold (g.E.Write.contents l.initial.errors) (g.E.Write.contents l.errors))) accounts (from_to first_in (g.R.Read.remaining l.input)) (from_to first_out (g.W.Write.contents l.output)) l.session.client (g.K.Keeper.holds l.keeper);
  told : ToldSoFar (g.E.Write.contents l.initial.errors) (g.E.Write.contents l.errors) l.first_fault;
  none : IsTrue g.K.Keeper.tells → (g.K.Keeper.holds l.initial.keeper).schema ≡ no_schema → (g.K.Keeper.holds l.keeper).schema ≡ no_schema;
}
