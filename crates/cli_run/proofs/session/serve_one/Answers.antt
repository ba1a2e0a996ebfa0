-- A client is served as with any writer of errors, whatever is told there.
use Rattle.cli_run.specs.Serving.{StopsServing, WasOut}
use Rattle.cli_run.proofs.ServingLemmas.{closed_as, serves_as, stops_as}
use Rattle.cli_run.proofs.session.serve_one.Goals as goal

pub returns-clause-serves : goal.returns-clause-serves
returns-clause-serves g c tells idle =
    serves_as _ (StopsServing g.K.Keeper.refuses g.K.Keeper.will_wait c.args.location (Unit {0})) _ (WasOut g.K.Keeper.gives g.K.Keeper.will_wait g.K.Keeper.closes c.args.location (Unit {0})) (stops_as g.K.Keeper.refuses g.K.Keeper.will_wait c.args.location _ (Unit {0}) (λ told. tt)) (closed_as g.K.Keeper.gives g.K.Keeper.will_wait g.K.Keeper.closes c.args.location _ (Unit {0}) (λ told. tt))
    (g.R.Read.remaining c.args.input.now) (g.R.Read.remaining c.serve_client.new.input) (g.W.Write.contents c.args.output.now) (g.W.Write.contents c.serve_client.new.output) (g.K.Keeper.holds c.args.keeper.now) (g.K.Keeper.holds c.serve_client.new.keeper) c.serve_client.result
    (c.serve_client.ensures.serves tells idle)
