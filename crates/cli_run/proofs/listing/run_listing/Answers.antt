-- What is listed was read in a store that was taken and handed back, and then printed.
use Rattle.std.proofs.Common.{◌≡◌, sym, subst, rules}
use Rattle.cli_run.specs.Faults.{memory}
use Rattle.cli_run.specs.Serving.{HasDenied}
use Rattle.cli_run.specs.Subcommands.{LacksNothing}
use Rattle.cli_run.proofs.WordLemmas.{read_refused, read_failed, read_shown, no_memory}
use Rattle.cli_run.proofs.listing.run_listing.Goals as goal

pub returns-in_err-found-clause-does : goal.returns-in_err-found-clause-does
returns-in_err-found-clause-does g c tells =
    read_refused ⊥ (HasDenied g.K.Keeper.refuses g.K.Keeper.will_wait c.args.location) (g.Q.AccountRead.user c.args.wanted.now) (g.Q.Listing.shows c.args.wanted.now) LacksNothing
    (g.Q.AccountRead.finds c.args.wanted.now) (g.K.Keeper.holds c.args.keeper.now) (g.K.Keeper.holds c.read_once.new.keeper) (λ no. no) (g.W.Write.contents c.args.output.now)
    c.in_err-found.field-0.0 c.from_residual.result (search rules) (c.in_err-found.ensures.found tells)

pub returns-in_err-text-clause-does : goal.returns-in_err-text-clause-does
returns-in_err-text-clause-does g c tells =
    read_failed ⊥ (HasDenied g.K.Keeper.refuses g.K.Keeper.will_wait c.args.location) (g.Q.AccountRead.user c.args.wanted.now) (g.Q.Listing.shows c.args.wanted.now) LacksNothing
    (g.Q.AccountRead.finds c.args.wanted.now) (g.K.Keeper.holds c.args.keeper.now) (g.K.Keeper.holds c.read_once.new.keeper) c.in_ok-found.found memory (no_memory ⊥ ⊥ (HasDenied g.K.Keeper.refuses g.K.Keeper.will_wait c.args.location)) (c.in_ok-found.ensures.found tells)
    (g.W.Write.contents c.args.output.now) c.from_residual-in_err-text.result (search rules)

pub returns-clause-does : goal.returns-clause-does
returns-clause-does g c tells =
    let text : c.as_slice.result.now ≡ c.in_ok-text.text = search rules in
    read_shown ⊥ (HasDenied g.K.Keeper.refuses g.K.Keeper.will_wait c.args.location) (g.Q.AccountRead.user c.args.wanted.now) (g.Q.Listing.shows c.args.wanted.now) LacksNothing
    (g.Q.AccountRead.finds c.args.wanted.now) (g.K.Keeper.holds c.args.keeper.now) (g.K.Keeper.holds c.read_once.new.keeper) c.in_ok-found.found c.as_slice.result.now
    (λ a found. subst (g.Q.Listing.shows c.args.wanted.now a) (sym text) (c.in_ok-text.ensures a found)) (c.in_ok-found.ensures.found tells) (g.W.Write.contents c.args.output.now) (g.W.Write.contents c.write_all.new.output)
    c.write_all.result c.write_all.ensures
