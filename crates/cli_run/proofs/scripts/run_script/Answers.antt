-- The script was read in a store that was taken and handed back, and then printed.
use Rattle.std.proofs.Common.{◌≡◌, ℕ, List, Option, None, Some, Result, Ok, refl, sym, ◌∙◌, ap, subst, rules}
use Rattle.std.specs.FinMap.{get}
use Rattle.cli_run.specs.Serving.{HasDenied}
use Rattle.cli_run.specs.Draining.{TurnsTables}
use Rattle.cli_run.specs.Subcommands.{FindsIn, ShowsScript, LacksScript}
use Rattle.cli_run.specs.declared.fault.RunFault.{RunFault}
use Rattle.cli_run.specs.declared.fault.RunFault.TheVariants.{NoScript}
use Rattle.cli_run.proofs.WordLemmas.{read_refused, read_lacks, read_shown}
use Rattle.cli_run.proofs.scripts.run_script.Goals as goal

pub returns-in_err-text-clause-does : goal.returns-in_err-text-clause-does
returns-in_err-text-clause-does g c tells =
    let name = c.args.name.now in
    read_refused ⊥ (HasDenied g.K.Keeper.refuses g.K.Keeper.will_wait c.args.location) c.args.user.now (ShowsScript name) (LacksScript name)
    (λ text a. text ≡ get a.scripts name) (g.K.Keeper.holds c.args.keeper.now) (g.K.Keeper.holds c.read_once.new.keeper)
    (λ no. no) (g.W.Write.contents c.args.output.now) c.in_err-text.field-0.0 c.from_residual.result (search rules) (c.in_err-text.ensures.found tells)

pub returns-in_default-clause-does : goal.returns-in_default-clause-does
returns-in_default-clause-does g c tells =
    let name = c.args.name.now in
    let Found = λ (r : Result (Option (List ℕ)) RunFault). TurnsTables (λ accounts later. (later ≡ accounts) × FindsIn (HasDenied g.K.Keeper.refuses g.K.Keeper.will_wait c.args.location) c.args.user.now (λ text a. text ≡ get a.scripts name) r accounts)
    (g.K.Keeper.holds c.args.keeper.now) (g.K.Keeper.holds c.read_once.new.keeper) in
    let found = subst (λ o. Found (Ok o)) c.in_default.is (c.in_ok-text.ensures.found tells) in
    read_lacks ⊥ (HasDenied g.K.Keeper.refuses g.K.Keeper.will_wait c.args.location) c.args.user.now (ShowsScript name) (LacksScript name)
    (λ text a. text ≡ get a.scripts name) (g.K.Keeper.holds c.args.keeper.now) (g.K.Keeper.holds c.read_once.new.keeper) None NoScript
    (λ a none. (refl, sym none)) found (g.W.Write.contents c.args.output.now) _ refl

pub returns-clause-does : goal.returns-clause-does
returns-clause-does g c tells =
    let name = c.args.name.now in
    let text = c.in-Some.text in
    let same : c.as_slice.result.now ≡ text = search rules in
    let Found = λ (r : Result (Option (List ℕ)) RunFault). TurnsTables (λ accounts later. (later ≡ accounts) × FindsIn (HasDenied g.K.Keeper.refuses g.K.Keeper.will_wait c.args.location) c.args.user.now (λ text a. text ≡ get a.scripts name) r accounts)
    (g.K.Keeper.holds c.args.keeper.now) (g.K.Keeper.holds c.read_once.new.keeper) in
    let found = subst (λ o. Found (Ok o)) c.in-Some.is (c.in_ok-text.ensures.found tells) in
    read_shown ⊥ (HasDenied g.K.Keeper.refuses g.K.Keeper.will_wait c.args.location) c.args.user.now (ShowsScript name) (LacksScript name)
    (λ found a. found ≡ get a.scripts name) (g.K.Keeper.holds c.args.keeper.now) (g.K.Keeper.holds c.read_once.new.keeper) (Some text) c.as_slice.result.now
    (λ a has. sym has ∙ ap Some (sym same)) found (g.W.Write.contents c.args.output.now) (g.W.Write.contents c.write_all.new.output)
    c.write_all.result c.write_all.ensures
