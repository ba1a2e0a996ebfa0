-- The message was read in a store that was taken and handed back, and then printed.
use Rattle.std.proofs.Common.{◌≡◌, Option, None, Some, Result, Ok, refl, sym, subst, rules}
use Rattle.store_accounts.specs.Account.{row_with}
use Rattle.store_accounts.specs.declared.refusal.Refusal.TheVariants.{NoRow}
use Rattle.cli_run.specs.Serving.{HasDenied}
use Rattle.cli_run.specs.Values.{IsNoNumber}
use Rattle.cli_run.specs.Draining.{TurnsTables}
use Rattle.cli_run.specs.Subcommands.{FindsIn, ShowsOutgoing, LacksOutgoing}
use Rattle.store_accounts.specs.declared.queue.QueuedMessage.{QueuedMessage}
use Rattle.cli_run.specs.declared.fault.RunFault.{RunFault}
use Rattle.cli_run.specs.declared.fault.RunFault.TheVariants.{Refused}
use Rattle.cli_run.proofs.WordLemmas.{read_hindered, read_refused, read_lacks, read_shown, wrong}
use Rattle.cli_run.proofs.queue.run_queued.Goals as goal

pub returns-in_err-id-clause-does : goal.returns-in_err-id-clause-does
returns-in_err-id-clause-does g c tells =
    let digits = c.args.id.now in
    read_hindered (IsNoNumber digits) (HasDenied g.K.Keeper.refuses g.K.Keeper.will_wait c.args.location) c.args.user.now (ShowsOutgoing digits) (LacksOutgoing digits) (g.W.Write.contents c.args.output.now)
    (g.K.Keeper.holds c.args.keeper.now) c.in_err-id.field-0.0 c.from_residual.result (search rules) (wrong ⊥ (IsNoNumber digits) (HasDenied g.K.Keeper.refuses g.K.Keeper.will_wait c.args.location) _ c.in_err-id.ensures.fault c.in_err-id.ensures.none)

pub returns-in_err-row-clause-does : goal.returns-in_err-row-clause-does
returns-in_err-row-clause-does g c tells =
    let digits = c.args.id.now in
    read_refused (IsNoNumber digits) (HasDenied g.K.Keeper.refuses g.K.Keeper.will_wait c.args.location) c.args.user.now (ShowsOutgoing digits) (LacksOutgoing digits)
    (λ row a. row ≡ row_with c.in_ok-id.id a.queue) (g.K.Keeper.holds c.args.keeper.now) (g.K.Keeper.holds c.read_once.new.keeper)
    c.in_ok-id.ensures.right (g.W.Write.contents c.args.output.now) c.in_err-row.field-0.0 c.from_residual-in_err-row.result (search rules) (c.in_err-row.ensures.found tells)

pub returns-in_default-clause-does : goal.returns-in_default-clause-does
returns-in_default-clause-does g c tells =
    let digits = c.args.id.now in
    let id = c.in_ok-id.id in
    let Found = λ (r : Result (Option QueuedMessage) RunFault). TurnsTables (λ accounts later. (later ≡ accounts) × FindsIn (HasDenied g.K.Keeper.refuses g.K.Keeper.will_wait c.args.location) c.args.user.now (λ row a. row ≡ row_with id a.queue) r accounts)
    (g.K.Keeper.holds c.args.keeper.now) (g.K.Keeper.holds c.read_once.new.keeper) in
    let found = subst (λ o. Found (Ok o)) c.in_default.is (c.in_ok-row.ensures.found tells) in
    read_lacks (IsNoNumber digits) (HasDenied g.K.Keeper.refuses g.K.Keeper.will_wait c.args.location) c.args.user.now (ShowsOutgoing digits) (LacksOutgoing digits)
    (λ row a. row ≡ row_with id a.queue) (g.K.Keeper.holds c.args.keeper.now) (g.K.Keeper.holds c.read_once.new.keeper) None (Refused NoRow)
    (λ a none. (refl, (id, c.in_ok-id.ensures.ok, sym none))) found (g.W.Write.contents c.args.output.now) _ refl

pub returns-clause-does : goal.returns-clause-does
returns-clause-does g c tells =
    let digits = c.args.id.now in
    let id = c.in_ok-id.id in
    let row = c.in-Some.row in
    let text : c.as_slice.result.now ≡ row.message = search rules in
    let Found = λ (r : Result (Option QueuedMessage) RunFault). TurnsTables (λ accounts later. (later ≡ accounts) × FindsIn (HasDenied g.K.Keeper.refuses g.K.Keeper.will_wait c.args.location) c.args.user.now (λ row a. row ≡ row_with id a.queue) r accounts)
    (g.K.Keeper.holds c.args.keeper.now) (g.K.Keeper.holds c.read_once.new.keeper) in
    let found = subst (λ o. Found (Ok o)) c.in-Some.is (c.in_ok-row.ensures.found tells) in
    read_shown (IsNoNumber digits) (HasDenied g.K.Keeper.refuses g.K.Keeper.will_wait c.args.location) c.args.user.now (ShowsOutgoing digits) (LacksOutgoing digits)
    (λ found a. found ≡ row_with id a.queue) (g.K.Keeper.holds c.args.keeper.now) (g.K.Keeper.holds c.read_once.new.keeper) (Some row) c.as_slice.result.now
    (λ a has. (id, row, c.in_ok-id.ensures.ok, sym has, text)) found (g.W.Write.contents c.args.output.now) (g.W.Write.contents c.write_all.new.output)
    c.write_all.result c.write_all.ensures
