-- The message was read in a store that was taken and handed back, and then printed.
use Rattle.std.proofs.Common.{◌≡◌, ℕ, List, Option, None, Some, Result, Ok, refl, sym, subst, rules}
use Rattle.cli_run.specs.Draining.{TurnsTables}
use Rattle.cli_run.specs.Serving.{HasDenied}
use Rattle.cli_run.specs.Values.{IsNoNumber}
use Rattle.cli_run.specs.Subcommands.{FindsIn, HasMessage, ShowsMessage, LacksMessage}
use Rattle.cli_run.specs.declared.fault.RunFault.{RunFault}
use Rattle.cli_run.specs.declared.fault.RunFault.TheVariants.{NoMessage}
use Rattle.cli_run.proofs.WordLemmas.{read_hindered, read_refused, read_lacks, read_shown, wrong}
use Rattle.cli_run.proofs.commands.run_show.Goals as goal

pub returns-in_err-number-clause-does : goal.returns-in_err-number-clause-does
returns-in_err-number-clause-does g c tells =
    let digits = c.args.asked.number.now in
    read_hindered (IsNoNumber digits) (HasDenied g.K.Keeper.refuses g.K.Keeper.will_wait c.args.asked.location) c.args.asked.user.now (ShowsMessage c.args.asked.folder.now digits) (LacksMessage c.args.asked.folder.now digits) (g.W.Write.contents c.args.output.now)
    (g.K.Keeper.holds c.args.keeper.now) c.in_err-number.field-0.0 c.from_residual.result (search rules) (wrong ⊥ (IsNoNumber digits) (HasDenied g.K.Keeper.refuses g.K.Keeper.will_wait c.args.asked.location) _ c.in_err-number.ensures.fault c.in_err-number.ensures.none)

pub returns-in_err-message-clause-does : goal.returns-in_err-message-clause-does
returns-in_err-message-clause-does g c tells =
    let digits = c.args.asked.number.now in
    read_refused (IsNoNumber digits) (HasDenied g.K.Keeper.refuses g.K.Keeper.will_wait c.args.asked.location) c.args.asked.user.now (ShowsMessage c.args.asked.folder.now digits) (LacksMessage c.args.asked.folder.now digits)
    (λ message a. HasMessage c.args.asked.folder.now c.in_ok-number.number a message) (g.K.Keeper.holds c.args.keeper.now) (g.K.Keeper.holds c.read_once.new.keeper)
    c.in_ok-number.ensures.right (g.W.Write.contents c.args.output.now) c.in_err-message.field-0.0 c.from_residual-in_err-message.result (search rules) (c.in_err-message.ensures.found tells)

pub returns-in_default-clause-does : goal.returns-in_default-clause-does
returns-in_default-clause-does g c tells =
    let digits = c.args.asked.number.now in
    let number = c.in_ok-number.number in
    let Found = λ (r : Result (Option (List ℕ)) RunFault). TurnsTables (λ accounts later. (later ≡ accounts) × FindsIn (HasDenied g.K.Keeper.refuses g.K.Keeper.will_wait c.args.asked.location) c.args.asked.user.now (λ message a. HasMessage c.args.asked.folder.now number a message) r accounts)
    (g.K.Keeper.holds c.args.keeper.now) (g.K.Keeper.holds c.read_once.new.keeper) in
    let found = subst (λ o. Found (Ok o)) c.in_default.is (c.in_ok-message.ensures.found tells) in
    read_lacks (IsNoNumber digits) (HasDenied g.K.Keeper.refuses g.K.Keeper.will_wait c.args.asked.location) c.args.asked.user.now (ShowsMessage c.args.asked.folder.now digits) (LacksMessage c.args.asked.folder.now digits)
    (λ message a. HasMessage c.args.asked.folder.now number a message) (g.K.Keeper.holds c.args.keeper.now) (g.K.Keeper.holds c.read_once.new.keeper) None NoMessage
    (λ a has. (refl, (number, c.in_ok-number.ensures.ok, has))) found (g.W.Write.contents c.args.output.now) _ refl

pub returns-clause-does : goal.returns-clause-does
returns-clause-does g c tells =
    let digits = c.args.asked.number.now in
    let number = c.in_ok-number.number in
    let message = c.in-Some.message in
    let text : c.as_slice.result.now ≡ message = search rules in
    let Found = λ (r : Result (Option (List ℕ)) RunFault). TurnsTables (λ accounts later. (later ≡ accounts) × FindsIn (HasDenied g.K.Keeper.refuses g.K.Keeper.will_wait c.args.asked.location) c.args.asked.user.now (λ message a. HasMessage c.args.asked.folder.now number a message) r accounts)
    (g.K.Keeper.holds c.args.keeper.now) (g.K.Keeper.holds c.read_once.new.keeper) in
    let found = subst (λ o. Found (Ok o)) c.in-Some.is (c.in_ok-message.ensures.found tells) in
    read_shown (IsNoNumber digits) (HasDenied g.K.Keeper.refuses g.K.Keeper.will_wait c.args.asked.location) c.args.asked.user.now (ShowsMessage c.args.asked.folder.now digits) (LacksMessage c.args.asked.folder.now digits)
    (λ found a. HasMessage c.args.asked.folder.now number a found) (g.K.Keeper.holds c.args.keeper.now) (g.K.Keeper.holds c.read_once.new.keeper) (Some message) c.as_slice.result.now
    (λ a has. (number, c.in_ok-number.ensures.ok, subst (λ t. HasMessage c.args.asked.folder.now number a (Some t)) (sym text) has)) found (g.W.Write.contents c.args.output.now) (g.W.Write.contents c.write_all.new.output)
    c.write_all.result c.write_all.ensures
