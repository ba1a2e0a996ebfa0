-- What separates the levels is read before anything else; what is listed is what was asked for.
use Rattle.std.proofs.Common.{false, subst, sym, rules}
use Rattle.std.specs.Option.{option_copied}
use Rattle.cli_run.specs.Serving.{HasDenied}
use Rattle.cli_run.specs.Values.{HasNoSeparator}
use Rattle.cli_run.specs.Subcommands.{DoesFolders, ListsFolders, ListsDirectories, LacksNothing, directory_line}
use Rattle.cli_run.proofs.WordLemmas.{read_hindered, read_told, wrong}
use Rattle.cli_run.proofs.listing.run_folders.Goals as goal
use Rattle.cli_run.specs.Transitions.{from_to}

pub returns-in_err-separator-clause-does : goal.returns-in_err-separator-clause-does
returns-in_err-separator-clause-does g c tells =
    let Denied = HasDenied g.K.Keeper.refuses g.K.Keeper.will_wait c.args.asked.location in
    let levels = option_copied c.args.asked.separator in
    let out = g.W.Write.contents c.args.output.now in
    let held = g.K.Keeper.holds c.args.keeper.now in
    subst (λ directories. DoesFolders Denied c.args.asked.user.now directories levels (from_to out out) c.from_residual.result (from_to held held)) (sym c.if-asked.true)
    (read_hindered (HasNoSeparator levels) Denied c.args.asked.user.now (ListsDirectories levels) LacksNothing out held c.in_err-separator.field-0.0 c.from_residual.result (search rules)
    (wrong ⊥ (HasNoSeparator levels) Denied _ c.in_err-separator.ensures.fault c.in_err-separator.ensures.none))

pub returns-then-asked-clause-does : goal.returns-then-asked-clause-does
returns-then-asked-clause-does g c tells =
    let Denied = HasDenied g.K.Keeper.refuses g.K.Keeper.will_wait c.args.asked.location in
    let levels = option_copied c.args.asked.separator in
    let out = g.W.Write.contents c.args.output.now in
    let new = g.W.Write.contents c.run_listing.new.output in
    let held = g.K.Keeper.holds c.args.keeper.now in
    let left = g.K.Keeper.holds c.run_listing.new.keeper in
    let separator = c.in_ok-separator.separator in
    subst (λ directories. DoesFolders Denied c.args.asked.user.now directories levels (from_to out new) c.run_listing.result (from_to held left)) (sym c.if-asked.true)
    (read_told (HasNoSeparator levels) Denied (λ none. none separator c.in_ok-separator.ensures.ok) c.args.asked.user.now (ListsFolders (directory_line separator)) (ListsDirectories levels) (λ a text lists. (separator, c.in_ok-separator.ensures.ok, lists)) out new c.run_listing.result held left
    (c.run_listing.ensures.does tells))

pub returns-in-None-clause-does : goal.returns-in-None-clause-does
returns-in-None-clause-does g c tells =
    let Denied = HasDenied g.K.Keeper.refuses g.K.Keeper.will_wait c.args.asked.location in
    let out = g.W.Write.contents c.args.output.now in
    let new = g.W.Write.contents c.run_listing-in-None.new.output in
    let held = g.K.Keeper.holds c.args.keeper.now in
    let left = g.K.Keeper.holds c.run_listing-in-None.new.keeper in
    subst (λ directories. DoesFolders Denied c.args.asked.user.now directories (option_copied c.args.asked.separator) (from_to out new) c.run_listing-in-None.result (from_to held left)) (sym c.if-asked.false)
    (subst (λ levels. DoesFolders Denied c.args.asked.user.now false (option_copied levels) (from_to out new) c.run_listing-in-None.result (from_to held left)) (sym c.in-None.is) (c.run_listing-in-None.ensures.does tells))
