-- The account was read, put to the machine, and the line is printed after that.
use Rattle.std.proofs.Common.{◌≡◌, ◌++◌, Ok, Err, codes, ap, rules}
use Rattle.store_engine.specs.declared.answer.Answer.TheVariants.{Imported}
use Rattle.store_engine.specs.declared.event.Event.TheVariants.{Import}
use Rattle.cli_reports.specs.Reports.{ended_line}
use Rattle.std.specs.Option.{option_copied}
use Rattle.cli_run.specs.Serving.{HasDenied}
use Rattle.cli_run.specs.Streams.{InputFailed}
use Rattle.cli_run.specs.Subcommands.{IsImportEvent, DeniedAtEnd}
use Rattle.cli_run.proofs.ImportLemmas.{import_as_event, import_unread}
use Rattle.cli_run.proofs.WordLemmas.{event_made, event_unmade, put_at_end}
use Rattle.cli_run.proofs.import.run_import.Goals as goal

pub returns-in_err-file-clause-does : goal.returns-in_err-file-clause-does
returns-in_err-file-clause-does g c tells =
    let left = g.R.Read.remaining c.read_file.new.input in
    let Denied = DeniedAtEnd (HasDenied g.K.Keeper.refuses g.K.Keeper.will_wait c.args.asked.location) left in
    import_unread Denied (option_copied c.args.asked.name) (g.R.Read.remaining c.args.input.now) (g.W.Write.contents c.args.output.now) (g.K.Keeper.holds c.args.keeper.now) c.in_err-file.field-0.0 c.from_residual.result (search rules) c.in_err-file.ensures.fault

pub returns-in_err-add_file-clause-does : goal.returns-in_err-add_file-clause-does
returns-in_err-add_file-clause-does g c tells =
    let Kept = HasDenied g.K.Keeper.refuses g.K.Keeper.will_wait c.args.asked.location in
    let left = g.R.Read.remaining c.read_file.new.input in
    let given = g.R.Read.remaining c.args.input.now in
    let name = option_copied c.args.asked.name in
    let out = g.W.Write.contents c.args.output.now in
    let held = g.K.Keeper.holds c.args.keeper.now in
    let new = g.K.Keeper.holds c.add_file.new.keeper in
    let fault = c.in_err-add_file.field-0.0 in
    let event = Import c.in_ok-file.file in
    import_as_event (DeniedAtEnd Kept left) name given out out held new c.from_residual-in_err-add_file.result
    (event_unmade InputFailed ⊥ (DeniedAtEnd Kept left) (IsImportEvent name given) {X = Unit {0}} event c.in_ok-file.ensures.read (λ done. Imported) held new out (λ no. no) fault c.from_residual-in_err-add_file.result (search rules)
    (put_at_end {X = Unit {0}} Kept left c.in_ok-file.ensures.end event (λ done. Imported) (Err fault) held new (c.in_err-add_file.ensures.puts tells)))

pub returns-clause-does : goal.returns-clause-does
returns-clause-does g c tells =
    let Kept = HasDenied g.K.Keeper.refuses g.K.Keeper.will_wait c.args.asked.location in
    let left = g.R.Read.remaining c.read_file.new.input in
    let given = g.R.Read.remaining c.args.input.now in
    let name = option_copied c.args.asked.name in
    let old = g.W.Write.contents c.args.output.now in
    let out = g.W.Write.contents c.write_line.new.output in
    let held = g.K.Keeper.holds c.args.keeper.now in
    let new = g.K.Keeper.holds c.add_file.new.keeper in
    let file = c.in_ok-file.file in
    let told : c.as_slice.result.now ≡ file.head.owner.name = search rules in
    import_as_event (DeniedAtEnd Kept left) name given old out held new c.write_line.result
    (event_made InputFailed ⊥ (DeniedAtEnd Kept left) (IsImportEvent name given) {X = Unit {0}} (Import file) c.in_ok-file.ensures.read (λ done. Imported) held new tt (ended_line (codes "imported " ++ c.as_slice.result.now))
    (ap (λ n. ended_line (codes "imported " ++ n)) told)
    (put_at_end {X = Unit {0}} Kept left c.in_ok-file.ensures.end (Import file) (λ done. Imported) (Ok tt) held new (c.in_ok-add_file.ensures.puts tells)) old out c.write_line.result c.write_line.ensures)
