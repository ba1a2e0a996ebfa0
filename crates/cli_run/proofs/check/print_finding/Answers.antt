-- A write of the line on the fault failed.
use Rattle.std.proofs.Common.{◌≡◌, ◌≤◌, Some, Err, length, inr, subst, sym, rules}
use Rattle.std.specs.Option.{option_copied}
use Rattle.managesieve_sessions.specs.Limits.{script_limit}
use Rattle.managesieve_sessions.specs.Scripts.{IsVerdict}
use Rattle.cli_run.specs.Checks.{IsFindingLine, PrintsFinding}
use Rattle.cli_run.proofs.check.print_finding.Goals as goal

pub returns-in_err-write_all : goal.returns-in_err-write_all
returns-in_err-write_all g c =
    let file = option_copied c.args.file in
    let text = c.args.text.now in
    let old = g.W.Write.contents c.args.output.now in
    let new = g.W.Write.contents c.write_all.new.output in
    let verdict = c.in-Some.fault in
    let is : c.from_residual-in_err-write_all.result ≡ Err c.in_err-write_all.field-0.0 = search rules in
    let named = subst (λ f. IsFindingLine f text verdict c.in_ok-line.line) c.name_of.ensures c.in_ok-line.ensures in
    let line : IsFindingLine file text verdict c.as_slice.result.now = subst (λ t. IsFindingLine file text verdict t) (sym c.as_slice.ensures) named in
    let short : length text ≤ script_limit = search rules in
    let found : IsVerdict text (Some verdict) = search rules in
    subst (PrintsFinding file text old new) (sym is) (inr (inr (verdict, (short, found), (c.as_slice.result.now, line, c.in_err-write_all.ensures))))
