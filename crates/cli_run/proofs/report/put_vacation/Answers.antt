-- One line, or none.
use Rattle.std.proofs.Common.{◌≡◌, ◌++◌, codes, decimal, append-nil, sym, ap, ◌∙◌, subst, rules}
use Rattle.std.specs.List.{flat_map}
use Rattle.cli_reports.specs.Reports.{vacation_lines, ended_line}
use Rattle.cli_run.specs.Faults.{IsTextPut}
use Rattle.cli_run.proofs.report.put_vacation.Goals as goal

pub returns-in-Sent : goal.returns-in-Sent
returns-in-Sent g c =
    subst (λ v. IsTextPut c.put.result (g.W.Write.contents c.args.output.now) (g.W.Write.contents c.put.new.output) (flat_map ended_line (vacation_lines v))) (sym c.in-Sent.is) c.put.ensures

pub returns-in-Quiet : goal.returns-in-Quiet
returns-in-Quiet g c =
    let digits : c.as_bytes.result.now ≡ decimal c.in-Quiet.reason = search rules in
    let line = codes "vacation quiet " in
    subst (λ v. IsTextPut c.put_line.result (g.W.Write.contents c.args.output.now) (g.W.Write.contents c.put_line.new.output) (flat_map ended_line (vacation_lines v))) (sym c.in-Quiet.is)
    (subst (IsTextPut c.put_line.result (g.W.Write.contents c.args.output.now) (g.W.Write.contents c.put_line.new.output)) (ap (λ n. ended_line (line ++ n)) digits ∙ sym (append-nil (ended_line (line ++ decimal c.in-Quiet.reason)))) c.put_line.ensures)
