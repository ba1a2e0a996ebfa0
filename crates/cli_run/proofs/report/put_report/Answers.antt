-- Four texts in turn, each perhaps empty.
use Rattle.std.proofs.Common.{◌++◌, Ok, Err, map, subst, sym, rules}
use Rattle.std.specs.List.{flat_map}
use Rattle.cli_reports.specs.Reports.{file_line, send_line, ended_line}
use Rattle.cli_run.specs.Faults.{IsTextPut}
use Rattle.cli_run.proofs.ReportLemmas.{filed, sent, replied, noticed, in_parts}
use Rattle.cli_run.proofs.StreamLemmas.{put_cut, put_then}
use Rattle.cli_run.proofs.report.put_report.Goals as goal

pub returns-in_err-put_lines : goal.returns-in_err-put_lines
returns-in_err-put_lines g c =
    let r = c.args.report.now in
    let a = g.W.Write.contents c.args.output.now in
    let b = g.W.Write.contents c.put_lines.new.output in
    let fault = c.in_err-put_lines.field-0.0 in
    let one = subst (λ l. IsTextPut (Err fault) a b (flat_map ended_line (map file_line l))) c.as_slice.ensures c.in_err-put_lines.ensures in
    subst (IsTextPut c.from_residual.result a b) (sym (in_parts r)) (put_cut a b (filed r) (sent r ++ (replied r ++ noticed r)) fault c.from_residual.result (search rules) one)

pub returns-in_err-put_lines-2 : goal.returns-in_err-put_lines-2
returns-in_err-put_lines-2 g c =
    let r = c.args.report.now in
    let a = g.W.Write.contents c.args.output.now in
    let b = g.W.Write.contents c.put_lines.new.output in
    let d = g.W.Write.contents c.put_lines-2.new.output in
    let fault = c.in_err-put_lines-2.field-0.0 in
    let one = subst (λ l. IsTextPut (Ok tt) a b (flat_map ended_line (map file_line l))) c.as_slice.ensures c.in_ok-put_lines.ensures in
    let two = subst (λ l. IsTextPut (Err fault) b d (flat_map ended_line (map send_line l))) c.as_slice-2.ensures c.in_err-put_lines-2.ensures in
    let q = c.from_residual-in_err-put_lines-2.result in
    subst (IsTextPut q a d) (sym (in_parts r)) (put_then a b d (filed r) (sent r ++ (replied r ++ noticed r)) q one (put_cut b d (sent r) (replied r ++ noticed r) fault q (search rules) two))

pub returns-in_err-put_vacation : goal.returns-in_err-put_vacation
returns-in_err-put_vacation g c =
    let r = c.args.report.now in
    let a = g.W.Write.contents c.args.output.now in
    let b = g.W.Write.contents c.put_lines.new.output in
    let d = g.W.Write.contents c.put_lines-2.new.output in
    let e = g.W.Write.contents c.put_vacation.new.output in
    let fault = c.in_err-put_vacation.field-0.0 in
    let one = subst (λ l. IsTextPut (Ok tt) a b (flat_map ended_line (map file_line l))) c.as_slice.ensures c.in_ok-put_lines.ensures in
    let two = subst (λ l. IsTextPut (Ok tt) b d (flat_map ended_line (map send_line l))) c.as_slice-2.ensures c.in_ok-put_lines-2.ensures in
    let q = c.from_residual-in_err-put_vacation.result in
    subst (IsTextPut q a e) (sym (in_parts r)) (put_then a b e (filed r) (sent r ++ (replied r ++ noticed r)) q one (put_then b d e (sent r) (replied r ++ noticed r) q two (put_cut d e (replied r) (noticed r) fault q (search rules) c.in_err-put_vacation.ensures)))

pub returns : goal.returns
returns g c =
    let r = c.args.report.now in
    let a = g.W.Write.contents c.args.output.now in
    let b = g.W.Write.contents c.put_lines.new.output in
    let d = g.W.Write.contents c.put_lines-2.new.output in
    let e = g.W.Write.contents c.put_vacation.new.output in
    let f = g.W.Write.contents c.put_notice.new.output in
    let one = subst (λ l. IsTextPut (Ok tt) a b (flat_map ended_line (map file_line l))) c.as_slice.ensures c.in_ok-put_lines.ensures in
    let two = subst (λ l. IsTextPut (Ok tt) b d (flat_map ended_line (map send_line l))) c.as_slice-2.ensures c.in_ok-put_lines-2.ensures in
    let q = c.put_notice.result in
    subst (IsTextPut q a f) (sym (in_parts r)) (put_then a b f (filed r) (sent r ++ (replied r ++ noticed r)) q one (put_then b d f (sent r) (replied r ++ noticed r) q two (put_then d e f (replied r) (noticed r) q c.in_ok-put_vacation.ensures c.put_notice.ensures)))
