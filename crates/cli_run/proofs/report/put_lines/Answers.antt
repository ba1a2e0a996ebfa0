-- A line more, or it broke off.
use Rattle.std.proofs.Common.{◌≡◌, ◌+◌, ◌++◌, Err, drop, map, subst, rules}
use Rattle.std.specs.List.{flat_map}
use Rattle.cli_reports.specs.Reports.{ended_line}
use Rattle.cli_run.specs.Faults.{IsTextPut}
use Rattle.cli_run.proofs.ReportLemmas.{line_more}
use Rattle.cli_run.proofs.StreamLemmas.{put_cut, put_then, written_on}
use Rattle.cli_run.proofs.report.put_lines.Goals as goal

pub returns-in_err-put_line : goal.returns-in_err-put_line
returns-in_err-put_line g c =
    let old = g.W.Write.contents c.args.output.now in
    let mid = g.W.Write.contents c.loop-text.output in
    let new = g.W.Write.contents c.put_line.new.output in
    let (front, before, all) = c.loop-text.invariant in
    let line = ended_line (c.args.word.now ++ c.as_slice.result.now) in
    let left = flat_map ended_line (map (λ text. c.args.word.now ++ text) (drop (c.loop-text.text-index + 1) c.args.texts.now)) in
    let whole : (front ++ line) ++ left ≡ flat_map ended_line (map (λ text. c.args.word.now ++ text) c.args.texts.now) =
    line_more c.args.word.now c.text-item.result c.as_slice.result.now front _ c.args.texts.now c.loop-text.text-index c.loop-text-test.true c.text-item.is c.as_slice.ensures all in
    let fault = c.in_err-put_line.field-0.0 in
    subst (IsTextPut c.from_residual.result old new) whole (put_cut old new (front ++ line) left fault c.from_residual.result (search rules) (put_then old mid new front line (Err fault) before c.in_err-put_line.ensures))

pub loop-text-preserved : goal.loop-text-preserved
loop-text-preserved g c =
    let (front, before, all) = c.loop-text.invariant in
    (front ++ ended_line (c.args.word.now ++ c.as_slice.result.now), written_on _ _ _ front _ before c.in_ok-put_line.ensures, line_more c.args.word.now c.text-item.result c.as_slice.result.now front _ c.args.texts.now c.loop-text.text-index c.loop-text-test.true c.text-item.is c.as_slice.ensures all)
