use Rattle.std.proofs.Common.{◌∙◌, ap, codes, map}
use Rattle.daemon_log.specs.Lines.{pair, with_pairs}
use Rattle.daemon_host.specs.Log.{notice_pairs, vacation_pairs}
use Rattle.daemon_host.proofs.LogLemmas.{four_kinds}
use Rattle.daemon_host.proofs.log.add_report.Goals as goal

pub returns : goal.returns
returns c =
    let report = c.args.report.now in
    four_kinds c.add_notice.result c.args.line.now _ _ _ _ (map (pair (codes "folder")) report.filed) (map (pair (codes "redirect")) report.sent) (vacation_pairs report.vacation)
    (notice_pairs report.notice) (c.in_ok-add_each.ensures ∙ ap (λ values. with_pairs c.args.line.now (map (pair (codes "folder")) values)) c.as_slice.ensures)
    (c.in_ok-add_each-2.ensures ∙ ap (λ values. with_pairs c.add_each.new.line (map (pair (codes "redirect")) values)) c.as_slice-2.ensures) c.in_ok-add_vacation.ensures c.add_notice.ensures
