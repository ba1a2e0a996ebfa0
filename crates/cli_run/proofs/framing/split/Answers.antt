use Rattle.std.proofs.Common.{length, arith, ap, sym, ◌∙◌, take, drop, length-append}
use Rattle.std.proofs.Math.Seq.{take-append_seam, drop-append_seam}
use Rattle.cli_run.proofs.FramingLemmas.{counts_only}
use Rattle.cli_run.proofs.framing.split.Goals as goal

pub returns-in_err-count-clause-none : goal.returns-in_err-count-clause-none
returns-in_err-count-clause-none c = rw c.from_residual.ensures (λ script message framed. c.in_err-count.ensures _ _ framed)

pub returns-then-count-rest-clause-none : goal.returns-then-count-rest-clause-none
returns-then-count-rest-clause-none c script message framed =
    let same = counts_only c.args.input.now _ _ _ _ framed c.in_ok-count.ensures in
    omega (arith, same.0, ap length same.1, length-append script message, c.if-count-rest.true)

pub returns-clause-only : goal.returns-clause-only
returns-clause-only c script message framed =
    let same = counts_only c.args.input.now _ _ _ _ framed c.in_ok-count.ensures in
    let cut = c.split_at.ensures in (
      sym (cut.front ∙ ap (λ n. take n c.in_ok-count.rest.now) (sym same.0) ∙ ap (take (length script)) (sym same.1) ∙ take-append_seam script message),
      sym (cut.back ∙ ap (λ n. drop n c.in_ok-count.rest.now) (sym same.0) ∙ ap (drop (length script)) (sym same.1) ∙ drop-append_seam script message),
    )
