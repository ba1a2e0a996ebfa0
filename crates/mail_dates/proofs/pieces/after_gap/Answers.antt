use Rattle.std.proofs.Common.{◌≡◌, ◌==◌, ◌&&◌, not, false, Some, get_or, ap, sym, ◌∙◌, arith}
use Rattle.mail_dates.specs.Gaps.{opens_gap}
use Rattle.mail_dates.proofs.GapLaws.{gap_stop, loop_kept, loop_done, loop_lost, stops_at, stays_open, stays_inside, rest_of}
use Rattle.mail_dates.proofs.pieces.after_gap.Goals as goal
use Rattle.mail_dates.proofs.pieces.after_gap.Goals.{else-depth-eq0-via-then-depth-eq0+else-not-opens_gap, else-depth-eq0-via-else-depth-eq0}

pub returns-then-not-opens_gap : goal.returns-then-not-opens_gap
returns-then-not-opens_gap c =
    let text = c.args.text.now in
    let i = c.loop-i.i in
    let stops = stops_at c.loop-i.depth (get_or text i 0) c.opens_gap.result c.if-depth-eq0.true c.opens_gap.ensures c.if-not-opens_gap.true in
    sym c.loop-i.invariant.1 ∙ (gap_stop text i c.loop-i.depth c.loop-i.escaped c.loop-i-test.true stops ∙ ap Some (sym (rest_of text i)))

pub loop-i-preserved : goal.loop-i-preserved
loop-i-preserved c =
    let text = c.args.text.now in
    let i = c.loop-i.i in
    let depth = c.loop-i.depth in
    let stays : (depth == 0 && not (opens_gap (get_or text i 0))) ≡ false = elim c.else-depth-eq0.branch [
      | else-depth-eq0-via-then-depth-eq0+else-not-opens_gap w ↦ stays_open depth (get_or text i 0) w.opens_gap.result w.if-depth-eq0.true w.opens_gap.ensures w.if-not-opens_gap.false
      | else-depth-eq0-via-else-depth-eq0 w ↦ stays_inside depth (get_or text i 0) w.if-depth-eq0.false
    ] in
    (omega arith, loop_kept text i depth c.loop-i.escaped c.next_state-deeper.result _ c.loop-i-test.true stays c.next_state-deeper.ensures.is c.loop-i.invariant.1)

pub returns-then-depth-eq0-2 : goal.returns-then-depth-eq0-2
returns-then-depth-eq0-2 c = loop_done c.args.text.now c.loop-i.i c.loop-i.depth c.loop-i.escaped _ c.loop-i-test.false c.if-depth-eq0-2.true c.loop-i.invariant.1

pub returns-else-depth-eq0-2 : goal.returns-else-depth-eq0-2
returns-else-depth-eq0-2 c = loop_lost c.args.text.now c.loop-i.i c.loop-i.depth c.loop-i.escaped _ c.loop-i-test.false c.if-depth-eq0-2.false c.loop-i.invariant.1
