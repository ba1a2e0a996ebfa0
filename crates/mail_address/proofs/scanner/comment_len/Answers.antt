use Rattle.std.proofs.Common.{add-one, sym, ◌∙◌, arith}
use Rattle.mail_address.proofs.Scanning.{pair_step, backslash_step, opening_step, closing_step, other_step}
use Rattle.mail_address.proofs.scanner.comment_len.Goals as goal
use Rattle.mail_address.proofs.scanner.comment_len.Goals.{then-escaped, else-escaped+then-octet-eq92, else-escaped+else-octet-eq92+then-octet-eq40, else-escaped+else-octet-eq92+else-octet-eq40+then-octet-eq41+else-depth-eq0, else-escaped+else-octet-eq92+else-octet-eq40+else-octet-eq41}

pub loop-i-preserved : goal.loop-i-preserved
loop-i-preserved c =
    let text = c.args.inside.now in
    let i = c.loop-i.i in
    let depth = c.loop-i.depth in
    let inside = c.loop-i-test.true in
    elim c.if-escaped.branch [
      | then-escaped w ↦ (omega arith, rw (w.depth-is, w.escaped-is) (sym (pair_step text i inside depth) ∙ (rw w.if-escaped.true at c.loop-i.invariant.1)))
      | else-escaped+then-octet-eq92 w ↦ (omega arith, rw (w.depth-is, w.escaped-is) (sym (backslash_step text i inside depth w.if-octet-eq92.true) ∙ (rw w.if-escaped.false at c.loop-i.invariant.1)))
      | else-escaped+else-octet-eq92+then-octet-eq40 w ↦ (omega arith, rw (w.depth-is, w.escaped-is, w.if-escaped.false, add-one depth) (sym (opening_step text i inside depth w.if-octet-eq92.false w.if-octet-eq40.true) ∙ (rw w.if-escaped.false at c.loop-i.invariant.1)))
      | else-escaped+else-octet-eq92+else-octet-eq40+then-octet-eq41+else-depth-eq0 w ↦ (omega arith, rw (w.depth-is, w.escaped-is, w.if-escaped.false) (sym (closing_step text i inside depth w.if-depth-eq0.false w.if-octet-eq92.false w.if-octet-eq40.false w.if-octet-eq41.true) ∙ (rw w.if-escaped.false at c.loop-i.invariant.1)))
      | else-escaped+else-octet-eq92+else-octet-eq40+else-octet-eq41 w ↦ (omega arith, rw (w.depth-is, w.escaped-is, w.if-escaped.false) (sym (other_step text i inside depth w.if-octet-eq92.false w.if-octet-eq40.false w.if-octet-eq41.false) ∙ (rw w.if-escaped.false at c.loop-i.invariant.1)))
    ]
