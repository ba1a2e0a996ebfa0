use Rattle.std.proofs.Common.{sym, ◌∙◌}
use Rattle.mail_address.proofs.Scanning.{pair_passed, backslash_passed, other_passed}
use Rattle.mail_address.proofs.scanner.enclosed_len.Goals as goal
use Rattle.mail_address.proofs.scanner.enclosed_len.Goals.{then-escaped, else-escaped+else-octet-close+then-octet-eq92, else-escaped+else-octet-close+else-octet-eq92}

pub loop-i-preserved : goal.loop-i-preserved
loop-i-preserved c =
    let text = c.args.inside.now in
    let i = c.loop-i.i in
    let inside = c.loop-i-test.true in
    elim c.if-escaped.branch [
      | then-escaped w ↦ rw w.escaped-is (sym (pair_passed text i inside c.args.close) ∙ (rw w.if-escaped.true at c.loop-i.invariant))
      | else-escaped+else-octet-close+then-octet-eq92 w ↦ rw w.escaped-is (sym (backslash_passed text i inside c.args.close w.if-octet-close.false w.if-octet-eq92.true) ∙ (rw w.if-escaped.false at c.loop-i.invariant))
      | else-escaped+else-octet-close+else-octet-eq92 w ↦ rw (w.escaped-is, w.if-escaped.false) (sym (other_passed text i inside c.args.close w.if-octet-close.false w.if-octet-eq92.false) ∙ (rw w.if-escaped.false at c.loop-i.invariant))
    ]
