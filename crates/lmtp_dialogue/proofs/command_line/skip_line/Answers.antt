use Rattle.std.proofs.Common.{inl, inr, arith}
use Rattle.lmtp_dialogue.proofs.LineLemmas.{line_at, no_end_in}
use Rattle.lmtp_dialogue.proofs.command_line.skip_line.Goals as goal

pub returns-in-Some-clause-skips : goal.returns-in-Some-clause-skips
returns-in-Some-clause-skips c =
    let at = c.in-Some.ensures in
    inl (line_at c.args.octets.now c.in-Some.count at.0.before at.1, at.1.fits)

pub returns-in-None-clause-skips : goal.returns-in-None-clause-skips
returns-in-None-clause-skips c = inr (no_end_in c.args.octets.now _ (omega arith) c.in-None.ensures, c.saturating_sub.ensures)
