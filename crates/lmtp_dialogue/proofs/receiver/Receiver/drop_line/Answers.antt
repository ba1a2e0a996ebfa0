use Rattle.std.proofs.Common.{◌≤◌, length, subst, refl}
use Rattle.lmtp_dialogue.specs.Lines.{Skips}
use Rattle.lmtp_dialogue.proofs.ReceiverLemmas.{takes_long}
use Rattle.lmtp_dialogue.proofs.receiver.Receiver.drop_line.Goals as goal

pub returns-clause-takes : goal.returns-clause-takes
returns-clause-takes c =
    let same = c.as_slice.ensures in
    takes_long c.args.self.now _ c.skip_line-count.result c.requires.lines c.requires.long refl refl c.drop_front.ensures
    (subst (λ u. c.skip_line-count.result ≤ length u) same c.skip_line-count.ensures.within)
    (subst (Skips c.skip_line-count.result) same c.skip_line-count.ensures.skips)
