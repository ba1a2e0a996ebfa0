use Rattle.std.proofs.Common.{sym, ◌∙◌, subst}
use Rattle.lmtp_dialogue.specs.Lines.{LineFinds}
use Rattle.lmtp_dialogue.specs.declared.command_line.Found.TheVariants.{TooLong}
use Rattle.lmtp_dialogue.proofs.ReceiverLemmas.{takes_line}
use Rattle.lmtp_dialogue.proofs.receiver.Receiver.skip_long.Goals as goal

pub returns-else-is_too_long-clause-takes : goal.returns-else-is_too_long-clause-takes
returns-else-is_too_long-clause-takes c =
    takes_line c.args.self.now c.requires c.if-self.false
    (λ found. absurd (cc (sym c.if-is_too_long.false ∙ c.is_too_long.ensures.1 (subst (LineFinds TooLong) (sym c.as_slice.ensures) found))))
