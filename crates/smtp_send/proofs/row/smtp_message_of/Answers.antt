use Rattle.std.proofs.Common.{subst}
use Rattle.smtp_dialogue.specs.Messages.{LeavesPath}
use Rattle.smtp_send.proofs.row.smtp_message_of.Goals as goal

pub returns : goal.returns
returns c = record {
  sender = c.as_slice.ensures;
  target = c.as_slice-2.ensures;
  text = subst (λ message. LeavesPath message c.without_path.result.now) c.as_slice-3.ensures c.without_path.ensures;
}
