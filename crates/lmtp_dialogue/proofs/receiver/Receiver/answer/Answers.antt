use Rattle.std.proofs.Common.{ap, inl, inr}
use Rattle.lmtp_dialogue.specs.Receivers.{reads_lines}
use Rattle.lmtp_dialogue.proofs.AnswerLemmas.{no_lines, no_lines_next}
use Rattle.lmtp_dialogue.proofs.receiver.Receiver.answer.Goals as goal

pub returns-in-Asking-clause-ok : goal.returns-in-Asking-clause-ok
returns-in-Asking-clause-ok c =
    no_lines c.args.self.now c.args.out.now (elim c.in-Asking.is [
      | inl asking ↦ ap reads_lines asking
      | inr (inl sending) ↦ ap reads_lines sending
      | inr (inr over) ↦ ap reads_lines over
    ])

pub returns-in-Asking-clause-line : goal.returns-in-Asking-clause-line
returns-in-Asking-clause-line c =
    no_lines_next c.args.self.now c.args.out.now (elim c.in-Asking.is [
      | inl asking ↦ ap reads_lines asking
      | inr (inl sending) ↦ ap reads_lines sending
      | inr (inr over) ↦ ap reads_lines over
    ])
