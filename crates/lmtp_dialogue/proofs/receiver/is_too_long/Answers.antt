use Rattle.lmtp_dialogue.proofs.LineLemmas.{one_found}
use Rattle.lmtp_dialogue.specs.declared.command_line.Found.TheVariants.{TooLong}
use Rattle.lmtp_dialogue.proofs.receiver.is_too_long.Goals as goal

pub returns-in_default : goal.returns-in_default
returns-in_default c =
    (λ holds. absurd (cc holds), λ found. absurd (c.in_default.not-TooLong (one_found c.find_line.result TooLong c.args.octets.now c.find_line.ensures found)))
