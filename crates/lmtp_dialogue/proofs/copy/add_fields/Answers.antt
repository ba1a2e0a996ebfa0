use Rattle.lmtp_dialogue.proofs.CopyLemmas.{five}
use Rattle.lmtp_dialogue.proofs.copy.add_fields.Goals as goal

pub returns : goal.returns
returns c =
    five _ _ _ _ _ _ _ _ _ _ _ c.in_ok-extend_from_slice.ensures.ok c.in_ok-extend_from_slice-2.ensures.ok c.in_ok-extend_from_slice-3.ensures.ok
    c.in_ok-extend_from_slice-4.ensures.ok c.in_ok-extend_from_slice-5.ensures.ok
