use Rattle.std.proofs.Common.{rules}
use Rattle.std.proofs.lemmas.Iterator.Search.{all_from_yields_List}
use Rattle.std.proofs.lemmas.Iterator.Splits.{YieldsList-from_slice_split}
use Rattle.smtp_dialogue.specs.Addresses.{is_dot}
use Rattle.smtp_dialogue.specs.Mailboxes as s
use Rattle.smtp_dialogue.proofs.mailbox.is_domain.Goals as goal

pub returns : goal.returns
returns c =
    all_from_yields_List s.is_label _ _ _ c.all.ensures.ran
    (YieldsList-from_slice_split _ is_dot c.args.text.now c.split.ensures.rest c.split.ensures.done c.split.ensures.closure (λ x b q k. search rules))
    (λ x b q k. search rules)
