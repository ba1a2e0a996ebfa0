-- The text was cut behind the octets that are none of these.
use Rattle.std.proofs.Common.{sym, ◌∙◌}
use Rattle.smtp_dialogue.proofs.MailboxLemmas.{first_cut, no_cut, no_octets}
use Rattle.smtp_queue.proofs.waits_file.cut_at.Goals as goal

pub returns-in-Some-clause-found : goal.returns-in-Some-clause-found
returns-in-Some-clause-found c =
    first_cut c.args.mark c.args.text.now c.split_at.result.0.now c.in-Some.rest.now c.in-Some.field-0-0.now c.length_before-count.result c.length_before-count.ensures.value
    c.length_before-count.ensures.within c.split_at.ensures.front (sym c.split_at.ensures.back ∙ c.in-Some.ensures.cases.0)

pub returns-in-None-clause-none : goal.returns-in-None-clause-none
returns-in-None-clause-none c =
    no_cut c.args.mark c.args.text.now c.length_before-count.result c.length_before-count.ensures.value (sym c.split_at.ensures.back ∙ no_octets c.split_at.result.1.now c.in-None.ensures.cases)
