use Rattle.smtp_dialogue.proofs.AddressLemmas.{six_by, never_six}
use Rattle.smtp_dialogue.proofs.address.is_full_ipv4.Goals as goal

pub returns-in-Some : goal.returns-in-Some
returns-in-Some c = six_by c.args.text.now c.groups_and_ipv4.result c.in-Some.count c.in-Some.is c.groups_and_ipv4.ensures

pub returns-in-None : goal.returns-in-None
returns-in-None c = never_six c.args.text.now c.groups_and_ipv4.result c.in-None.is c.groups_and_ipv4.ensures
