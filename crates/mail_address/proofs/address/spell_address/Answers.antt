use Rattle.std.proofs.Common.{arith}
use Rattle.std.proofs.lemmas.Grind.{common_steps}
use Rattle.mail_address.proofs.Spells.{spelling-law, spelling-alone}
use Rattle.mail_address.proofs.address.spell_address.Goals as goal

pub returns-clause-spelled : goal.returns-clause-spelled
returns-clause-spelled c = grind (arith, common_steps)

pub returns-clause-again : goal.returns-clause-again
returns-clause-again c = spelling-law c.args.address.now _ (returns-clause-spelled c)

pub returns-clause-bare : goal.returns-clause-bare
returns-clause-bare c = spelling-alone c.args.address.now _ (returns-clause-spelled c)
