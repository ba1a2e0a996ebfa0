use Rattle.std.proofs.Common.{◌∙◌}
use Rattle.mail_words.proofs.TestLemmas.{mark_found}
use Rattle.mail_words.proofs.encoding.has_mark.Goals as goal

pub returns : goal.returns
returns c = c.is_some.ensures ∙ mark_found c.args.text.now c.find.result c.find.ensures
