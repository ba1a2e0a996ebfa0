use Rattle.std.proofs.Common.{◌∙◌}
use Rattle.std.specs.Str.{valid_up_to}
use Rattle.mail_words.proofs.TestLemmas.{utf8_found}
use Rattle.mail_words.proofs.charset.is_utf8.Goals as goal

pub returns : goal.returns
returns c = c.is_ok.ensures.value ∙ utf8_found valid_up_to c.args.octets.now c.from_utf8.result c.from_utf8.ensures.cases
