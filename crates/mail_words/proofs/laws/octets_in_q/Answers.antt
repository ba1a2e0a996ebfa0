use Rattle.std.proofs.Common.{ap, ◌∙◌}
use Rattle.mail_words.specs.Quoted.{quoted_of}
use Rattle.mail_words.proofs.QuotedLaws.{quoted_again, quoted_is}
use Rattle.mail_words.proofs.laws.octets_in_q.Goals as goal

pub returns : goal.returns
returns c = λ text octets. (quoted_is text octets, λ is. ap quoted_of is.spelled ∙ quoted_again is.pieces octets is.valued)
