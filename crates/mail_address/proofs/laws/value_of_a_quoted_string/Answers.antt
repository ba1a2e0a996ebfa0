use Rattle.mail_address.proofs.Quotes.{quoted-value, value-quoted}
use Rattle.mail_address.proofs.laws.value_of_a_quoted_string.Goals as goal

pub returns : goal.returns
returns c = λ text value. (quoted-value text value, value-quoted text value)
