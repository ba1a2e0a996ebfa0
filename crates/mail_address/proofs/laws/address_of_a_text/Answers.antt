use Rattle.mail_address.proofs.Outbounds.{outbound-is, outbound-again}
use Rattle.mail_address.proofs.laws.address_of_a_text.Goals as goal

pub returns : goal.returns
returns c = λ text display_name address. (outbound-is text display_name address, outbound-again text display_name address)
