use Rattle.sieve_plan.proofs.DeliveryLaws.{one_delivery}
use Rattle.sieve_plan.proofs.laws.delivery_of_a_mail.Goals as goal

pub returns : goal.returns
returns c = one_delivery
