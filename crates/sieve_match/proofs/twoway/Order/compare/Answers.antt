use Rattle.sieve_match.proofs.Orders.{compared_rising, compared_falling}
use Rattle.sieve_match.proofs.twoway.Order.compare.Goals as goal

pub returns-in-Rising : goal.returns-in-Rising
returns-in-Rising c = compared_rising c.args.self c.args.a c.args.b c.cmp.result c.in-Rising.is c.cmp.ensures

pub returns-in-Falling : goal.returns-in-Falling
returns-in-Falling c = compared_falling c.args.self c.args.a c.args.b c.cmp-in-Falling.result c.in-Falling.is c.cmp-in-Falling.ensures
