-- A refusal of an order is one of the step.
use Rattle.managesieve_sessions.proofs.AskedLemmas.{asked_refused}
use Rattle.managesieve_sessions.proofs.session.Session.step_asked.Goals as goal

pub returns-in-Login-clause-refused : goal.returns-in-Login-clause-refused
returns-in-Login-clause-refused g c = asked_refused c.args.self.now.client c.args.order.now c.requires c.step_login.result c.step_login.ensures.named

pub returns-in-Script-clause-refused : goal.returns-in-Script-clause-refused
returns-in-Script-clause-refused g c = asked_refused c.args.self.now.client c.args.order.now c.requires c.step_scripts.result c.step_scripts.ensures.named
