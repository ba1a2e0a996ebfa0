use Rattle.managesieve_sessions.proofs.LawLemmas as lemmas
use Rattle.managesieve_sessions.proofs.laws.turn_steps.Goals as goal

pub returns : goal.returns
returns c = lemmas.turn_step
