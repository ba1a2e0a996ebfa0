use Rattle.std.proofs.Common.{sym, ◌∙◌}
use Rattle.mail_head.specs.Heads.{unfold_of}
use Rattle.sieve_vacation.specs.Cases.{refuses_answer}
use Rattle.sieve_vacation.proofs.WordLaws.{first_passes, others_pass, none_passes}
use Rattle.sieve_vacation.proofs.fields.is_suppressing.Goals as goal

pub returns-in_default : goal.returns-in_default
returns-in_default c =
    sym (none_passes refuses_answer (unfold_of c.loop-rest.rest.now) (sym c.refuses_answer.ensures ∙ c.loop-rest-test.true) c.in_default.ensures.value) ∙ c.loop-rest.invariant

pub loop-rest-preserved : goal.loop-rest-preserved
loop-rest-preserved c =
    others_pass refuses_answer (unfold_of c.loop-rest.rest.now) (unfold_of c.in-Some.after.now) (sym c.refuses_answer.ensures ∙ c.loop-rest-test.true) c.in-Some.ensures.value
    ∙ c.loop-rest.invariant

pub returns : goal.returns
returns c =
    sym (first_passes refuses_answer (unfold_of c.loop-rest.rest.now) (sym c.refuses_answer.ensures ∙ c.loop-rest-test.false)) ∙ c.loop-rest.invariant
