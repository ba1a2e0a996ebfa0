use Rattle.std.proofs.Common.{IfOk, sym, subst}
use Rattle.sieve_syntax.specs.View.{script_tree}
use Rattle.managesieve_sessions.specs.Scripts.{IsVerdict}
use Rattle.managesieve_sessions.proofs.scripts.fault_in.Goals as goal
use Rattle.managesieve_sessions.proofs.scripts.fault_in.Goals.{in-Ok, in-Err-Fault, in-Err-Memory}

pub returns : goal.returns
returns c =
    elim c.match-check.branch [
      | in-Ok w ↦ subst (λ r. IfOk r (IsVerdict c.args.script.now)) (sym w.result-is) (script_tree w.in-Ok.field-0, w.in-Ok.ensures.found)
      | in-Err-Fault w ↦
          let none = rw w.in-Err-Fault.field-0-is at w.in-Err-Fault.ensures.fault in
          let lines = rw w.in-Err-Fault.field-0-is at w.in-Err-Fault.ensures.lines in
          subst (λ r. IfOk r (IsVerdict c.args.script.now)) (sym w.result-is) ((λ valid. none valid.0 valid.1), lines.0, lines.1)
      | in-Err-Memory w ↦ subst (λ r. IfOk r (IsVerdict c.args.script.now)) (sym w.result-is) tt
    ]
