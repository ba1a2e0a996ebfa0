-- Why the store couldn't be closed is told first, and then the fault, each with what is known of it.
use Rattle.std.proofs.Common.{◌≡◌, Ok, Err, sym, subst, rules}
use Rattle.cli_run.specs.Faults.{cause_of, store_failed, text_said, run_fault_lines, faults_told, AreTold}
use Rattle.cli_run.specs.declared.fault.RunFault.TheVariants.{Invalid}
use Rattle.cli_run.specs.Streams.{IsWritten}
use Rattle.cli_run.proofs.RunLemmas.{told_done, told_failed, told_fault}
use Rattle.cli_run.proofs.run.conclude.Goals as goal

pub returns-in-Ok-clause-told : goal.returns-in-Ok-clause-told
returns-in-Ok-clause-told g c =
    let old = g.E.Write.contents c.args.errors.now in
    let new = g.E.Write.contents c.tell_unclosed.new.errors in
    let cause = cause_of (g.K.Keeper.said c.take_close_error-unclosed.new.self) (text_said (g.T.MailSink.said c.args.sink.now)) in
    subst (λ done. AreTold old new cause (faults_told (g.K.Keeper.unclosed c.args.keeper.now) done)) (sym c.in-Ok.is)
    (subst (λ o. AreTold old new cause (faults_told o (Ok tt))) c.take_close_error-unclosed.ensures.error
    (told_done cause old new new c.take_close_error-unclosed.result c.tell_unclosed.ensures.some c.tell_unclosed.ensures.none))

pub returns-then-is_store_failure-clause-told : goal.returns-then-is_store_failure-clause-told
returns-then-is_store_failure-clause-told g c =
    let old = g.E.Write.contents c.args.errors.now in
    let new = g.E.Write.contents c.tell_fault.new.errors in
    let unclosed = g.K.Keeper.unclosed c.args.keeper.now in
    let cause = cause_of (g.K.Keeper.said c.take_close_error-unclosed.new.self) (text_said (g.T.MailSink.said c.args.sink.now)) in
    let failed : c.in-Err.fault ≡ store_failed = c.is_store_failure.ensures.failed c.if-is_store_failure.true in
    subst (λ done. AreTold old new cause (faults_told unclosed done)) (sym c.in-Err.is)
    (subst (λ fault. AreTold old new cause (faults_told unclosed (Err fault))) (sym failed) (told_failed cause old new new unclosed (subst (λ fault. IsWritten old new (run_fault_lines cause fault)) failed c.tell_fault.ensures.line)))

pub returns-else-is_store_failure-clause-told : goal.returns-else-is_store_failure-clause-told
returns-else-is_store_failure-clause-told g c =
    let old = g.E.Write.contents c.args.errors.now in
    let mid = g.E.Write.contents c.tell_unclosed-in-Err.new.errors in
    let new = g.E.Write.contents c.tell_fault-in-Err.new.errors in
    let cause = cause_of (g.K.Keeper.said c.take_close_error-unclosed.new.self) (text_said (g.T.MailSink.said c.args.sink.now)) in
    let fault = c.in-Err.fault in
    let valid : fault ≡ Invalid → ⊥ = search rules in
    subst (λ done. AreTold old new cause (faults_told (g.K.Keeper.unclosed c.args.keeper.now) done)) (sym c.in-Err.is)
    (subst (λ o. AreTold old new cause (faults_told o (Err fault))) c.take_close_error-unclosed.ensures.error
    (told_fault cause old mid new c.take_close_error-unclosed.result fault (c.is_store_failure.ensures.other c.if-is_store_failure.false) valid c.tell_unclosed-in-Err.ensures.some c.tell_unclosed-in-Err.ensures.none c.tell_fault-in-Err.ensures.line))
