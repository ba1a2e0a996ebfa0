use Rattle.std.proofs.Common.{◌≡◌, true, false, sym, ◌∙◌, arith}
use Rattle.std.proofs.lemmas.Grind.{common_steps}
use Rattle.sieve_exec.specs.Mails.{field_values}
use Rattle.sieve_exec.specs.Truth.{is_some_there}
use Rattle.sieve_exec.proofs.IndexLemmas.{there_keyed}
use Rattle.sieve_exec.proofs.mail.Mail.all_exist.Goals as goal

pub returns-then-not-has : goal.returns-then-not-has
returns-then-not-has c =
    let here : is_some_there (field_values c.args.self.now c.as_slice.result.now) ≡ false = there_keyed c.args.self.now _ _ c.in_ok-lowered.ensures ∙ sym c.has-in-loop-name.ensures ∙ c.if-not-has.true in
    grind (arith, common_steps, here)

pub loop-name-preserved : goal.loop-name-preserved
loop-name-preserved c =
    let here : is_some_there (field_values c.args.self.now c.as_slice.result.now) ≡ true = there_keyed c.args.self.now _ _ c.in_ok-lowered.ensures ∙ sym c.has-in-loop-name.ensures ∙ c.if-not-has.false in
    grind (arith, common_steps, here)
