use Rattle.std.proofs.Common.{refl, sym, ◌∙◌}
use Rattle.std.proofs.lemmas.Result.{IfOk-weaker}
use Rattle.store_accounts.specs.Cells.{borrowed_octets}
use Rattle.sieve_plan.specs.Plans.{deeds_in}
use Rattle.sieve_plan.specs.Sequences.{SettlesInTurn, SettlesUnder, at_beginning, sequence_of}
use Rattle.sieve_plan.specs.SequencePlans.{settled_of}
use Rattle.sieve_plan.proofs.TurnLemmas.{settles_unrun, settles_in_turn}
use Rattle.sieve_plan.proofs.settlement.settle.Goals as goal

pub returns-then-is_looping : goal.returns-then-is_looping
returns-then-is_looping c =
    settles_unrun c.args.host.now (borrowed_octets c.args.own) c.args.mail.now c.requires (deeds_in c.in_ok-kept.field-0) (sym c.is_looping.ensures ∙ c.if-is_looping.true) c.in_ok-kept.ensures

pub returns : goal.returns
returns c =
    let scripts = sequence_of c.args.host.now (borrowed_octets c.args.own) in
    IfOk-weaker c.settle_scripts.result (λ settlement. SettlesInTurn c.args.mail.now scripts at_beginning (settled_of settlement))
    (λ settlement. SettlesUnder c.args.host.now (borrowed_octets c.args.own) c.args.mail.now (settled_of settlement))
    (λ settlement is. settles_in_turn c.args.host.now (borrowed_octets c.args.own) c.args.mail.now c.requires scripts (settled_of settlement) (sym c.is_looping.ensures ∙ c.if-is_looping.false) refl is)
    c.settle_scripts.ensures
