use Rattle.std.proofs.Common.{◌-◌, ◌≤◌, List, ℕ, take, drop, length, ap, ◌∙◌, subst, arith}
use Rattle.std.specs.Prelude.{fold}
use Rattle.std.proofs.lemmas.List.{length-drop, take_rest}
use Rattle.managesieve_protocol.specs.Scanning.{fed, reached}
use Rattle.managesieve_protocol.proofs.Feeding.{NoneBefore, fed_on, none_before_on, fed_up_to}
use Rattle.managesieve_protocol.proofs.scanner.Scan.feed.Goals as goal

pub loop-self-preserved : goal.loop-self-preserved
loop-self-preserved c =
    let i = c.loop-self.invariant in
    let rest = take_rest c.args.octets.now c.loop-self.taken in
    let count = ap length rest in
    record {
      within = omega (arith, c.feed_some-count.ensures.within, count, length-drop c.loop-self.taken c.args.octets.now, i.within);
      by = fed_on c.args.self.now c.loop-self.self c.feed_some-count.new.self c.args.octets.now c.loop-self.taken c.feed_some-count.result i.by
          (c.feed_some-count.ensures.taken ∙ ap (λ (piece : List ℕ). fold fed c.loop-self.self (take c.feed_some-count.result piece)) rest);
      before = none_before_on c.args.self.now c.loop-self.self c.args.octets.now c.loop-self.taken c.feed_some-count.result i.by i.before
          (subst (λ (piece : List ℕ). NoneBefore c.loop-self.self piece c.feed_some-count.result) rest c.feed_some-count.ensures.before);
    }

pub returns-clause-until : goal.returns-clause-until
returns-clause-until c =
    let i = c.loop-self.invariant in
    i.by ∙ fed_up_to c.args.self.now c.args.octets.now c.loop-self.taken i.within i.before (λ need. absurd (c.in_default.not-Need (c.state.ensures.reached ∙ ap reached i.by ∙ need)))

pub returns-then-count-eq0-clause-until : goal.returns-then-count-eq0-clause-until
returns-then-count-eq0-clause-until c =
    let i = c.loop-self.invariant in
    let rest = take_rest c.args.octets.now c.loop-self.taken in
    let none : length c.args.octets.now ≤ c.loop-self.taken = omega (arith, c.feed_some-count.ensures.none c.if-count-eq0.true, ap length rest, length-drop c.loop-self.taken c.args.octets.now) in
    c.feed_some-count.ensures.taken
    ∙ ap (λ (n : ℕ). fold fed c.loop-self.self (take n (take (length c.args.octets.now - c.loop-self.taken) (drop c.loop-self.taken c.args.octets.now)))) c.if-count-eq0.true
    ∙ i.by ∙ fed_up_to c.args.self.now c.args.octets.now c.loop-self.taken i.within i.before (λ need. omega (arith, none, i.within))
