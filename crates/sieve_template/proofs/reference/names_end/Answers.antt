use Rattle.std.proofs.Common.{◌≡◌, ℕ, ◌+◌, ◌-◌, ◌<◌, ◌≤◌, List, length, take, drop, sym, ap, subst, ◌∙◌, arith}
use Rattle.std.proofs.lemmas.List.{take_rest, length-drop, drop_all}
use Rattle.std.specs.List.{list_all}
use Rattle.sieve_template.specs.Templates.{is_variable_octet, IsVariableName}
use Rattle.sieve_template.specs.Reading.{name_run, NamesClose}
use Rattle.std.proofs.Common.{true}
use Rattle.sieve_template.proofs.PathLemmas.{run_octets, kind_named, none_name, none_end, none_octet, brace_closes, dot_goes_on, close_nothing}
use Rattle.sieve_template.proofs.reference.names_end.Goals as goal

pub name_kind-requires : goal.name_kind-requires
name_kind-requires c =
    let text : List ℕ = c.args.text.now in
    let at : ℕ = c.loop-at.at in
    let n : ℕ = c.name_len.result in
    let run : n ≡ name_run (drop at text) = c.name_len.ensures.length ∙ ap name_run (take_rest text at) in
    subst (λ k. list_all is_variable_octet (take k (drop at text)) ≡ true) (omega arith)
    (subst (λ k. list_all is_variable_octet (take k (drop at text)) ≡ true) (sym run) (run_octets (drop at text)))

pub returns-in_default : goal.returns-in_default
returns-in_default c = λ after h.
    let text : List ℕ = c.args.text.now in
    let at : ℕ = c.loop-at.at in
    let n : ℕ = c.name_len.result in
    let run : n ≡ name_run (drop at text) = c.name_len.ensures.length ∙ ap name_run (take_rest text at) in
    none_name text at n run (λ is. c.in_default.ensures (subst (λ k. IsVariableName (take k (drop at text))) (omega arith) is)) after ((c.loop-at.invariant.same after).0 h)

pub returns-then-end-text : goal.returns-then-end-text
returns-then-end-text c = λ after h.
    let text : List ℕ = c.args.text.now in
    let at : ℕ = c.loop-at.at in
    let n : ℕ = c.name_len.result in
    let run : n ≡ name_run (drop at text) = c.name_len.ensures.length ∙ ap name_run (take_rest text at) in
    none_end text at n run (omega (arith, c.if-end-text.true)) after ((c.loop-at.invariant.same after).0 h)

pub returns-then-text-end-eq125 : goal.returns-then-text-end-eq125
returns-then-text-end-eq125 c =
    let text : List ℕ = c.args.text.now in
    let at : ℕ = c.loop-at.at in
    let n : ℕ = c.name_len.result in
    let run : n ≡ name_run (drop at text) = c.name_len.ensures.length ∙ ap name_run (take_rest text at) in
    let within : at + n ≤ length text = omega (arith, c.name_len.ensures.within, ap length (take_rest text at), length-drop at text, c.loop-at.invariant.within) in
    let inside : at + n < length text = omega (arith, c.if-end-text.false) in
    let named : IsVariableName (take n (drop at text)) = subst (λ k. IsVariableName (take k (drop at text))) (omega arith) (kind_named c.in-Some.field-0 (take (at + n - at) (drop at text)) c.in-Some.ensures) in
    let low = c.loop-at.invariant.low in
    (omega arith, omega arith, (c.loop-at.invariant.same (drop (at + n + 1) text)).1 (brace_closes text at n run inside named c.if-text-end-eq125.true))

pub returns-then-text-end-ne46 : goal.returns-then-text-end-ne46
returns-then-text-end-ne46 c = λ after h.
    let text : List ℕ = c.args.text.now in
    let at : ℕ = c.loop-at.at in
    let n : ℕ = c.name_len.result in
    let run : n ≡ name_run (drop at text) = c.name_len.ensures.length ∙ ap name_run (take_rest text at) in
    let within : at + n ≤ length text = omega (arith, c.name_len.ensures.within, ap length (take_rest text at), length-drop at text, c.loop-at.invariant.within) in
    let inside : at + n < length text = omega (arith, c.if-end-text.false) in
    none_octet text at n run inside c.if-text-end-eq125.false c.if-text-end-ne46.true after ((c.loop-at.invariant.same after).0 h)

pub loop-at-preserved : goal.loop-at-preserved
loop-at-preserved c =
    let text : List ℕ = c.args.text.now in
    let at : ℕ = c.loop-at.at in
    let n : ℕ = c.name_len.result in
    let run : n ≡ name_run (drop at text) = c.name_len.ensures.length ∙ ap name_run (take_rest text at) in
    let within : at + n ≤ length text = omega (arith, c.name_len.ensures.within, ap length (take_rest text at), length-drop at text, c.loop-at.invariant.within) in
    let inside : at + n < length text = omega (arith, c.if-end-text.false) in
    let named : IsVariableName (take n (drop at text)) = subst (λ k. IsVariableName (take k (drop at text))) (omega arith) (kind_named c.in-Some.field-0 (take (at + n - at) (drop at text)) c.in-Some.ensures) in
    let low = c.loop-at.invariant.low in
    record {
      low = omega arith;
      within = omega arith;
      same = λ after.
          let step = dot_goes_on text at n run inside named c.if-text-end-ne46.false after in
          (λ h. step.0 ((c.loop-at.invariant.same after).0 h), λ h. (c.loop-at.invariant.same after).1 (step.1 h));
    }

pub returns : goal.returns
returns c = λ after h.
    close_nothing after (subst (λ l. NamesClose l after) (drop_all c.loop-at.at c.args.text.now c.loop-at-test.false) ((c.loop-at.invariant.same after).0 h))
