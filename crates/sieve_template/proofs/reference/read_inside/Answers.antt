use Rattle.std.proofs.Common.{◌≡◌, ℕ, ◌+◌, ◌-◌, ◌<◌, ◌≤◌, List, length, take, drop, sym, ap, subst, ◌∙◌, arith}
use Rattle.std.proofs.lemmas.List.{take_rest, length-drop}
use Rattle.std.specs.List.{list_all}
use Rattle.sieve_template.specs.Templates.{is_variable_octet, IsIdentifier, IsVariableName}
use Rattle.sieve_template.specs.Reading.{name_run, IsNameOf}
use Rattle.std.proofs.Common.{true}
use Rattle.sieve_template.proofs.PathLemmas.{run_octets, kind_number, inside_no_name, inside_no_end, inside_no_octet, inside_no_number, path_result}
use Rattle.sieve_template.specs.Templates.{IsNumVariable}
use Rattle.sieve_template.proofs.reference.read_inside.Goals as goal

pub name_kind-requires : goal.name_kind-requires
name_kind-requires c =
    let text : List ℕ = c.args.text.now in
    let at : ℕ = c.args.from in
    let n : ℕ = c.name_len.result in
    let run : n ≡ name_run (drop at text) = c.name_len.ensures.length ∙ ap name_run (take_rest text at) in
    subst (λ k. list_all is_variable_octet (take k (drop at text)) ≡ true) (omega arith)
    (subst (λ k. list_all is_variable_octet (take k (drop at text)) ≡ true) (sym run) (run_octets (drop at text)))

pub returns-in_default : goal.returns-in_default
returns-in_default c =
    let text : List ℕ = c.args.text.now in
    let at : ℕ = c.args.from in
    let n : ℕ = c.name_len.result in
    let run : n ≡ name_run (drop at text) = c.name_len.ensures.length ∙ ap name_run (take_rest text at) in
    inside_no_name text at n run (λ is. c.in_default.ensures (subst (λ k. IsVariableName (take k (drop at text))) (omega arith) is))

pub returns-then-end-text : goal.returns-then-end-text
returns-then-end-text c =
    let text : List ℕ = c.args.text.now in
    let at : ℕ = c.args.from in
    let n : ℕ = c.name_len.result in
    let run : n ≡ name_run (drop at text) = c.name_len.ensures.length ∙ ap name_run (take_rest text at) in
    inside_no_end text at n run (omega (arith, c.if-end-text.true))

pub returns-then-text-end-ne46 : goal.returns-then-text-end-ne46
returns-then-text-end-ne46 c =
    let text : List ℕ = c.args.text.now in
    let at : ℕ = c.args.from in
    let n : ℕ = c.name_len.result in
    let run : n ≡ name_run (drop at text) = c.name_len.ensures.length ∙ ap name_run (take_rest text at) in
    let within : at + n ≤ length text = omega (arith, c.name_len.ensures.within, ap length (take_rest text at), length-drop at text, c.requires) in
    let inside : at + n < length text = omega (arith, c.if-end-text.false) in
    inside_no_octet text at n run inside c.if-text-end-eq125.false c.if-text-end-ne46.true

pub returns-in_default-kind : goal.returns-in_default-kind
returns-in_default-kind c =
    let text : List ℕ = c.args.text.now in
    let at : ℕ = c.args.from in
    let n : ℕ = c.name_len.result in
    let run : n ≡ name_run (drop at text) = c.name_len.ensures.length ∙ ap name_run (take_rest text at) in
    let within : at + n ≤ length text = omega (arith, c.name_len.ensures.within, ap length (take_rest text at), length-drop at text, c.requires) in
    let inside : at + n < length text = omega (arith, c.if-end-text.false) in
    let number : IsNumVariable (take n (drop at text)) = subst (λ k. IsNumVariable (take k (drop at text))) (omega arith)
    (kind_number c.in-Some.kind (take (at + n - at) (drop at text)) c.in_default-kind.not-Identifier c.in-Some.ensures) in
    inside_no_number text at n run inside number c.if-text-end-eq125.false

pub returns : goal.returns
returns c =
    let text : List ℕ = c.args.text.now in
    let at : ℕ = c.args.from in
    let n : ℕ = c.name_len.result in
    let run : n ≡ name_run (drop at text) = c.name_len.ensures.length ∙ ap name_run (take_rest text at) in
    let within : at + n ≤ length text = omega (arith, c.name_len.ensures.within, ap length (take_rest text at), length-drop at text, c.requires) in
    let inside : at + n < length text = omega (arith, c.if-end-text.false) in
    let is : IsIdentifier (take n (drop at text)) = subst (λ k. IsIdentifier (take k (drop at text))) (omega arith)
    (subst (λ kind. IsNameOf kind (take (at + n - at) (drop at text))) c.in-Identifier.is c.in-Some.ensures) in
    path_result text at n run inside c.if-text-end-eq125.false is c.if-text-end-ne46.false c.read_path.result c.read_path.ensures
