-- Names that differ only in case ask for the same fields.
use Rattle.std.proofs.Common.{◌≡◌, ◌∙◌, ℕ, Bool, IfOk, List, subst, ap}
use Rattle.std.specs.List.{list_any}
use Rattle.octets.specs.Ascii.{lowered}
use Rattle.sieve_exec.proofs.ImageLemmas.{names_alike}
use Rattle.sieve_exec.proofs.KeyLemmas.{any_mapped}
use Rattle.sieve_exec.proofs.field_cache.FieldCache.holds.Goals as goal

pub returns-clause-holds : goal.returns-clause-holds
returns-clause-holds g c =
    let at : List ℕ → Bool = λ key. g.T.FieldTest.passes c.args.test.now (g.V.FieldValues.keyed c.args.self.now key) in
    let passes : List ℕ → Bool = λ name. at (lowered name) in
    let same : list_any (λ name. passes name.now) c.as_slice.result.now ≡ list_any passes c.args.names.now =
    any_mapped passes (λ name. name.now) c.as_slice.result.now ∙ ap (list_any passes) c.as_slice.ensures
    ∙ c.in_ok-names.ensures.answer passes (λ one other alike. ap at (names_alike one other alike)) in
    subst (λ b. IfOk c.holds_of_slices.result (λ holds. holds ≡ b)) same c.holds_of_slices.ensures.holds
