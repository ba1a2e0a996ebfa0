use Rattle.std.proofs.Common.{◌≡◌, ℕ, List, map, subst, sym, ap, ◌∙◌}
use Rattle.std.specs.List.{list_any}
use Rattle.sieve_exec.specs.Matches.{matches_key, matches_some}
use Rattle.sieve_exec.specs.Ready.{key_spec_of, matches_of, matches_some_of, IsAskedFor, keys_spec_of}
use Rattle.sieve_exec.proofs.KeyLemmas.{any_mapped, any_same, swapped}
use Rattle.sieve_exec.proofs.ready_keys.ReadyKeys.match_some.Goals as goal

pub returns-in-All : goal.returns-in-All
returns-in-All g c =
    let keys = c.args.self.now in
    c.some_key_matches.ensures ∙ swapped (λ key value. matches_key keys.collation keys.matching key value) keys.keys (g.V.Values.texts c.args.values.now)

pub returns-in-Distinct : goal.returns-in-Distinct
returns-in-Distinct g c =
    let keys = c.args.self.now in
    let inside = c.self.inside in
    let texts = g.V.Values.texts c.args.values.now in
    let these = c.in-Distinct.keys in
    let asked : (value : List ℕ) → matches_some keys.collation keys.matching these value ≡ matches_some_of keys value =
    subst (λ asked. IsAskedFor keys asked) c.in-Distinct.is (subst (λ spec. IsAskedFor spec inside.asked) c.self.view_is c.self.invariant) in
    c.some_slice_matches.ensures
    ∙ any_mapped (λ key. list_any (matches_of (key_spec_of keys.collation keys.matching key)) texts) (λ key. key.now) c.as_slice.result.now
    ∙ ap (list_any (λ key. list_any (matches_of (key_spec_of keys.collation keys.matching key)) texts)) c.as_slice.ensures
    ∙ swapped (λ key value. matches_key keys.collation keys.matching key value) these texts
    ∙ any_same (matches_some keys.collation keys.matching these) (matches_some_of keys) texts asked
