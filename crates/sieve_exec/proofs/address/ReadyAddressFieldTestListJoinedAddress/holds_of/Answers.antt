use Rattle.std.proofs.Common.{◌≡◌, ◌∙◌, IfOk, subst, sym, ap}
use Rattle.std.specs.List.{list_any, filter_map}
use Rattle.sieve_exec.specs.Matches.{matches_some, part_matches}
use Rattle.sieve_exec.specs.Parts.{address_part_of}
use Rattle.sieve_exec.specs.Ready.{some_passes}
use Rattle.sieve_exec.proofs.KeyLemmas.{any_part, any_same, part_passes}
use Rattle.sieve_exec.proofs.address.ReadyAddressFieldTestListJoinedAddress.holds_of.Goals as goal

pub returns : goal.returns
returns c =
    let ready = c.args.self.now in
    let keys = ready.keys in
    let found = c.args.values.now in
    let passes = matches_some keys.collation keys.matching keys.keys in
    let same : list_any passes (filter_map (address_part_of ready.part) c.as_slice.result.now) ≡ list_any (λ one. part_matches keys.collation keys.matching keys.keys (address_part_of ready.part one)) found =
    ap (λ l. list_any passes (filter_map (address_part_of ready.part) l)) c.as_slice.ensures
    ∙ sym (any_same (λ one. part_matches keys.collation keys.matching keys.keys (address_part_of ready.part one)) (λ one. some_passes passes (address_part_of ready.part one)) found
    (λ one. part_passes keys.collation keys.matching keys.keys (address_part_of ready.part one))
    ∙ any_part (address_part_of ready.part) passes found) in
    subst (λ b. IfOk c.match_some.result (λ holds. holds ≡ b)) same c.match_some.ensures
