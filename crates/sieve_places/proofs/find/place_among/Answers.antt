-- The verdict on the spread text tells the token.
use Rattle.std.proofs.Common.{◌≡◌, Some, subst, rules, arith}
use Rattle.sieve_places.specs.Places.{IsCheckedAs}
use Rattle.sieve_places.specs.Spread.{spread_text}
use Rattle.sieve_places.proofs.SpreadLemmas.{line_small, placed_all}
use Rattle.sieve_places.proofs.find.place_among.Goals as goal

pub spread-requires : goal.spread-requires
spread-requires c = placed_all c.args.text.now c.args.tokens.now c.requires.spelled

pub place_by_fault-requires-clause-checked : goal.place_by_fault-requires-clause-checked
place_by_fault-requires-clause-checked c =
    let lines : c.as_slice.result.now ≡ spread_text c.args.text.now c.args.tokens.now = search rules in
    let checked : IsCheckedAs c.as_slice.result.now (Some c.in-Some.fault) = subst (IsCheckedAs c.as_slice.result.now) c.in-Some.is c.in_ok-fault.ensures in
    subst (λ t. IsCheckedAs t (Some c.in-Some.fault)) lines checked

pub place_by_fault-requires-clause-small : goal.place_by_fault-requires-clause-small
place_by_fault-requires-clause-small c =
    let checked : IsCheckedAs c.as_slice.result.now (Some c.in-Some.fault) = subst (IsCheckedAs c.as_slice.result.now) c.in-Some.is c.in_ok-fault.ensures in
    line_small c.as_slice.result.now c.in-Some.fault.line checked.2 (omega arith)
