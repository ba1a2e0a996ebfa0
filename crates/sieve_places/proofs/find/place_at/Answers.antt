-- The token that is picked, with its place.
use Rattle.std.proofs.Common.{◌≡◌, ◌+◌, ◌==◌, Some, length, take, drop, not, rules}
use Rattle.std.specs.Prelude.{slice_get}
use Rattle.sieve_places.specs.Picks.{pick_at}
use Rattle.sieve_places.proofs.SpreadLemmas.{placed_so}
use Rattle.sieve_places.proofs.find.place_at.Goals as goal

pub returns : goal.returns
returns c =
    let ts = c.args.tokens.now in
    let picked : Some c.in-Some.pick ≡ pick_at c.args.kind (take (c.args.index + 1) ts) (not (length (drop (c.args.index + 1) ts) == 0)) = search rules in
    let there : Some c.in-Some-token_at.token.now ≡ slice_get ts c.in-Some.pick.index = search rules in
    placed_so c.args.text.now ts c.args.kind c.args.index c.in-Some.pick c.in-Some-token_at.token.now c.in_ok-place_of.field-0 picked there c.in_ok-place_of.ensures
