use Rattle.std.proofs.Common.{sym, ◌∙◌, arith, drop}
use Rattle.sieve_match.specs.Glob.{items}
use Rattle.sieve_match.specs.declared.pattern.GlobItem.TheVariants.{Star}
use Rattle.sieve_match.proofs.Cursors.{left_after}
use Rattle.sieve_match.proofs.Patterns.{inside_pattern}
use Rattle.sieve_match.proofs.parts.LiteralKey.next.Goals as goal

pub read_item-place-requires : goal.read_item-place-requires
read_item-place-requires c =
    let key = c.args.self.now in
    inside_pattern key.pattern.now c.args.spot.place (items (drop key.from key.pattern.now)) c.args.spot.index c.requires.spot
    (omega (arith, c.requires.below, key.within))

pub returns-clause-spot : goal.returns-clause-spot
returns-clause-spot c =
    let key = c.args.self.now in
    sym (left_after Star (items (drop key.from key.pattern.now)) c.args.spot.index _ _ (sym c.requires.spot ∙ c.read_item-place.ensures.item))
