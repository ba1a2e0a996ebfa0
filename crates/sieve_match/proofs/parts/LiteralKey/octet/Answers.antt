use Rattle.std.proofs.Common.{sym, ap, ◌∙◌, arith, drop}
use Rattle.sieve_match.specs.Glob.{items}
use Rattle.sieve_match.specs.Segments.{item_octet}
use Rattle.sieve_match.specs.declared.pattern.GlobItem.TheVariants.{Star}
use Rattle.sieve_match.proofs.Cursors.{item_at}
use Rattle.sieve_match.proofs.Patterns.{inside_pattern}
use Rattle.sieve_match.proofs.parts.LiteralKey.octet.Goals as goal

pub read_item-requires : goal.read_item-requires
read_item-requires c =
    let key = c.args.self.now in
    inside_pattern key.pattern.now c.args.spot.place (items (drop key.from key.pattern.now)) c.args.spot.index c.requires.spot
    (omega (arith, c.requires.below, key.within))

pub returns : goal.returns
returns c =
    let key = c.args.self.now in
    c.octet.ensures
    ∙ ap item_octet (sym (item_at Star (items (drop key.from key.pattern.now)) c.args.spot.index _ _ (sym c.requires.spot ∙ c.read_item.ensures.item)))
