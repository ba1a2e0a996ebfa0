use Rattle.std.proofs.Common.{rules}
use Rattle.std.proofs.lemmas.Iterator.Search.{all_from_yields_List}
use Rattle.std.proofs.lemmas.Iterator.Splits.{YieldsList-from_slice_split}
use Rattle.maildir_homes.specs.Templates as templates
use Rattle.maildir_homes.proofs.template.are_parts.Goals as goal

pub returns : goal.returns
returns c =
    all_from_yields_List templates.is_home_part _ _ _ c.all.ensures.ran
    (YieldsList-from_slice_split _ templates.is_slash c.args.tail.now c.split.ensures.rest c.split.ensures.done c.split.ensures.closure (λ x b q k. search rules))
    (λ x b q k. search rules)
