use Rattle.std.proofs.Common.{rules}
use Rattle.std.proofs.lemmas.Iterator.Search.{any_from_yields_List}
use Rattle.std.proofs.lemmas.Iterator.Splits.{YieldsList-from_slice_split}
use Rattle.maildir_files.specs.Subscriptions as subscriptions
use Rattle.maildir_files.proofs.subscriptions.has_line.Goals as goal

pub returns : goal.returns
returns c =
    any_from_yields_List (subscriptions.is_same_line c.args.line.now) _ _ _ c.any.ensures.ran
    (YieldsList-from_slice_split _ subscriptions.ends_a_line c.args.list.now c.split.ensures.rest c.split.ensures.done c.split.ensures.closure (λ x b q k. search rules))
    (λ x b q k. search rules)
