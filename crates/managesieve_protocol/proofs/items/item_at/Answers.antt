use Rattle.std.proofs.Common.{◌≡◌, subst}
use Rattle.std.specs.Prelude.{IfOk}
use Rattle.managesieve_protocol.specs.declared.items.ItemExtent.{ItemExtent}
use Rattle.managesieve_protocol.specs.Values.{item_at}
use Rattle.managesieve_protocol.proofs.Unique.{reach_is, if_gives}
use Rattle.managesieve_protocol.proofs.items.item_at.Goals as goal

pub returns-clause-value : goal.returns-clause-value
returns-clause-value c =
    subst (λ (r : ItemExtent). IfOk c.read_at.result (λ item. item ≡ item_at c.args.pending c.args.buffer.now r))
    (reach_is c.args.pending c.args.reach c.args.buffer.now c.requires) c.read_at.ensures.value

pub returns-clause-item : goal.returns-clause-item
returns-clause-item c = if_gives c.args.pending c.args.buffer.now c.read_at.result (returns-clause-value c)
