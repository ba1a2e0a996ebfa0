use Rattle.std.proofs.Common.{◌<◌, get_or, length, map, []}
use Rattle.std.proofs.lemmas.List.{length-map}
use Rattle.sieve_syntax.specs.Means.{Means}
use Rattle.sieve_syntax.specs.View.{script_tree}
use Rattle.sieve_plan.specs.Kept.{pair_of}
use Rattle.sieve_plan.proofs.KeptLemmas.{means_at}
use Rattle.sieve_plan.proofs.kept.KeptScripts.script_at.Goals as goal

pub returns : goal.returns
returns c =
    let place : c.args.place < length c.self.inside.scripts.items = simp length-map at (rw (← c.self.view_is) at c.requires) in
    rw (← c.self.view_is) (means_at c.self.inside.scripts.items c.args.place c.index.result.now place c.index.ensures c.self.invariant.checked)
