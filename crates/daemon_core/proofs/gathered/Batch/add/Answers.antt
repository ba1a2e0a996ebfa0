use Rattle.std.proofs.Common.{◌≡◌, ◌+◌, [], ◌∷◌, ◌++◌, length, subst, rules}
use Rattle.daemon_core.specs.Batches.{HasRoomFor}
use Rattle.daemon_core.specs.declared.gathered.GatheredRequest.{GatheredRequest}
use Rattle.daemon_core.proofs.BatchLemmas.{keeps_more}
use Rattle.daemon_core.proofs.gathered.Batch.add.Goals as goal

pub returns-then-is_ok-clause-keeps : goal.returns-then-is_ok-clause-keeps
returns-then-is_ok-clause-keeps c =
    let old = c.args.self.now in
    let it : GatheredRequest = record { id = c.args.id; request = c.args.request } in
    let room : HasRoomFor old (length c.args.request.message) = search rules in
    let more : c.push.new.self.items ≡ old.requests.items ++ it ∷ [] = search rules in
    keeps_more old _ it c.requires room more (search rules)
