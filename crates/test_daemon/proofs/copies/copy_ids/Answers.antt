use Rattle.std.proofs.Common.{◌≡◌, ◌+◌, [], ◌∷◌, ◌++◌, List, ℕ, take, take_all, refl, sym, ◌∙◌, ap, rules}
use Rattle.daemon_core.specs.Together.{ids_of}
use Rattle.daemon_core.specs.declared.gathered.GatheredRequest.{GatheredRequest}
use Rattle.test_daemon.proofs.CopyLemmas.{mapped_more}
use Rattle.test_daemon.proofs.copies.copy_ids.Goals as goal

pub loop-it-preserved : goal.loop-it-preserved
loop-it-preserved c =
    let it = c.it-item.result in
    let joined : c.push.new.self.items ≡ c.loop-it.ids.items ++ it.id ∷ [] = search rules in
    joined ∙ (ap (λ (l : List ℕ). l ++ it.id ∷ []) c.loop-it.invariant ∙ sym (mapped_more (λ (x : GatheredRequest). x.id) c.args.requests.now c.loop-it.it-index it c.loop-it-test.true c.it-item.is))

pub returns : goal.returns
returns c = c.from_vec.ensures ∙ (c.loop-it.invariant ∙ ap ids_of (take_all c.loop-it.it-index c.args.requests.now c.loop-it-test.false))
