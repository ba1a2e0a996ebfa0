use Rattle.std.proofs.Common.{◌≡◌, ◌↔◌, IsTrue, subst}
use Rattle.store_versions.proofs.OldFacts.{oldest_indexes_are}
use Rattle.store_versions.proofs.schema.are_oldest_keys.Goals as goal

pub returns : goal.returns
returns c =
    subst (λ l. IsTrue c.are_indexes.result ↔ (c.args.indexes.now ≡ l)) oldest_indexes_are
    (rw (c.key_of.ensures, c.key_of-2.ensures, c.key_of-3.ensures, c.key_of-4.ensures, c.key_of-5.ensures, c.key_of-6.ensures, c.key_of-7.ensures) at c.are_indexes.ensures)
