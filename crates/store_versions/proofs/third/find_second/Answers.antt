use Rattle.store_versions.specs.SecondSchema.{select_second_copies}
use Rattle.store_versions.specs.Third.{AreSecondCopies}
use Rattle.store_versions.proofs.MigrationLemmas.{finds_listed}
use Rattle.store_versions.proofs.ThirdLemmas.{second_found}
use Rattle.store_versions.proofs.third.find_second.Goals as goal

pub returns : goal.returns
returns g c = finds_listed g.S.Store select_second_copies AreSecondCopies c.args.tx.now c.list.new.tx c.list.result (second_found _ _) c.list.ensures
