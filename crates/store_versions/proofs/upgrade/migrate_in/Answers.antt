use Rattle.store_versions.proofs.upgrade.migrate_in.Goals as goal

pub returns-in-Second : goal.returns-in-Second
returns-in-Second g c = rw c.in-Second.is c.migrate_second.ensures

pub returns-in-CopiesLast : goal.returns-in-CopiesLast
returns-in-CopiesLast g c = rw c.in-CopiesLast.is c.migrate_last.ensures

pub returns-in-CopiesFourth : goal.returns-in-CopiesFourth
returns-in-CopiesFourth g c = rw c.in-CopiesFourth.is c.migrate_fourth.ensures
