use Rattle.store_versions.proofs.version.are_older.Goals as goal

pub returns-in-Second : goal.returns-in-Second
returns-in-Second c = rw c.in-Second.is c.are_version.ensures

pub returns-in-CopiesLast : goal.returns-in-CopiesLast
returns-in-CopiesLast c = rw c.in-CopiesLast.is c.are_version-in-CopiesLast.ensures

pub returns-in-CopiesFourth : goal.returns-in-CopiesFourth
returns-in-CopiesFourth c = rw c.in-CopiesFourth.is c.are_version-in-CopiesFourth.ensures
