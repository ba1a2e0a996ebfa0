-- A text is that of one account at most.
use Rattle.store_engine.proofs.CopyLemmas.{copy_named, copy_makes, copy_imported}
use Rattle.store_engine.proofs.laws.copy_comes_back.Goals as goal

pub returns-clause-read : goal.returns-clause-read
returns-clause-read c = λ text user a head parts copy of. (copy_named text user a head parts copy of, copy_makes text user a head parts copy of)

pub returns-clause-imported : goal.returns-clause-imported
returns-clause-imported c = λ text user a head parts accounts later answer copy of name guarded flagged sound free is. copy_imported text user a head parts copy of accounts later answer name guarded flagged sound free is
