-- The messages so far are the same.
use Rattle.std.proofs.Common.{Ok}
use Rattle.sqlite.specs.Held.{state}
use Rattle.store_accounts.specs.Promises.{ReadsOwn}
use Rattle.store_engine.proofs.TogetherLemmas.{AreSame}
use Rattle.store_engine.proofs.taking.count_same.Given as goal

abbrev pub invariant-loop-at : goal.invariant-loop-at
invariant-loop-at g l = ReadsOwn l.user (AreSame l.user l.folder l.mails) (state g.S.Store l.fn.store) (state g.S.Store l.store) (Ok l.at)
