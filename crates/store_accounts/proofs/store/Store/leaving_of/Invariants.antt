-- The first copies so far.
use Rattle.std.proofs.Common.{Ok}
use Rattle.sqlite.specs.Held.{state}
use Rattle.store_accounts.specs.declared.refusal.Refusal.{Refusal}
use Rattle.store_accounts.specs.Taking.{SeesAmong}
use Rattle.store_accounts.proofs.LeavingLemmas.{IsLeavingVec}
use Rattle.store_accounts.proofs.store.Store.leaving_of.Given as goal

abbrev pub invariant-loop-at : goal.invariant-loop-at
invariant-loop-at g l = SeesAmong {E = Refusal} l.user (IsLeavingVec l.user l.folder l.at) (state g.S.Store l.initial.self) (state g.S.Store l.self) (Ok l.leaving)
