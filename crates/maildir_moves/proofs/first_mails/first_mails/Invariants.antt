use Rattle.sqlite.specs.Held.{state}
use Rattle.maildir_moves.proofs.FrontLemmas.{IsReading}
use Rattle.maildir_moves.proofs.first_mails.first_mails.Given as goal

abbrev pub invariant-loop-count : goal.invariant-loop-count
invariant-loop-count g l = IsReading l.user l.folder l.count l.mails l.octets (state g.S.Store l.fn.store) (state g.S.Store l.store)
