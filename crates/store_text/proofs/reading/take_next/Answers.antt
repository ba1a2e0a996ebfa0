-- What was read may not stand there, and nothing else is read there.
use Rattle.std.proofs.Common.{sym}
use Rattle.store_text.proofs.ReadLemmas.{next_refused}
use Rattle.store_text.proofs.reading.take_next.Goals as goal

pub returns-then-not-may_stand : goal.returns-then-not-may_stand
returns-then-not-may_stand c = next_refused _ _ c.args.octets.now c.in_ok-entry.entry c.in_ok-entry.rest c.in_ok-entry.ensures (sym c.if-not-may_stand.ensures)
