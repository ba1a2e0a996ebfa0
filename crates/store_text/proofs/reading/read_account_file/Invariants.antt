-- The parts so far were read, and what is left of a text of an account is that of its other parts.
use Rattle.std.proofs.Common.{length}
use Rattle.store_text.proofs.ReadLemmas.{IsReading}
use Rattle.store_text.proofs.reading.read_account_file.Given as goal

abbrev pub invariant-parts : goal.invariant-parts
invariant-parts l = IsReading l.text l.head l.parts l.rest

abbrev pub decreases-parts : goal.decreases-parts
decreases-parts l = length l.rest
