-- So far none is in INBOX, so the flags are those among what follows.
use Rattle.std.proofs.Common.{◌≡◌, drop}
use Rattle.sieve_plan.specs.Handover.{inbox_flags}
use Rattle.sieve_plan.proofs.placements.inbox_flags.Given as goal

abbrev pub invariant-loop-placement : goal.invariant-loop-placement
invariant-loop-placement l = inbox_flags (drop l.placement-index l.filed) ≡ inbox_flags l.filed
