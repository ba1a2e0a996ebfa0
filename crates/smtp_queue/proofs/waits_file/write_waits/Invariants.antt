-- The lines of the waits that were looked at, and those of the others.
use Rattle.std.proofs.Common.{◌≡◌, ◌++◌}
use Rattle.smtp_queue.specs.Texts.{waits_text, kept_at}
use Rattle.smtp_queue.proofs.waits_file.write_waits.Given as goal

abbrev pub invariant-loop-place : goal.invariant-loop-place
invariant-loop-place l = l.text ++ waits_text (kept_at l.now l.place-iterator) ≡ waits_text (kept_at l.now l.waits.map.entries)
