-- What was read is a front of what was written, and the rest is the text of what is left.
use Rattle.std.proofs.Common.{◌≡◌, List, length}
use Rattle.smtp_queue.specs.Texts.{IsBook, waits_text}
use Rattle.smtp_queue.specs.declared.row_key.RowKey.{RowKey}
use Rattle.smtp_queue.specs.declared.wait.Wait.{Wait}
use Rattle.smtp_queue.proofs.TextLemmas.{Left}
use Rattle.smtp_queue.proofs.waits_file.lines_of.Given as goal

abbrev pub invariant-loop-line : goal.invariant-loop-line
invariant-loop-line l = (own : List (RowKey × Wait)) → IsBook own → l.fn.text ≡ waits_text own → Left own l.waits.map.entries l.rest

abbrev pub decreases-loop-line : goal.decreases-loop-line
decreases-loop-line l = length l.rest
