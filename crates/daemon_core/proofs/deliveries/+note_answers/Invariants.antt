use Rattle.std.proofs.Common.{length}
use Rattle.daemon_core.proofs.deliveries.+note_answers.Given as goal

abbrev pub decreases-note_answers : goal.decreases-note_answers
decreases-note_answers l = length l.requests.now
