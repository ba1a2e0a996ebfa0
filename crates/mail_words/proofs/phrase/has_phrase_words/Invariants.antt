use Rattle.std.proofs.Common.{◌≡◌, length}
use Rattle.mail_words.specs.Written.{has_phrase_words}
use Rattle.mail_words.proofs.phrase.has_phrase_words.Given as goal

abbrev pub invariant-loop-rest : goal.invariant-loop-rest
invariant-loop-rest l = has_phrase_words l.rest ≡ has_phrase_words l.text

abbrev pub decreases-loop-rest : goal.decreases-loop-rest
decreases-loop-rest l = length l.rest
