use Rattle.std.proofs.Common.{◌≡◌, ◌++◌, length}
use Rattle.mail_words.specs.Runs.{runs_of}
use Rattle.mail_words.specs.Values.{given_from, decoded_text}
use Rattle.mail_words.proofs.decoding.decoded.Given as goal

abbrev pub invariant-loop-rest : goal.invariant-loop-rest
invariant-loop-rest l = l.text.items ++ given_from l.after_word (runs_of l.rest) ≡ decoded_text l.value

abbrev pub decreases-loop-rest : goal.decreases-loop-rest
decreases-loop-rest l = length l.rest
