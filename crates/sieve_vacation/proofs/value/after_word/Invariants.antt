use Rattle.std.proofs.Common.{◌≡◌, drop}
use Rattle.mail_head.specs.Heads.{unfold_of}
use Rattle.sieve_vacation.specs.Folds.{after_word}
use Rattle.sieve_vacation.proofs.value.after_word.Given as goal

abbrev pub invariant-loop-letter : goal.invariant-loop-letter
invariant-loop-letter l = after_word (drop l.letter-index l.word) (unfold_of l.rest) ≡ after_word l.word (unfold_of l.raw)
