use Rattle.std.proofs.Common.{◌≡◌, ◌++◌, length}
use Rattle.mail_words.specs.Written.{folded}
use Rattle.mail_words.proofs.FoldingLemmas.{to_follow}
use Rattle.mail_words.proofs.folding.fold.Given as goal

abbrev pub invariant-loop-rest : goal.invariant-loop-rest
invariant-loop-rest l = l.value.items ++ to_follow l.value.items l.rest ≡ folded l.text

abbrev pub decreases-loop-rest : goal.decreases-loop-rest
decreases-loop-rest l = length l.rest
