use Rattle.std.proofs.Common.{◌∙◌, sym, ap, drop}
use Rattle.sieve_vacation.specs.Folds.{after_word}
use Rattle.sieve_vacation.proofs.WordLaws.{none_after}
use Rattle.sieve_vacation.proofs.value.after_word.Goals as goal

pub returns-in_default : goal.returns-in_default
returns-in_default c =
    let at = c.loop-letter.letter-index in
    sym (sym c.loop-letter.invariant ∙ (ap (after_word (drop at c.args.word.now)) c.in_default.ensures.value ∙ none_after c.args.word.now at c.loop-letter-test.true))
