use Rattle.std.proofs.Common.{◌∙◌, ap}
use Rattle.mail_head.specs.Heads.{unfold_of}
use Rattle.sieve_vacation.specs.Folds.{after_word}
use Rattle.sieve_vacation.proofs.WordLaws.{mark_word, mark_other}
use Rattle.sieve_vacation.proofs.value.is_word_before.Goals as goal

pub returns-in_default : goal.returns-in_default
returns-in_default c =
    mark_other c.args.mark c.args.word.now (unfold_of c.args.raw.now) c.requires.apart c.requires.small (c.in_default.ensures ∙ ap (after_word c.args.word.now) c.skip_blanks.ensures)

pub returns : goal.returns
returns c =
    c.ends_by_mark.ensures ∙ mark_word c.args.mark c.args.word.now (unfold_of c.args.raw.now) (unfold_of c.in-Some.after.now) c.requires.apart c.requires.small (c.in-Some.ensures ∙ ap (after_word c.args.word.now) c.skip_blanks.ensures)
