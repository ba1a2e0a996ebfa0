use Rattle.std.proofs.Common.{◌∙◌, ap}
use Rattle.mail_head.specs.Heads.{unfold_of}
use Rattle.sieve_vacation.specs.Folds.{after_word}
use Rattle.sieve_vacation.proofs.WordLaws.{word_is, word_isnt}
use Rattle.sieve_vacation.proofs.value.is_word.Goals as goal

pub returns-in_default : goal.returns-in_default
returns-in_default c =
    word_isnt c.args.word.now (unfold_of c.args.raw.now) c.requires (c.in_default.ensures ∙ ap (after_word c.args.word.now) c.skip_blanks.ensures)

pub returns : goal.returns
returns c =
    c.is_blank_value.ensures ∙ word_is c.args.word.now (unfold_of c.args.raw.now) (unfold_of c.in-Some.after.now) c.requires (c.in-Some.ensures ∙ ap (after_word c.args.word.now) c.skip_blanks.ensures)
