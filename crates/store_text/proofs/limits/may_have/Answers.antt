use Rattle.std.proofs.Common.{sym, ◌∙◌, arith}
use Rattle.store_text.proofs.LimitLemmas.{fields_small, texts_small}
use Rattle.store_text.proofs.limits.may_have.Goals as goal

pub returns-then-fits : goal.returns-then-fits
returns-then-fits c =
    let given = sym c.fits.ensures ∙ c.if-fits.true in (
      λ is. record { given = given; small = fields_small c.args.numbers (omega arith) (omega arith) (omega arith) c.args.part.now given (c.has_texts.ensures.0 is) },
      λ may. c.has_texts.ensures.1 (texts_small c.args.part.now may.small),
    )
