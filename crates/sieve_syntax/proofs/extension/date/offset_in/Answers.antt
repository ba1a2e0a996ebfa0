use Rattle.std.proofs.Common.{◌≡◌, ◌∙◌, None, Some, sym, arith, w16, FitsSigned}
use Rattle.std.proofs.lemmas.Int.{to_z-of_z, ints}
use Rattle.mail_dates.proofs.ZoneLaws.{numeric_is, numeric_again}
use Rattle.sieve_syntax.proofs.extension.date.offset_in.Goals as goal

pub returns-in-Some-clause-found : goal.returns-in-Some-clause-found
returns-in-Some-clause-found c =
    let fits : FitsSigned w16 c.in-Some.zone = omega (arith, ints, c.in-Some.ensures.within) in
    rw (to_z-of_z w16 c.in-Some.zone fits) (numeric_is c.args.text.now c.in-Some.zone (sym c.in-Some.ensures.is))

pub returns-in-None-clause-fault : goal.returns-in-None-clause-fault
returns-in-None-clause-fault c = λ zone is. let bad : None ≡ Some zone = c.in-None.ensures.is ∙ numeric_again c.args.text.now zone is in absurd (cc bad)
