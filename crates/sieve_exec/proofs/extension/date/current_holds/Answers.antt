use Rattle.std.proofs.Common.{◌≡◌, ◌∙◌, Bool, IfOk, w16, FitsSigned, arith, sym, ap, subst}
use Rattle.std.specs.Prelude.{unwrap_or}
use Rattle.std.proofs.lemmas.Int.{to_z-of_z, ints}
use Rattle.mail_dates.specs.declared.date_time.DateTime.{DateTime}
use Rattle.mail_dates.specs.DateTimes.{IsMoment}
use Rattle.sieve_exec.specs.Extension.Relational.{is_count}
use Rattle.sieve_exec.specs.Extension.Date.{date_matches}
use Rattle.sieve_exec.proofs.DateLemmas.{moment_found, moment_nowhere, moment_as}
use Rattle.sieve_exec.proofs.Decisions.{each_asked, other_asked}
use Rattle.sieve_exec.proofs.extension.date.current_holds.Goals as goal

pub returns-in-Some : goal.returns-in-Some
returns-in-Some c =
    let mail = c.args.mail.now in
    let test = c.args.test.now in
    let zone = unwrap_or test.zone mail.zone in
    let passes : DateTime → Bool = date_matches test.comparator test.matching test.keys test.part in
    let near : FitsSigned w16 c.zone.result = omega (arith, ints, c.zone.ensures.within) in
    let fits : FitsSigned w16 c.unwrap_or-zone.result = omega (arith, ints, c.unwrap_or-zone.type_inv) in
    let host = to_z-of_z w16 c.zone.result near ∙ c.zone.ensures.zone in
    let clock = to_z-of_z w16 c.unwrap_or-zone.result fits ∙ (c.unwrap_or-zone.ensures ∙ ap (unwrap_or test.zone) host) in
    let is : IsMoment mail.moment zone c.in-Some.date = moment_as _ _ _ _ c.in-Some.date c.moment.ensures clock c.in-Some.ensures in
    each_asked c.part_matches.result (is_count test.matching) _ _ (sym c.is_count.ensures ∙ c.if-is_count.false)
    (subst (λ (b : Bool). IfOk c.part_matches.result (λ holds. holds ≡ b)) (moment_found mail.moment zone passes c.in-Some.date is) (rw c.as_slice-in-Some.ensures at c.part_matches.ensures))

pub returns-in-None : goal.returns-in-None
returns-in-None c =
    let mail = c.args.mail.now in
    let test = c.args.test.now in
    let zone = unwrap_or test.zone mail.zone in
    let passes : DateTime → Bool = date_matches test.comparator test.matching test.keys test.part in
    let near : FitsSigned w16 c.zone.result = omega (arith, ints, c.zone.ensures.within) in
    let fits : FitsSigned w16 c.unwrap_or-zone.result = omega (arith, ints, c.unwrap_or-zone.type_inv) in
    let host = to_z-of_z w16 c.zone.result near ∙ c.zone.ensures.zone in
    let clock = to_z-of_z w16 c.unwrap_or-zone.result fits ∙ (c.unwrap_or-zone.ensures ∙ ap (unwrap_or test.zone) host) in
    let none : (date : DateTime) → IsMoment mail.moment zone date → ⊥ =
    λ date is. c.in-None.ensures date (moment_as _ _ _ _ date (sym c.moment.ensures) (sym clock) is) in
    other_asked (is_count test.matching) _ _ _ (sym c.is_count.ensures ∙ c.if-is_count.false) (moment_nowhere mail.moment zone passes none)
