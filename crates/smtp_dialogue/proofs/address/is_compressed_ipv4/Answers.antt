use Rattle.std.proofs.Common.{subst, sym}
use Rattle.smtp_dialogue.specs.Addresses.{Fit, some_groups_of}
use Rattle.smtp_dialogue.proofs.AddressLemmas.{mixed_by, fit_mixed, no_mixed}
use Rattle.smtp_dialogue.proofs.address.is_compressed_ipv4.Goals as goal

pub returns-in-Some : goal.returns-in-Some
returns-in-Some c =
    let front = c.in-Some.cut.front.now in
    let rest = c.in-Some.cut.rest.now in (
      λ yes. mixed_by c.args.text.now front rest c.ends_in_ipv4.result c.in-Some.ensures.found c.ends_in_ipv4.ensures (subst (λ o. Fit o c.ends_in_ipv4.result 4) c.some_groups_of.ensures (c.fit.ensures.0 yes)),
      λ is. c.fit.ensures.1
          (subst (λ o. Fit o c.ends_in_ipv4.result 4) (sym c.some_groups_of.ensures) (fit_mixed c.args.text.now front rest c.ends_in_ipv4.result c.in-Some.ensures.one c.ends_in_ipv4.ensures is)),
    )

pub returns-in-None : goal.returns-in-None
returns-in-None c = (λ no. absurd (cc no), λ is. absurd (no_mixed c.args.text.now c.in-None.ensures.none is))
