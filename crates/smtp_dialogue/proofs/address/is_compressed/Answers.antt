use Rattle.std.proofs.Common.{subst, sym}
use Rattle.smtp_dialogue.specs.Addresses.{Fit, some_groups_of}
use Rattle.smtp_dialogue.proofs.AddressLemmas.{compressed_by, fit_compressed, no_compressed}
use Rattle.smtp_dialogue.proofs.address.is_compressed.Goals as goal

pub returns-in-Some : goal.returns-in-Some
returns-in-Some c =
    let front = c.in-Some.cut.front.now in
    let rest = c.in-Some.cut.rest.now in (
      λ yes. compressed_by c.args.text.now front rest c.in-Some.ensures.found
          (subst (λ o. Fit o (some_groups_of rest) 6) c.some_groups_of.ensures (subst (λ o. Fit c.some_groups_of.result o 6) c.some_groups_of-in-Some.ensures (c.fit.ensures.0 yes))),
      λ is. c.fit.ensures.1
          (subst (λ o. Fit c.some_groups_of.result o 6) (sym c.some_groups_of-in-Some.ensures)
          (subst (λ o. Fit o (some_groups_of rest) 6) (sym c.some_groups_of.ensures) (fit_compressed c.args.text.now front rest c.in-Some.ensures.one is))),
    )

pub returns-in-None : goal.returns-in-None
returns-in-None c = (λ no. absurd (cc no), λ is. absurd (no_compressed c.args.text.now c.in-None.ensures.none is))
