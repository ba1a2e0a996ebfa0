use Rattle.std.proofs.Common.{◌≡◌, ◌∙◌, ◌∷◌, ℕ, ℤ, List, sym, ap, subst}
use Rattle.std.proofs.lemmas.Result.{err_from_is_err_and}
use Rattle.mail_dates.specs.Zones.{IsOffset}
use Rattle.sieve_syntax.specs.declared.parser.argument.Argument.{Argument}
use Rattle.sieve_syntax.specs.declared.parser.argument.Argument.TheVariants as A
use Rattle.sieve_syntax.proofs.FaultLemmas.{fault_on}
use Rattle.sieve_syntax.proofs.extension.date.zone_at.Goals as goal

-- a string that is no zone is none at the front
no_zone : (text : List ℕ) (args rest : List Argument) → args ≡ A.Text text ∷ rest → ((zone : ℤ) → IsOffset text zone → ⊥)
    → (s : List ℕ) (zone : ℤ) (to : List Argument) → args ≡ A.Text s ∷ to → IsOffset s zone → ⊥
no_zone text args rest spelled none s zone to at is =
    let same : A.Text text ∷ rest ≡ A.Text s ∷ to = sym spelled ∙ at in
    let e : text ≡ s = cc in
    none zone (subst (λ (l : List ℕ). IsOffset l zone) (sym e) is)

pub returns-in_err-offset_in-in-Text-clause-fault : goal.returns-in_err-offset_in-in-Text-clause-fault
returns-in_err-offset_in-in-Text-clause-fault c =
    let p = err_from_is_err_and c.from_residual-in_err-offset_in-in-Text.result c.from_residual-in_err-offset_in-in-Text.ensures.1 in
    let spelled : c.args.args.now ≡ A.Text c.in-Text.text ∷ c.in_ok-value.rest.now = c.in_ok-value.ensures.found ∙ ap (λ v. v ∷ c.in_ok-value.rest.now) c.in-Text.is in
    rw (p.1, p.2) (fault_on _ _ _ (no_zone _ _ _ spelled) (rw c.as_slice.ensures at c.in_err-offset_in-in-Text.ensures.fault))
