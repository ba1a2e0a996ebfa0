use Rattle.std.proofs.Common.{◌≡◌, true}
use Rattle.std.proofs.lemmas.Result.{err_from_is_err_and}
use Rattle.sieve_syntax.specs.Capabilities.{granted_by}
use Rattle.sieve_syntax.specs.Extension.Envelope.{IsEnvelopeTest}
use Rattle.sieve_syntax.specs.Extension.Subaddress.{MayNamePart}
use Rattle.sieve_syntax.specs.Comparators.{MayMatch}
use Rattle.sieve_syntax.specs.Extension.Envelope.{MayAskEnvelope}
use Rattle.sieve_syntax.specs.declared.extension.envelope.EnvelopeTest.{EnvelopeTest}
use Rattle.sieve_syntax.proofs.FaultLemmas.{fault_on, none_fits, one_unfit}
use Rattle.sieve_syntax.specs.declared.capability.Capability.TheVariants as Q
use Rattle.sieve_syntax.proofs.extension.envelope.permitted_envelope.Goals as goal

pub returns-in_err-require : goal.returns-in_err-require
returns-in_err-require c =
    let p = err_from_is_err_and c.from_residual.result c.from_residual.ensures.1 in
    rw (p.1, p.2) (fault_on _ ((granted_by c.args.granted.now) Q.Envelope ≡ true → ⊥) ((x : EnvelopeTest) → IsEnvelopeTest c.args.args.now x → MayAskEnvelope (granted_by c.args.granted.now) x → ⊥) (λ bad x is fit. bad fit.0) c.in_err-require.ensures.fault)

pub returns-in_err-envelope : goal.returns-in_err-envelope
returns-in_err-envelope c =
    let p = err_from_is_err_and c.from_residual-in_err-envelope.result c.from_residual-in_err-envelope.ensures.1 in
    rw (p.1, p.2) (none_fits (IsEnvelopeTest c.args.args.now) (MayAskEnvelope (granted_by c.args.granted.now)) _ c.in_err-envelope.ensures)

pub returns-in_err-require_part : goal.returns-in_err-require_part
returns-in_err-require_part c =
    let p = err_from_is_err_and c.from_residual-in_err-require_part.result c.from_residual-in_err-require_part.ensures.1 in
    rw (p.1, p.2) (one_unfit (IsEnvelopeTest c.args.args.now) (MayAskEnvelope (granted_by c.args.granted.now)) _ c.in_ok-envelope.ensures.1 _ (fault_on _ (MayNamePart (granted_by c.args.granted.now) c.in_ok-envelope.envelope.part → ⊥) (MayAskEnvelope (granted_by c.args.granted.now) c.in_ok-envelope.envelope → ⊥) (λ bad fit. bad fit.1) c.in_err-require_part.ensures.fault))

pub returns-in_err-require_match : goal.returns-in_err-require_match
returns-in_err-require_match c =
    let p = err_from_is_err_and c.from_residual-in_err-require_match.result c.from_residual-in_err-require_match.ensures.1 in
    let envelope = c.in_ok-envelope.envelope in
    rw (p.1, p.2) (one_unfit (IsEnvelopeTest c.args.args.now) (MayAskEnvelope (granted_by c.args.granted.now)) _ c.in_ok-envelope.ensures.1 _ (fault_on _ (MayMatch (granted_by c.args.granted.now) envelope.comparator envelope.matching → ⊥) (MayAskEnvelope (granted_by c.args.granted.now) envelope → ⊥) (λ bad fit. bad fit.2) c.in_err-require_match.ensures.fault))
