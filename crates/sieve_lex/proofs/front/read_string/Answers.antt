use Rattle.std.proofs.Common.{◌≡◌, None, ◌∷◌}
use Rattle.std.proofs.lemmas.Result.{err_from_is_err_and}
use Rattle.sieve_lex.specs.declared.front.Front.{Front}
use Rattle.sieve_lex.specs.declared.quoted.Mode.TheVariants.{Inside}
use Rattle.sieve_lex.specs.Front.{IsFront}
use Rattle.sieve_lex.specs.Inside.{string_from}
use Rattle.sieve_lex.proofs.FaultLemmas.{fault_on}
use Rattle.sieve_lex.proofs.Strings.{string_found, no_string}
use Rattle.sieve_lex.proofs.front.read_string.Goals as goal

pub returns-in_err-value-clause-found : goal.returns-in_err-value-clause-found
returns-in_err-value-clause-found c =
    let p = err_from_is_err_and c.from_residual.result c.from_residual.ensures.1 in
    rw (p.1, p.2) (fault_on _ (string_from Inside c.args.octets.now ≡ None) ((g : Front) → IsFront (34 ∷ c.args.octets.now) g → ⊥) (no_string c.args.octets.now) c.in_err-value.ensures.fault)

pub returns-clause-found : goal.returns-clause-found
returns-clause-found c = string_found _ _ _ c.in_ok-value.ensures.within c.in_ok-value.ensures.found
