use Rattle.std.proofs.Common.{◌≡◌, None, ap, sym, refl}
use Rattle.std.proofs.lemmas.Result.{err_from_is_err_and}
use Rattle.sieve_lex.specs.declared.front.Front.{Front}
use Rattle.sieve_lex.specs.declared.multiline.BodyState.TheVariants.{Opening}
use Rattle.sieve_lex.specs.Front.{IsFront}
use Rattle.sieve_lex.specs.Body.{body_from}
use Rattle.sieve_lex.proofs.FaultLemmas.{fault_on}
use Rattle.sieve_lex.specs.declared.token.Content.TheVariants.{Text}
use Rattle.sieve_lex.proofs.Best.{found_at}
use Rattle.sieve_lex.proofs.Several.{several_found, several_none, word_five}
use Rattle.sieve_lex.proofs.front.read_multiline.Goals as goal

pub split_at-requires : goal.split_at-requires
split_at-requires c = word_five _ c.requires

pub returns-in_err-value-clause-found : goal.returns-in_err-value-clause-found
returns-in_err-value-clause-found c =
    let p = err_from_is_err_and c.from_residual.result c.from_residual.ensures.1 in
    rw (p.1, p.2) (fault_on _ (body_from Opening c.split_at.result.1.now ≡ None) ((g : Front) → IsFront c.args.octets.now g → ⊥) (several_none c.args.octets.now c.split_at.result.1.now c.requires c.split_at.ensures.back) c.in_err-value.ensures.fault)

pub returns-clause-found : goal.returns-clause-found
returns-clause-found c = found_at _ _ _ _ _ (ap Text (sym c.apart.ensures)) refl (several_found _ _ _ _ c.requires c.split_at.ensures.back c.in_ok-value.ensures.within c.in_ok-value.ensures.found)
