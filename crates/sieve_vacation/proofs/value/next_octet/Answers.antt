use Rattle.std.proofs.Common.{◌∙◌, sym, ap, drop}
use Rattle.sieve_vacation.proofs.FoldLaws.{first_unfolded}
use Rattle.sieve_vacation.proofs.value.next_octet.Goals as goal

pub returns-clause-value : goal.returns-clause-value
returns-clause-value c =
    first_unfolded c.args.raw.now c.in_ok-octet.after.now c.in_ok-octet.octet.now
    (ap (λ n. drop n c.args.raw.now) (sym c.fold_len.ensures.value) ∙ (sym c.split_at.ensures.back ∙ c.in_ok-octet.ensures.cases.0))
