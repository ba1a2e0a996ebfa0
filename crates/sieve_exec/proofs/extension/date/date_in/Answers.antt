use Rattle.std.proofs.Common.{◌≡◌, ◌∙◌, true, false, sym, ap, nat_eq}
use Rattle.std.specs.Prelude.{codes}
use Rattle.std.specs.Cmp.Lexicographic.{pointwise}
use Rattle.sieve_exec.proofs.DateLemmas.{read_same, date_behind, date_whole}
use Rattle.sieve_exec.proofs.extension.date.date_in.Goals as goal

pub returns-in_ok-after_last-clause-is : goal.returns-in_ok-after_last-clause-is
returns-in_ok-after_last-clause-is c =
    let on : pointwise nat_eq c.args.key.now (codes "received") ≡ true = ap (pointwise nat_eq c.args.key.now) (sym c.as_slice.ensures) ∙ (sym c.eq.ensures ∙ c.if-eq.true) in
    date_behind (pointwise nat_eq c.args.key.now (codes "received")) c.args.value.now c.in_ok-after_last.field-0.now c.read_date.result on c.in_ok-after_last.ensures
    (read_same c.in_ok-after_last.field-0.now c.read_date.result c.read_date.ensures.exact)

pub returns-else-eq-clause-is : goal.returns-else-eq-clause-is
returns-else-eq-clause-is c =
    let off : pointwise nat_eq c.args.key.now (codes "received") ≡ false = ap (pointwise nat_eq c.args.key.now) (sym c.as_slice.ensures) ∙ (sym c.eq.ensures ∙ c.if-eq.false) in
    date_whole (pointwise nat_eq c.args.key.now (codes "received")) c.args.value.now c.read_date-else-eq.result off
    (read_same c.args.value.now c.read_date-else-eq.result c.read_date-else-eq.ensures.exact)
