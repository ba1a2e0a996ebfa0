use Rattle.std.proofs.Common.{sym, ◌∙◌, subst, List, ℕ, Some}
use Rattle.dovecot_userdb.specs.Lines.{CutsAt}
use Rattle.dovecot_userdb.proofs.LineLemmas.{cut_none, cut_some}
use Rattle.dovecot_userdb.proofs.line.cut_at.Goals as goal

pub returns-in_default : goal.returns-in_default
returns-in_default c = cut_none c.args.mark c.args.octets.now c.in_default.ensures

pub returns-in-Some-split_first : goal.returns-in-Some-split_first
returns-in-Some-split_first c =
    let it = cut_some c.args.mark c.args.octets.now c.in-Some.at _ _ c.in-Some.ensures (sym c.split_at.ensures.back ∙ c.in-Some-split_first.ensures.cases.0) in
    subst (λ (f : List ℕ). CutsAt c.args.mark c.args.octets.now f (Some c.in-Some-split_first.rest.now)) (sym c.split_at.ensures.front) it
