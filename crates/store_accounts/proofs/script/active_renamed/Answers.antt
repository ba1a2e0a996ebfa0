use Rattle.std.proofs.Common.{◌≡◌, Some, ap, sym, ◌∙◌, true, false, nat_eq}
use Rattle.std.specs.Cmp.Lexicographic.{pointwise}
use Rattle.store_accounts.proofs.CallLemmas.{renamed_is}
use Rattle.store_accounts.proofs.script.active_renamed.Goals as goal

pub returns-then-eq : goal.returns-then-eq
returns-then-eq c =
    let told : true ≡ pointwise nat_eq c.in-Some.active.now c.args.name.now = sym c.if-eq.true ∙ c.eq.ensures ∙ ap (λ l. pointwise nat_eq l c.args.name.now) c.as_slice.ensures in
    renamed_is c.args.active c.in-Some.active c.in-Some.is c.args.name.now c.args.other.now true told

pub returns : goal.returns
returns c =
    let told : false ≡ pointwise nat_eq c.in-Some.active.now c.args.name.now = sym c.if-eq.false ∙ c.eq.ensures ∙ ap (λ l. pointwise nat_eq l c.args.name.now) c.as_slice.ensures in
    ap Some c.as_slice-2.ensures ∙ renamed_is c.args.active c.in-Some.active c.in-Some.is c.args.name.now c.args.other.now false told
