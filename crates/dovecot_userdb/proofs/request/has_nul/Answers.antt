use Rattle.std.proofs.Common.{subst, List, ℕ, Option, Some, Bor}
use Rattle.std.specs.Option.{option_copied}
use Rattle.dovecot_userdb.specs.Lines.{HasNone, CutsAt}
use Rattle.dovecot_userdb.proofs.LineLemmas.{not_with_mark}
use Rattle.dovecot_userdb.proofs.request.has_nul.Goals as goal

pub returns-in_default-Some : goal.returns-in_default-Some
returns-in_default-Some c = λ none.
    let cut : CutsAt 0 c.args.name.now c.cut_at.result.0.now (Some c.in_default-Some.field-0-1.now) =
    subst (λ (o : Option (Bor (List ℕ))). CutsAt 0 c.args.name.now c.cut_at.result.0.now (option_copied o)) c.in_default-Some.is-1 c.cut_at.ensures in
    not_with_mark 0 c.cut_at.result.0.now c.in_default-Some.field-0-1.now (subst (λ (l : List ℕ). HasNone 0 l) cut.written none)
