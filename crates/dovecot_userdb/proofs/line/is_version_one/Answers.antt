use Rattle.std.proofs.Common.{sym, ◌∙◌, subst, List, ℕ}
use Rattle.std.specs.Option.{option_copied}
use Rattle.std.specs.Cmp.Lexicographic.{same_text, other_text}
use Rattle.dovecot_userdb.specs.Lines.{CutsAt, field_end}
use Rattle.dovecot_userdb.proofs.AnswerLemmas.{tells_version, tells_no_version}
use Rattle.dovecot_userdb.proofs.line.is_version_one.Goals as goal

pub returns-then-eq : goal.returns-then-eq
returns-then-eq c =
    let is = same_text c.cut_at.result.0.now c.as_slice.result.now c.if-eq.ensures ∙ c.as_slice.ensures in
    tells_version c.args.line.now _ c.begins_with_one.result (subst (λ (w : List ℕ). CutsAt field_end c.args.line.now w (option_copied c.cut_at.result.1)) is c.cut_at.ensures) c.begins_with_one.ensures

pub returns : goal.returns
returns c = tells_no_version c.args.line.now _ _ c.cut_at.ensures (λ is. other_text c.cut_at.result.0.now c.as_slice.result.now c.if-eq.ensures (is ∙ sym c.as_slice.ensures))
