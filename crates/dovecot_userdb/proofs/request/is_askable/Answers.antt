use Rattle.std.proofs.Common.{subst, Bool, arith, MatchBool}
use Rattle.dovecot_userdb.specs.Lines.{HasNone}
use Rattle.dovecot_userdb.proofs.EscapeLemmas.{escaped_least}
use Rattle.dovecot_userdb.proofs.request.is_askable.Goals as goal
use Rattle.dovecot_userdb.proofs.request.is_askable.Goals.{then-name-gt-MAX_NAME-via-then-name-gt-MAX_NAME, then-name-gt-MAX_NAME-via-else-name-gt-MAX_NAME+then-has_nul}

pub returns-then-name-gt-MAX_NAME : goal.returns-then-name-gt-MAX_NAME
returns-then-name-gt-MAX_NAME c =
    elim c.then-name-gt-MAX_NAME.branch [
      | then-name-gt-MAX_NAME-via-then-name-gt-MAX_NAME w ↦ (λ never. absurd (cc never), λ askable. absurd (omega (arith, escaped_least c.args.name.now, askable.short, w.if-name-gt-MAX_NAME.true)))
      | then-name-gt-MAX_NAME-via-else-name-gt-MAX_NAME+then-has_nul w ↦ (
        λ never. absurd (cc never),
        λ askable. absurd (subst (λ (b : Bool). MatchBool b (HasNone 0 c.args.name.now → ⊥) (HasNone 0 c.args.name.now)) w.if-has_nul.true w.has_nul.ensures askable.no_nul),
      )
    ]
