use Rattle.std.proofs.Common.{ℕ, List, ◌++◌, sym, ap, ◌∙◌}
use Rattle.sha2.specs.Sha256.{sha256}
use Rattle.sasl_plain.proofs.Rounds.{digest_of-zero, digest_of-more}
use Rattle.sasl_plain.proofs.password.digest.Goals as goal

pub loop-init : goal.loop-init
loop-init c = c.hashed-digest.ensures ∙ digest_of-zero c.args.salt.now c.args.password.now

pub loop-preserved : goal.loop-preserved
loop-preserved c =
    c.hashed-digest-in-loop.ensures
    ∙ ap (λ (d : List ℕ). sha256 (d ++ c.args.salt.now ++ c.args.password.now)) c.loop.invariant
    ∙ sym (digest_of-more c.args.salt.now c.args.password.now c.loop.counter)
