-- The three texts that were appended are the line.
use Rattle.std.proofs.Common.{◌≡◌, List, ℕ, [], ◌∷◌, ◌++◌, append_assoc, codes, decimal, rules}
use Rattle.std.proofs.lemmas.Result.{on_ok_weaker}
use Rattle.daemon_core.proofs.report.add_reason.Goals as goal

reason_written : (old reason a b new : List ℕ) → a ≡ old ++ codes "vacation quiet " → b ≡ a ++ reason → new ≡ b ++ 10 ∷ [] → new ≡ old ++ ((codes "vacation quiet " ++ reason) ++ 10 ∷ [])
reason_written old reason a b new one two three = rw (three, two, one) (simp append_assoc)

pub returns : goal.returns
returns c =
    on_ok_weaker c.push.result (λ last. reason_written c.args.text.now (decimal c.args.reason) c.extend_from_slice.new.self c.write_decimal.new.out c.push.new.self c.in_ok-extend_from_slice.ensures.ok (search rules) last)
    c.push.ensures.ok
