use Rattle.std.proofs.Common.{◌∙◌, List, ℕ, Some, ap, sym}
use Rattle.sieve_exec.proofs.DateLemmas.{behind_found, behind_nowhere}
use Rattle.sieve_exec.proofs.extension.date.after_last.Goals as goal

pub returns-in_err-at : goal.returns-in_err-at
returns-in_err-at c = rw c.from_residual.ensures (behind_nowhere c.args.text.now c.in_err-at.ensures)

pub returns : goal.returns
returns c = behind_found c.args.text.now c.in_ok-at.at c.in_ok-at.ensures.0 c.in_ok-at.ensures.1 ∙ ap (λ (l : List ℕ). Some l) (sym c.split_at.ensures.back)
