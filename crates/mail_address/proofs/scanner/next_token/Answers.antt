use Rattle.mail_address.proofs.Fronts.{next-at, pieces-nil}
use Rattle.mail_address.proofs.scanner.next_token.Goals as goal

pub returns : goal.returns
returns c =
    let split = c.in_ok-first.ensures in
    next-at c.in_ok-first.first.now c.in_ok-first.others.now c.args.text.now _ _ _ split.cases.0 c.first_piece-kind.ensures.is c.split_at.ensures.front c.split_at.ensures.back

pub returns-in_err-first : goal.returns-in_err-first
returns-in_err-first c = rw c.from_residual.ensures (pieces-nil c.args.text.now c.in_err-first.ensures.cases)
