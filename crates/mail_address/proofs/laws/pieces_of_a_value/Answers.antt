use Rattle.std.proofs.Common.{sym}
use Rattle.mail_address.proofs.Cuts.{cut-all, cut-only}
use Rattle.mail_address.proofs.laws.pieces_of_a_value.Goals as goal

pub returns-clause-found : goal.returns-clause-found
returns-clause-found c = cut-all

pub returns-clause-only : goal.returns-clause-only
returns-clause-only c = λ value cut is. sym (cut-only value cut is)
