use Rattle.mail_parts.proofs.BoundaryLaws.{delimiter_is, is_delimiter, close_is, is_close}
use Rattle.mail_parts.proofs.laws.form_of_a_boundary_line.Goals as goal

pub returns-clause-delimiter : goal.returns-clause-delimiter
returns-clause-delimiter c = λ boundary line. (delimiter_is boundary line, is_delimiter boundary line)

pub returns-clause-close : goal.returns-clause-close
returns-clause-close c = λ boundary line. (close_is boundary line, is_close boundary line)
