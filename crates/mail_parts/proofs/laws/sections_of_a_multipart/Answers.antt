use Rattle.mail_parts.proofs.MultipartLaws.{sections_stand}
use Rattle.mail_parts.proofs.laws.sections_of_a_multipart.Goals as goal

pub returns : goal.returns
returns c = sections_stand
