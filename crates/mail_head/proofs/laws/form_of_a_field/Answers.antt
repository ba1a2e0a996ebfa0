use Rattle.mail_head.proofs.FormLemmas.{field_is, is_field}
use Rattle.mail_head.proofs.laws.form_of_a_field.Goals as goal

pub returns : goal.returns
returns c = λ line field. (field_is line field, is_field line field)
