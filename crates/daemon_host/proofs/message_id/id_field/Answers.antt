use Rattle.std.proofs.Common.{◌∙◌, ap}
use Rattle.std.specs.Prelude.{option_map}
use Rattle.mail_head.specs.Fields.{field_text_of}
use Rattle.daemon_host.proofs.LogLemmas.{found_in_texts}
use Rattle.daemon_host.proofs.message_id.id_field.Goals as goal

pub returns : goal.returns
returns c = ap (option_map field_text_of) c.first_id.ensures ∙ found_in_texts c.args.fields.now
