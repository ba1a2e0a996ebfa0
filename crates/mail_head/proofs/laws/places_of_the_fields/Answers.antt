use Rattle.mail_head.proofs.PlaceLemmas.{fields_placed}
use Rattle.mail_head.proofs.laws.places_of_the_fields.Goals as goal

pub returns : goal.returns
returns c = fields_placed
