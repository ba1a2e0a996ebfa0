-- What the line's fields say, and where they say none.
use Rattle.store_text.proofs.FieldLemmas.{numbers_codec}
use Rattle.store_text.proofs.EntryLemmas.{line_says, line_says_none}
use Rattle.store_text.proofs.entry.take_numbers.Goals as goal

pub returns-in_default-numbers_of : goal.returns-in_default-numbers_of
returns-in_default-numbers_of c = line_says_none c.args.octets.now c.in_ok-fields.field-0 c.in_ok-fields.ensures.found c.in_ok-fields.ensures.fields c.in-Some.fields c.in-Some.rest c.in-Some.is c.as_slice.result.now c.as_slice.ensures.value _ _ _ numbers_codec (c.in_default-numbers_of.ensures)

pub returns : goal.returns
returns c = line_says c.args.octets.now c.in_ok-fields.field-0 c.in_ok-fields.ensures.found c.in_ok-fields.ensures.fields c.in-Some.fields c.in-Some.rest c.in-Some.is c.as_slice.result.now c.as_slice.ensures.value _ _ _ numbers_codec c.in-Some-numbers_of.numbers (c.in-Some-numbers_of.ensures)
