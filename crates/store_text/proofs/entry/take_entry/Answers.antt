-- What the line's fields say, and where they say none.
use Rattle.std.proofs.Common.{sym, ◌∙◌}
use Rattle.store_text.proofs.FieldLemmas.{entry_codec}
use Rattle.store_text.proofs.EntryLemmas.{line_says, line_says_none}
use Rattle.store_text.proofs.entry.take_entry.Goals as goal

pub returns-in_default-2 : goal.returns-in_default-2
returns-in_default-2 c = line_says_none c.args.octets.now c.in_ok-fields.field-0 c.in_ok-fields.ensures.found c.in_ok-fields.ensures.fields c.in-Some.fields c.in-Some.rest c.in-Some.is c.as_slice.result.now c.as_slice.ensures.value _ _ _ entry_codec (sym c.in_default-2.is ∙ c.in_ok-entry.ensures)

pub returns : goal.returns
returns c = line_says c.args.octets.now c.in_ok-fields.field-0 c.in_ok-fields.ensures.found c.in_ok-fields.ensures.fields c.in-Some.fields c.in-Some.rest c.in-Some.is c.as_slice.result.now c.as_slice.ensures.value _ _ _ entry_codec c.in-Some-2.entry (sym c.in-Some-2.is ∙ c.in_ok-entry.ensures)
