-- The first line, and none where another one stands there.
use Rattle.std.proofs.Common.{sym}
use Rattle.store_text.proofs.EntryLemmas.{version_there, version_not_there, version_small}
use Rattle.store_text.proofs.entry.take_version.Goals as goal

pub returns-then-not-are_version-clause-none : goal.returns-then-not-are_version-clause-none
returns-then-not-are_version-clause-none c = λ same. version_not_there c.args.octets.now c.in_ok-fields.field-0 c.in_ok-fields.ensures.found c.in_ok-fields.ensures.fields c.in-Some.fields c.in-Some.rest c.in-Some.is c.as_slice.result.now c.as_slice.ensures.value version_small (sym c.if-not-are_version.ensures)

pub returns-clause-found : goal.returns-clause-found
returns-clause-found c = version_there c.args.octets.now c.in_ok-fields.field-0 c.in_ok-fields.ensures.found c.in_ok-fields.ensures.fields c.in-Some.fields c.in-Some.rest c.in-Some.is c.as_slice.result.now c.as_slice.ensures.value (sym c.if-not-are_version.ensures)
