-- Which parts an account with these numbers may have.
use Rattle.std.specs.Prelude.{◌≡◌, true, ℕ, List, [], ◌∷◌}
use Rattle.store_text.specs.Netstring.{AreFields}
use Rattle.store_text.specs.Fields.{part_fields, flags_fields}
use Rattle.store_text.specs.Order.{fits}
use Rattle.store_text.specs.declared.head.Numbers.{Numbers}
use Rattle.store_text.specs.declared.part.Part.{Part}
use Rattle.store_text.specs.declared.part.Part.TheVariants.{Script, Reply, Mail, Copy, Letter, Notice}

-- the fields of a part that aren't numbers
abbrev pub part_texts : Part → List (List ℕ)
part_texts (Script name text) = name ∷ text ∷ []
part_texts (Reply handle sender moment) = handle ∷ sender ∷ []
part_texts (Mail number folder message flags) = folder ∷ message ∷ flags_fields flags
part_texts (Copy number folder first flags) = folder ∷ flags_fields flags
part_texts (Letter id kind sender target message) = sender ∷ target ∷ message ∷ []
part_texts (Notice number moment text) = text ∷ []

-- the account gave its numbers, a database can hold its moment, and memory can hold its fields
pub record MayHave (numbers : Numbers) (part : Part) : Type 0 where
  pub given : fits numbers part ≡ true
  pub small : AreFields (part_fields part)
