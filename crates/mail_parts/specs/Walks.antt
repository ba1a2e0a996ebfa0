-- How the parts of a message are read.
use Rattle.std.specs.Prelude.{◌≡◌, ℕ, ◌≤◌, ◌↔◌, Bool, false, IsTrue, List, [], ◌∷◌, ◌++◌, length, take}
use Rattle.std.specs.List.{flat_map, list_any}
use Rattle.mail_parts.specs.Parts.{PartText, entity_parts, parts_of, is_cut}
use Rattle.mail_parts.specs.PartReading.{texts_left}
use Rattle.mail_parts.specs.declared.limits.TheConstants.{MAX_PARTS}
use Rattle.mail_parts.specs.declared.walk.Pending.{Pending}
use Rattle.mail_parts.specs.declared.walk.MailParts.{MailParts}

-- the parts that some texts are, and those below them
unfoldable pub parts_in : ℕ → Bool → List (List ℕ) → List PartText
parts_in left digest texts = flat_map (λ text. entity_parts left digest text) texts

-- the parts that are still to be read, the last entry first
abbrev pub parts_pending : List Pending → List PartText
parts_pending [] = []
parts_pending (entry ∷ more) = parts_pending more ++ parts_in entry.left entry.digest (texts_left entry.sections)

-- the first parts of a message were read, and whether these are all, with none below the last level
pub record ReadsParts (message : List ℕ) (read : MailParts) : Type 0 where
  pub parts : read.parts.items ≡ take MAX_PARTS (parts_of message)
  pub complete : IsTrue read.complete ↔ ((length (parts_of message) ≤ MAX_PARTS) × (list_any is_cut (parts_of message) ≡ false))
