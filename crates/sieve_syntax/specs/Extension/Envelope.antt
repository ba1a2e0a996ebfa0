-- `envelope` (RFC 5228, 5.4).
use Rattle.std.specs.Prelude.{◌≡◌, ℕ, Bool, true, ◌||◌, List, [], ◌∷◌, Some, codes}
use Rattle.std.specs.List.{list_all, list_any}
use Rattle.sieve_syntax.specs.declared.parser.argument.Argument.{Argument}
use Rattle.sieve_syntax.specs.declared.table.tag_group.TagValue.{TagValue}
use Rattle.sieve_syntax.specs.declared.table.tag_group.TagGroup.TheVariants as P
use Rattle.sieve_syntax.specs.declared.capability.Capability.TheVariants as C
use Rattle.sieve_syntax.specs.declared.extension.envelope.EnvelopeTest.{EnvelopeTest}
use Rattle.sieve_syntax.specs.declared.extension.envelope.EnvelopeParts.{EnvelopeParts}
use Rattle.sieve_syntax.specs.Capabilities.{Capabilities}
use Rattle.sieve_syntax.specs.Comparators.{MayMatch}
use Rattle.sieve_syntax.specs.Extension.Subaddress.{MayNamePart}
use Rattle.sieve_syntax.specs.Lexemes.{same_name}
use Rattle.sieve_syntax.specs.Positional.{two_lists}
use Rattle.sieve_syntax.specs.TagValues.{comparator_in, matching_in, part_in}
use Rattle.sieve_syntax.specs.Tags.{IsCall}

-- the name of a part of the envelope, ignoring ASCII case
abbrev pub is_part : List ℕ → Bool
is_part name = same_name name (codes "from") || same_name name (codes "to")

-- these names are only `from` and `to`, and these are the parts of the envelope that they name (RFC 5228, 5.4)
pub record NamesParts (names : List (List ℕ)) (parts : EnvelopeParts) : Type 0 where
  pub each : list_all is_part names ≡ true
  pub from : parts.from ≡ list_any (λ name. same_name name (codes "from")) names
  pub to : parts.to ≡ list_any (λ name. same_name name (codes "to")) names

-- envelope [COMPARATOR] [ADDRESS-PART] [MATCH-TYPE] <envelope-part: string-list> <key-list: string-list> (RFC 5228, 5.4)
pub record SaysEnvelope (tag_values : List TagValue) (positional : List Argument) (envelope : EnvelopeTest) : Type 0 where
  pub names : List (List ℕ)
  pub comparator : envelope.comparator ≡ comparator_in tag_values
  pub part : envelope.part ≡ part_in tag_values
  pub matching : envelope.matching ≡ matching_in tag_values
  pub lists : two_lists positional ≡ Some (names, envelope.keys)
  pub parts : NamesParts names envelope.parts

abbrev pub IsEnvelopeTest : List Argument → EnvelopeTest → Type 0
IsEnvelopeTest = IsCall (P.Comparator ∷ (P.Part ∷ (P.Matching ∷ []))) SaysEnvelope

-- what has to be granted for it
abbrev pub MayAskEnvelope : Capabilities → EnvelopeTest → Type 0
MayAskEnvelope granted envelope =
    (granted C.Envelope ≡ true) × MayNamePart granted envelope.part × MayMatch granted envelope.comparator envelope.matching
