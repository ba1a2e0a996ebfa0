-- What `envelope` owes: it says one thing, with tags that the grammar knows, and may be asked where more is granted.
use Rattle.std.proofs.Common.{◌≡◌, ℕ, List, Some, sym, ◌∙◌, subst}
use Rattle.octets.proofs.Lists.{some_pair}
use Rattle.sieve_syntax.specs.declared.extension.envelope.EnvelopeTest.{EnvelopeTest}
use Rattle.sieve_syntax.specs.declared.extension.envelope.EnvelopeParts.{EnvelopeParts}
use Rattle.sieve_syntax.specs.declared.parser.argument.Argument.{Argument}
use Rattle.sieve_syntax.specs.declared.table.tag_group.TagValue.{TagValue}
use Rattle.sieve_syntax.specs.Positional.{two_lists}
use Rattle.sieve_syntax.specs.Extension.Envelope.{SaysEnvelope, NamesParts, IsEnvelopeTest, MayAskEnvelope}
use Rattle.sieve_syntax.specs.Rows.{IsTableRow}
use Rattle.sieve_syntax.specs.Capabilities.{Capabilities, IsWithin}
use Rattle.sieve_syntax.proofs.GrowthLemmas.{part_grows, match_grows}
use Rattle.sieve_syntax.proofs.KnownLemmas.{AreKnown, row_known, lists_known}
use Rattle.sieve_syntax.proofs.RowLemmas.{call_same, row_same}
use Rattle.sieve_syntax.specs.declared.extension.ExtensionTest.{ExtensionTest}
use Rattle.sieve_syntax.specs.declared.extension.ExtensionTest.TheVariants as X
use Rattle.sieve_syntax.specs.declared.capability.Capability.TheVariants as C

-- names say one thing at most of the parts of the envelope
pub parts_same : (names : List (List ℕ)) (x y : EnvelopeParts) → NamesParts names x → NamesParts names y → x ≡ y
parts_same names x y a b =
    let from : x.from ≡ y.from = a.from ∙ sym b.from in
    let to : x.to ≡ y.to = a.to ∙ sym b.to in
    λ i. record { from = from i; to = to i }

-- tags and positional arguments say one thing at most
module _ (tag_values : List TagValue) (positional : List Argument) where
  pub envelope_same : (x y : EnvelopeTest) → SaysEnvelope tag_values positional x → SaysEnvelope tag_values positional y → x ≡ y
  envelope_same x y a b =
      let comparator : x.comparator ≡ y.comparator = a.comparator ∙ sym b.comparator in
      let part : x.part ≡ y.part = a.part ∙ sym b.part in
      let matching : x.matching ≡ y.matching = a.matching ∙ sym b.matching in
      let lists = some_pair (a.names, x.keys) (b.names, y.keys) (sym a.lists ∙ b.lists) in
      let parts = parts_same b.names x.parts y.parts (subst (λ names. NamesParts names x.parts) lists.0 a.parts) b.parts in
      λ i. record { comparator = comparator i; part = part i; matching = matching i; parts = parts i; keys = lists.1 i }

  -- the names are no parts of the envelope
  pub envelope_no_parts : (names keys : List (List ℕ)) → two_lists positional ≡ Some (names, keys) → ((parts : EnvelopeParts) → NamesParts names parts → ⊥) → (x : EnvelopeTest) → SaysEnvelope tag_values positional x → ⊥
  envelope_no_parts names keys lists none x a =
      let same = some_pair (a.names, x.keys) (names, keys) (sym a.lists ∙ lists) in
      none x.parts (subst (λ them. NamesParts them x.parts) same.0 a.parts)

-- one word with arguments stands for one test
pub envelope_test_same : (args : List Argument) (t u : ExtensionTest) → IsTableRow IsEnvelopeTest X.Envelope args t → IsTableRow IsEnvelopeTest X.Envelope args u → t ≡ u
envelope_test_same args t u a b = row_same _ _ args (call_same _ _ envelope_same args) t u a b

pub envelope_known : (args : List Argument) (t : ExtensionTest) → IsTableRow IsEnvelopeTest X.Envelope args t → AreKnown args
envelope_known args t is = row_known _ _ _ (λ s p envelope says. lists_known p (says.names, envelope.keys) says.lists) args t is

-- what may be asked where few are granted may be where more are
pub envelope_grows : (few more : Capabilities) → IsWithin few more → (envelope : EnvelopeTest) → MayAskEnvelope few envelope → MayAskEnvelope more envelope
envelope_grows few more within envelope may =
    (within C.Envelope may.0, part_grows few more within envelope.part may.1, match_grows few more within envelope.comparator envelope.matching may.2)
