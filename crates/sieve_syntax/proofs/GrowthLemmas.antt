-- What is permitted where few are granted is permitted where more are.
use Rattle.std.proofs.Common.{Bool}
use Rattle.sieve_syntax.specs.declared.capability.Capability.{Capability}
use Rattle.sieve_syntax.specs.declared.capability.Capability.TheVariants as C
use Rattle.sieve_syntax.specs.declared.tree.checks.AddressPart.{AddressPart}
use Rattle.sieve_syntax.specs.declared.tree.checks.Collation.{Collation}
use Rattle.sieve_syntax.specs.declared.tree.checks.Matching.{Matching}
use Rattle.sieve_syntax.specs.Capabilities.{Capabilities, IsWithin, Permits}
use Rattle.sieve_syntax.specs.Extension.Subaddress.{MayNamePart}
use Rattle.sieve_syntax.specs.Comparators.{MayMatch}

module _ (few more : Capabilities) (within : IsWithin few more) where
  pub permits_grow : (c : Capability) (used : Bool) → Permits (few c) used → Permits (more c) used
  permits_grow c used permits = λ is. within c (permits is)

  pub part_grows : (part : AddressPart) → MayNamePart few part → MayNamePart more part
  part_grows part may = λ is. within C.Subaddress (may is)

  pub match_grows : (comparator : Collation) (matching : Matching) → MayMatch few comparator matching → MayMatch more comparator matching
  match_grows comparator matching may = (λ is. within C.Relational (may.0 is), λ is. within C.AsciiNumeric (may.1 is), may.2)
