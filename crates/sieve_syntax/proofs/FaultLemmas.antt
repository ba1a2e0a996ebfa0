-- How faults go through.
use Rattle.std.proofs.Common.{◌≡◌, subst}
use Rattle.sieve_syntax.specs.declared.error.ParseError.{ParseError}
use Rattle.sieve_syntax.specs.declared.error.ParseError.TheVariants.{Memory, Fault}
use Rattle.sieve_syntax.specs.Parsing.{OnParseFault}

-- what follows from what holds at a fault holds there too
pub fault_on : (e : ParseError) (P Q : Type 0) → (P → Q) → OnParseFault e P → OnParseFault e Q
fault_on Memory P Q f h = tt
fault_on (Fault _) P Q f h = f h

-- nothing with P, or the one with P that doesn't fit
module _ {X : Type 0} (P Fit : X → Type 0) where
  pub none_fits : (e : ParseError) → OnParseFault e ((x : X) → P x → ⊥) → OnParseFault e ((x : X) → P x → Fit x → ⊥)
  none_fits e h = fault_on e _ _ (λ none x is fit. none x is) h

  pub one_unfit : (x : X) → ((y : X) → P y → y ≡ x) → (e : ParseError) → OnParseFault e (Fit x → ⊥) → OnParseFault e ((y : X) → P y → Fit y → ⊥)
  one_unfit x only e h = fault_on e _ _ (λ bad y is fit. bad (subst Fit (only y is) fit)) h

-- what follows from two facts that hold at a fault holds there too
pub faults_on : (e : ParseError) (P Q R : Type 0) → (P → Q → R) → OnParseFault e P → OnParseFault e Q → OnParseFault e R
faults_on Memory P Q R f h k = tt
faults_on (Fault _) P Q R f h k = f h k
