-- What calls change: a value before them and afterwards.
use Rattle.std.specs.Prelude.{ℕ, List, Option}
use Rattle.sqlite.specs.Effect.{Database}

-- a value before a call and afterwards
pub record Transition {ℓ} (X : Type ℓ) : Type ℓ where
  pub old : X
  pub new : X

abbrev pub from_to {ℓ} : {X : Type ℓ} → X → X → Transition X
from_to old new = record { old = old; new = new }

-- what a function tells of a value before a call and afterwards
abbrev pub across : {A X : Type 0} → (A → X) → A → A → Transition X
across f old new = from_to (f old) (f new)

-- what a reader has left, or what was written, if it is known
abbrev pub StreamMove : Type 0
StreamMove = Transition (Option (List ℕ))

-- the tables that a keeper holds
abbrev pub TablesMove : Type 0
TablesMove = Transition Database
