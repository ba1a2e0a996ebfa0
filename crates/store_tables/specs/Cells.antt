-- Texts that may be absent, and their cells.
use Rattle.std.specs.Prelude.{ℕ, List, Option, Some, None}
use Rattle.std.specs.Borrow.{Bor}
use Rattle.sqlite_value.specs.declared.value.Value.{Value}
use Rattle.sqlite_value.specs.declared.value.Value.TheVariants.{Null, Blob}

-- the octets after the reference, if there is one
abbrev pub borrowed_octets : Option (Bor (List ℕ)) → Option (List ℕ)
borrowed_octets None = None
borrowed_octets (Some b) = Some b.now

abbrev pub or_null : Option (List ℕ) → Value
or_null None = Null
or_null (Some b) = Blob b
