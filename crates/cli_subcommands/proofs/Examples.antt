-- What the environment says of the store: examples, and near misses.
use Rattle.std.proofs.Common.{◌≡◌, ℕ, true, false, List, [], ◌∷◌, codes, Option, Some, None, refl}
use Rattle.std.specs.Str.{IsUtf8}
use Rattle.cli_subcommands.specs.Asks.{chosen_path}
use Rattle.cli_subcommands.specs.Defaults.{NamesPath, says_wait}
use Rattle.cli_subcommands.specs.declared.raw_args.RawArgs.{RawArgs}

-- ---- `SIEVED_WAIT`

one-waits : says_wait (Some (codes "1")) ≡ true
one-waits = refl

eleven-says-nothing : says_wait (Some (codes "11")) ≡ false
eleven-says-nothing = refl

zero-says-nothing : says_wait (Some (codes "0")) ≡ false
zero-says-nothing = refl

empty-says-nothing : says_wait (Some []) ≡ false
empty-says-nothing = refl

unset-says-nothing : says_wait None ≡ false
unset-says-nothing = refl

-- ---- `SIEVED_DB`

text-is-the-path : IsUtf8 (codes "m.db") → (path : Option (List ℕ)) → NamesPath (Some (codes "m.db")) path → path ≡ Some (codes "m.db")
text-is-the-path utf8 path names = names.0 utf8

no-text-is-none : (IsUtf8 (255 ∷ []) → ⊥) → (path : Option (List ℕ)) → NamesPath (Some (255 ∷ [])) path → path ≡ None
no-text-is-none never path names = names.1 never

empty-is-none : NamesPath (Some []) None
empty-is-none = refl

empty-is-no-path : NamesPath (Some []) (Some []) → ⊥
empty-is-no-path is = let same = is in cc

-- ---- the option counts first

option-first : (line : RawArgs) → chosen_path line (Some (codes "a.db")) ≡ codes "a.db"
option-first line = refl

empty-option-first : (line : RawArgs) → chosen_path line (Some []) ≡ []
empty-option-first line = refl
