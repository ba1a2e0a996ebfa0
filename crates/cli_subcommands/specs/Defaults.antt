-- What the environment says of the store, for a command line that doesn't say it.
use Rattle.std.specs.Prelude.{◌≡◌, ℕ, Bool, false, List, [], ◌∷◌, codes, nat_eq, Option, Some, None, option_map, string_bytes}
use Rattle.std.specs.Cmp.Lexicographic.{pointwise}
use Rattle.std.specs.Str.{IsUtf8}
use Rattle.cli_subcommands.specs.declared.environment.StoreDefaults.{StoreDefaults}

-- by this value of `SIEVED_DB` this is the path: the value itself; none if it isn't set, is empty, or isn't UTF-8
abbrev pub NamesPath : Option (List ℕ) → Option (List ℕ) → Type 0
NamesPath None path = path ≡ None
NamesPath (Some []) path = path ≡ None
NamesPath (Some (octet ∷ rest)) path =
    (IsUtf8 (octet ∷ rest) → path ≡ Some (octet ∷ rest)) × ((IsUtf8 (octet ∷ rest) → ⊥) → path ≡ None)

-- whether this value of `SIEVED_WAIT` says to wait: only `1` does
abbrev pub says_wait : Option (List ℕ) → Bool
says_wait None = false
says_wait (Some value) = pointwise nat_eq value (codes "1")

-- the path that is named
abbrev pub named_path : StoreDefaults → Option (List ℕ)
named_path defaults = option_map string_bytes defaults.path

-- what these values of `SIEVED_DB` and `SIEVED_WAIT` say
pub record AreDefaults (db wait : Option (List ℕ)) (defaults : StoreDefaults) : Type 0 where
  pub path : NamesPath db (named_path defaults)
  pub waits : defaults.waits ≡ says_wait wait

-- nothing is said
pub record AreNoDefaults (defaults : StoreDefaults) : Type 0 where
  pub path : named_path defaults ≡ None
  pub waits : defaults.waits ≡ false
