-- What `set` makes of a value (RFC 5229, section 4.1).
use Rattle.std.specs.Prelude.{◌≡◌, ◌≢◌, ℕ, ◌<◌, ◌==◌, true, false, cond, List, [], ◌∷◌, length, map, slice_index_or, decimal, Option, Some, None}
use Rattle.std.specs.Char.{to_ascii_lowercase, to_ascii_uppercase}
use Rattle.sieve_template.specs.declared.modifier.Modifier.{Modifier}
use Rattle.sieve_template.specs.declared.modifier.Modifier.TheVariants.{Lower, Upper, LowerFirst, UpperFirst, QuoteWildcard, Length}
use Rattle.sieve_template.specs.Values.{character_count, IsKeptAs, kept_as}

-- the table of precedences (4.1): the modifier with the highest one is applied first
abbrev pub precedence_of : Modifier → ℕ
precedence_of Lower = 40
precedence_of Upper = 40
precedence_of LowerFirst = 30
precedence_of UpperFirst = 30
precedence_of QuoteWildcard = 20
precedence_of Length = 10

-- a text with its first octet changed
abbrev pub with_first_octet : (ℕ → ℕ) → List ℕ → List ℕ
with_first_octet change [] = []
with_first_octet change (octet ∷ rest) = change octet ∷ rest

-- what a modifier makes of a value: letters are those of US-ASCII (4.1.3), a number has no leading zeros (4.1.1), and of a text
-- with quoted wildcards as much is kept as a variable holds, with no wildcard apart from its backslash (4.1.2)
abbrev pub Modifies : Modifier → List ℕ → List ℕ → Type 0
Modifies Lower value out = out ≡ map to_ascii_lowercase value
Modifies Upper value out = out ≡ map to_ascii_uppercase value
Modifies LowerFirst value out = out ≡ with_first_octet to_ascii_lowercase value
Modifies UpperFirst value out = out ≡ with_first_octet to_ascii_uppercase value
Modifies QuoteWildcard value out = IsKeptAs true value out
Modifies Length value out = out ≡ decimal (character_count value)

-- the precedence of the modifier at an index
abbrev pub precedence_at : List Modifier → ℕ → ℕ
precedence_at modifiers k = precedence_of (slice_index_or modifiers k Lower)

-- a modifier has the precedence of one before it, which is an error (4.1)
abbrev pub RepeatsPrecedence : List Modifier → ℕ → Type 0
RepeatsPrecedence modifiers k = (j : ℕ) × (j < k) × (precedence_at modifiers j ≡ precedence_at modifiers k)

-- no two modifiers have one precedence
abbrev pub HaveNoConflict : List Modifier → Type 0
HaveNoConflict modifiers = (k : ℕ) → k < length modifiers → RepeatsPrecedence modifiers k → ⊥

-- a value becomes what the modifiers of one precedence make of it, and without such a modifier it stays
pub record AppliesAt (modifiers : List Modifier) (precedence : ℕ) (value out : List ℕ) : Type 0 where
  pub applied : (k : ℕ) → k < length modifiers → precedence_at modifiers k ≡ precedence → Modifies (slice_index_or modifiers k Lower) value out
  pub otherwise : ((k : ℕ) → k < length modifiers → precedence_at modifiers k ≢ precedence) → out ≡ value

-- what `set` stores: the modifiers are applied by their precedences, the highest first, and of the result as much is kept as a
-- variable holds
pub record IsSetTo (modifiers : List Modifier) (value stored : List ℕ) : Type 0 where
  pub cased : List ℕ
  pub first_cased : List ℕ
  pub quoted : List ℕ
  pub counted : List ℕ
  pub by_case : AppliesAt modifiers 40 value cased
  pub by_first : AppliesAt modifiers 30 cased first_cased
  pub by_quoting : AppliesAt modifiers 20 first_cased quoted
  pub by_length : AppliesAt modifiers 10 quoted counted
  pub kept : IsKeptAs false counted stored

-- ---- the same as functions

-- what a modifier makes of a value
abbrev pub modified : Modifier → List ℕ → List ℕ
modified Lower value = map to_ascii_lowercase value
modified Upper value = map to_ascii_uppercase value
modified LowerFirst value = with_first_octet to_ascii_lowercase value
modified UpperFirst value = with_first_octet to_ascii_uppercase value
modified QuoteWildcard value = kept_as true value
modified Length value = decimal (character_count value)

-- the first modifier of a precedence, the only one where no two have one
abbrev pub first_with : List Modifier → ℕ → Option Modifier
first_with [] precedence = None
first_with (modifier ∷ more) precedence = cond (precedence_of modifier == precedence) (Some modifier) (first_with more precedence)

-- a value as a modifier leaves it, if there is one
abbrev pub modified_if_any : Option Modifier → List ℕ → List ℕ
modified_if_any None value = value
modified_if_any (Some modifier) value = modified modifier value

-- what `set` stores: the one text with `IsSetTo`, where no two modifiers have one precedence
unfoldable pub value_set : List Modifier → List ℕ → List ℕ
value_set modifiers value =
    kept_as false (modified_if_any (first_with modifiers 10) (modified_if_any (first_with modifiers 20) (modified_if_any (first_with modifiers 30) (modified_if_any (first_with modifiers 40) value))))
