-- The characters of a text, and how much of it a variable holds (RFC 5229, section 6).
use Rattle.std.specs.Prelude.{◌≡◌, ℕ, zero, suc, ◌<◌, ◌≤◌, ◌==◌, Bool, true, ◌||◌, ◌&&◌, cond, nat_lt, nat_le, List, [], ◌∷◌, length, take, slice_index, count_by}
use Rattle.std.specs.List.{flat_map}
use Rattle.sieve_template.specs.declared.limits.TheConstants.{MAX_VALUE_CHARACTERS, MAX_VALUE_OCTETS}

-- an octet that begins a character of UTF-8: any but 0x80 to 0xBF, which go on with one; the same is said of a text that isn't
-- UTF-8
abbrev pub begins_character : ℕ → Bool
begins_character octet = nat_lt octet 128 || nat_le 192 octet

-- how many characters a text has: octets that begin one
abbrev pub character_count : List ℕ → ℕ
character_count text = count_by begins_character text

-- `*`, `?` and the backslash, which a pattern of `:matches` doesn't read as themselves
abbrev pub is_wildcard : ℕ → Bool
is_wildcard octet = octet == 42 || octet == 63 || octet == 92

-- an octet as a pattern spells it: with a backslash before it if it is one of these
abbrev pub quoted_wildcard : ℕ → List ℕ
quoted_wildcard octet = cond (is_wildcard octet) (92 ∷ octet ∷ []) (octet ∷ [])

-- a text as a pattern that matches that text alone
abbrev pub quoted_text : List ℕ → List ℕ
quoted_text text = flat_map quoted_wildcard text

-- a text with quoted wildcards, or as it is
abbrev pub written_text_as : Bool → List ℕ → List ℕ
written_text_as quote text = cond quote (quoted_text text) text

-- a variable holds that much
pub record FitsVariable (text : List ℕ) : Type 0 where
  pub octets : length text ≤ MAX_VALUE_OCTETS
  pub characters : character_count text ≤ MAX_VALUE_CHARACTERS

-- no character of the text goes on at the place
abbrev pub EndsCharacter : List ℕ → ℕ → Type 0
EndsCharacter text place = 0 < place → place < length text → begins_character (slice_index text place) ≡ true

-- the text up to a place is the longest beginning of whole characters that a variable holds, as it is written
pub record IsCutAt (quote : Bool) (text : List ℕ) (place : ℕ) : Type 0 where
  pub within : place ≤ length text
  pub whole : EndsCharacter text place
  pub fits : FitsVariable (written_text_as quote (take place text))
  pub longest : (other : ℕ) → other ≤ length text → EndsCharacter text other → FitsVariable (written_text_as quote (take other text)) → other ≤ place

-- what is kept of a text, as it is written
abbrev pub IsKeptAs : Bool → List ℕ → List ℕ → Type 0
IsKeptAs quote text kept = (place : ℕ) × IsCutAt quote text place × (kept ≡ written_text_as quote (take place text))

-- ---- the same as functions

-- whether what is kept may end at a place
abbrev pub may_end : Bool → List ℕ → ℕ → Bool
may_end quote text place =
    (place == 0 || (nat_le (length text) place || begins_character (slice_index text place)))
    && (nat_le (length (written_text_as quote (take place text))) MAX_VALUE_OCTETS && nat_le (character_count (written_text_as quote (take place text))) MAX_VALUE_CHARACTERS)

-- the greatest number up to one that passes, and 0 if none does
abbrev pub greatest_member : (ℕ → Bool) → ℕ → ℕ
greatest_member passes zero = 0
greatest_member passes (suc n) = cond (passes (suc n)) (suc n) (greatest_member passes n)

-- what is kept of a text: the one text with `IsKeptAs`
unfoldable pub kept_as : Bool → List ℕ → List ℕ
kept_as quote text = written_text_as quote (take (greatest_member (may_end quote text) (length text)) text)
