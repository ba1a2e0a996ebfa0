-- Checked scripts that are kept by their texts.
use Rattle.std.specs.Prelude.{◌≡◌, ◌+◌, ◌<◌, ◌≤◌, ℕ, Bool, not, length, count_by, sum_by, map, All, slice_index_or, List, []}
use Rattle.std.specs.Char.{is_ascii_alphanumeric}
use Rattle.sieve_syntax.specs.Means.{Means}
use Rattle.sieve_syntax.specs.View.{script_tree}
use Rattle.sieve_syntax.specs.declared.script.Script.{Script}
use Rattle.sieve_plan.specs.declared.kept.KeptScript.{KeptScript}
use Rattle.sieve_plan.specs.declared.kept.FoundScript.{FoundScript}
use Rattle.sieve_plan.specs.declared.kept.FoundScript.TheVariants.{Kept, Checked}

-- how many octets of a text are neither letters nor digits
abbrev pub symbols_in : List ℕ → ℕ
symbols_in text = count_by (λ octet. not (is_ascii_alphanumeric octet)) text

-- how many texts are kept at most
abbrev pub max_kept : ℕ
max_kept = 4096

-- how many octets they have together at most
abbrev pub max_kept_octets : ℕ
max_kept_octets = 8_388_608

-- how many symbols they have together at most
abbrev pub max_kept_symbols : ℕ
max_kept_symbols = 524_288

-- these texts are within the limits of what is kept
pub record AreWithinLimits (texts : List (List ℕ)) : Type 0 where
  pub count : length texts ≤ max_kept
  pub octets : sum_by length texts ≤ max_kept_octets
  pub symbols : sum_by symbols_in texts ≤ max_kept_symbols

-- these texts are within them with one more that has so many octets and symbols
pub record LeaveRoom (texts : List (List ℕ)) (more_octets more_symbols : ℕ) : Type 0 where
  pub count : length texts < max_kept
  pub octets : sum_by length texts + more_octets ≤ max_kept_octets
  pub symbols : sum_by symbols_in texts + more_symbols ≤ max_kept_symbols

-- the text that is kept, and what is kept as its script
abbrev pub pair_of : KeptScript → List ℕ × Script
pair_of kept = (kept.text, kept.script)

-- the texts of these pairs
abbrev pub texts_of : List (List ℕ × Script) → List (List ℕ)
texts_of pairs = map (λ pair. pair.0) pairs

-- the script is what its text means
abbrev pub IsOfItsText : List ℕ × Script → Type 0
IsOfItsText pair = Means pair.0 (script_tree pair.1)

-- each script is what its text means; the texts have so many octets and symbols together, and are within the limits
pub record KeepsScripts (pairs : List (List ℕ × Script)) (octets symbols : ℕ) : Type 0 where
  pub checked : All IsOfItsText pairs
  pub octets_are : octets ≡ sum_by length (texts_of pairs)
  pub symbols_are : symbols ≡ sum_by symbols_in (texts_of pairs)
  pub within : AreWithinLimits (texts_of pairs)

-- of these texts the one at this place is that text
abbrev pub IsPlaceOf : List (List ℕ) → List ℕ → ℕ → Type 0
IsPlaceOf texts text place = (place < length texts) × (slice_index_or texts place [] ≡ text)

-- the script of a text, where these are kept: the one at the place of this very text, or one that the text means
abbrev pub IsScriptOf : List (List ℕ) → List ℕ → FoundScript → Type 0
IsScriptOf texts text (Kept place) = IsPlaceOf texts text place
IsScriptOf texts text (Checked script) = Means text (script_tree script)
