-- Texts of UTF-8, and subjects.
use Rattle.std.proofs.Common.{◌≡◌, ℕ, Bool, true, false, List, refl, ap}
use Rattle.std.specs.Prelude.{Option, Some, None}
use Rattle.std.specs.Str.{is_utf8, IsUtf8}
use Rattle.std.proofs.lemmas.Str.{is_utf8-from_IsUtf8, IsUtf8-from_is_utf8}
use Rattle.sieve_vacation.specs.Layout.{usable}

not_utf8 : (text : List ℕ) (test : Bool) → is_utf8 text ≡ test → (IsUtf8 text → ⊥) → test ≡ false
not_utf8 text true is isnt = absurd (isnt (IsUtf8-from_is_utf8 text is))
not_utf8 text false is isnt = refl

pub usable_is : (text same : List ℕ) → same ≡ text → IsUtf8 text → Some same ≡ usable (Some text)
usable_is text same is utf8 = rw (is_utf8-from_IsUtf8 text utf8) (ap Some is)

pub usable_isnt : (text : List ℕ) → (IsUtf8 text → ⊥) → let none : Option (List ℕ) = None in none ≡ usable (Some text)
usable_isnt text isnt = rw (not_utf8 text (is_utf8 text) refl isnt) refl
