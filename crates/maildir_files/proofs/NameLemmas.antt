-- A name's form.
use Rattle.std.proofs.Common.{◌≡◌, ℕ, Bool, true, false, cond, ◌&&◌, not, nat_le, Option, None, Some, List, length, codes, IsTrue, ◌↔◌, map, refl, sym, ◌∙◌, ap}
use Rattle.std.specs.Str.{is_utf8, IsUtf8}
use Rattle.std.proofs.lemmas.Bool.{and_parts, false_from_ne_true, false≢true}
use Rattle.std.proofs.lemmas.Slice.Eq.{bytes_eq-Decides}
use Rattle.std.specs.Char.{to_ascii_lowercase}
use Rattle.std.proofs.lemmas.Str.{is_utf8-from_IsUtf8, IsUtf8-from_is_utf8}
use Rattle.maildir_files.specs.declared.separator.Separator.{Separator}
use Rattle.maildir_files.specs.Directory.{has_form, is_digest, is_inbox, is_own}
use Rattle.maildir_files.specs.Levels.{has_levels}
use Rattle.maildir_files.specs.Listed.{is_listed}
use Rattle.maildir_files.specs.Spelling.{separator_octet, spelled_directory}

pub no_text : (separator : Separator) (name : List ℕ) → ¬ (IsUtf8 name) → has_form separator name ≡ false
no_text separator name none =
    ap (λ b. b && (has_levels (separator_octet separator) name && (is_listed name && is_own (spelled_directory separator name)))) (false_from_ne_true (is_utf8 name) (λ yes. none (IsUtf8-from_is_utf8 name yes)))

pub not_inbox : (test : Bool) (name : List ℕ) → (IsTrue test ↔ (map to_ascii_lowercase name ≡ map to_ascii_lowercase (codes "INBOX"))) → test ≡ false → is_inbox name ≡ false
not_inbox test name iff fails =
    false_from_ne_true (is_inbox name) (λ same.
    let equal = (bytes_eq-Decides (map to_ascii_lowercase name) (map to_ascii_lowercase (codes "INBOX"))).0 same in
    false≢true (sym fails ∙ iff.1 equal))

pub form_is : (separator : Separator) (name place seen : List ℕ) → IsUtf8 name → place ≡ spelled_directory separator name → seen ≡ place
    → has_levels (separator_octet separator) name ≡ true → is_listed name ≡ true → is_own seen ≡ true → has_form separator name ≡ true
form_is separator name place seen text told same levels listed own =
    let its : is_own (spelled_directory separator name) ≡ true = ap is_own (sym (same ∙ told)) ∙ own in
    rw (is_utf8-from_IsUtf8 name text, levels, listed, its) refl

-- what a name with a form is
pub form_text : (separator : Separator) (name : List ℕ) → has_form separator name ≡ true → is_utf8 name ≡ true
form_text separator name form = (and_parts (is_utf8 name) (has_levels (separator_octet separator) name && (is_listed name && is_own (spelled_directory separator name))) form).0

form_tests : (separator : Separator) (name : List ℕ) → has_form separator name ≡ true → (has_levels (separator_octet separator) name && (is_listed name && is_own (spelled_directory separator name))) ≡ true
form_tests separator name form = (and_parts (is_utf8 name) (has_levels (separator_octet separator) name && (is_listed name && is_own (spelled_directory separator name))) form).1

pub form_levels : (separator : Separator) (name : List ℕ) → has_form separator name ≡ true → has_levels (separator_octet separator) name ≡ true
form_levels separator name form = (and_parts (has_levels (separator_octet separator) name) (is_listed name && is_own (spelled_directory separator name)) (form_tests separator name form)).0

pub form_own : (separator : Separator) (name : List ℕ) → has_form separator name ≡ true → is_own (spelled_directory separator name) ≡ true
form_own separator name form =
    let listed = is_listed name && is_own (spelled_directory separator name) in
    (and_parts (is_listed name) (is_own (spelled_directory separator name)) (and_parts (has_levels (separator_octet separator) name) listed (form_tests separator name form)).1).1

pub own_short : (directory : List ℕ) → is_own directory ≡ true → nat_le (length directory) 250 ≡ true
own_short directory own = (and_parts (nat_le (length directory) 250) (not (is_digest directory)) own).0

pub own_no_digest : (directory : List ℕ) → is_own directory ≡ true → not (is_digest directory) ≡ true
own_no_digest directory own = (and_parts (nat_le (length directory) 250) (not (is_digest directory)) own).1

pub place_spelled : (form : Bool) (place spelt digest : List ℕ) → Some place ≡ cond form (Some spelt) None → place ≡ cond form spelt digest
place_spelled true place spelt digest told = cc
place_spelled false place spelt digest told = cc

pub place_digest : (form : Bool) (spelt digest : List ℕ) → ◌≡◌ {A = Option (List ℕ)} None (cond form (Some spelt) None) → digest ≡ cond form spelt digest
place_digest true spelt digest told = cc
place_digest false spelt digest told = refl

pub elsewhere : (inbox : Bool) (place : List ℕ) → inbox ≡ false → place ≡ cond inbox (codes ".") place
elsewhere true place other = cc
elsewhere false place other = refl
