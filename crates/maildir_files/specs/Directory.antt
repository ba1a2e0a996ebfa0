-- The directory of a folder in a Maildir.
use Rattle.std.specs.Prelude.{◌≡◌, ◌⊎◌, ℕ, Bool, true, false, ◌==◌, ◌&&◌, ◌||◌, not, nat_le, cond, List, [], ◌∷◌, ◌++◌, take, drop, length, codes}
use Rattle.std.specs.Int.{is_in_range}
use Rattle.std.specs.List.{list_all, starts_with}
use Rattle.std.specs.Str.{is_utf8, str_eq_ignore_ascii_case}
use Rattle.sha2.specs.Sha256.{sha256}
use Rattle.hex.specs.Hex.{encode_lower}
use Rattle.maildir_files.specs.declared.separator.Separator.{Separator}
use Rattle.maildir_files.specs.Levels.{has_levels}
use Rattle.maildir_files.specs.Listed.{is_listed}
use Rattle.maildir_files.specs.Spelling.{separator_octet, spelled_directory}

-- INBOX in any ASCII case
abbrev pub is_inbox : List ℕ → Bool
is_inbox name = str_eq_ignore_ascii_case name (codes "INBOX")

-- whether the octet comes first
abbrev pub begins_with_octet : ℕ → List ℕ → Bool
begins_with_octet octet [] = false
begins_with_octet octet (first ∷ rest) = first == octet

-- whether more levels follow a first one that is INBOX in any ASCII case
abbrev pub is_below_inbox : Separator → List ℕ → Bool
is_below_inbox separator name = is_inbox (take 5 name) && begins_with_octet (separator_octet separator) (drop 5 name)

-- the name as IMAP has it, which has one folder INBOX: such a first level is `INBOX`
abbrev pub with_inbox_folded : Separator → List ℕ → List ℕ
with_inbox_folded separator name = cond (is_below_inbox separator name) (codes "INBOX" ++ drop 5 name) name

-- a hexadecimal digit in lower case
abbrev pub is_lower_digit : ℕ → Bool
is_lower_digit octet = is_in_range 48 57 octet || is_in_range 97 102 octet

-- 64 hexadecimal digits in lower case, as a SHA-256 is written
abbrev pub is_sha256 : List ℕ → Bool
is_sha256 text = length text == 64 && list_all is_lower_digit text

-- whether a directory is one that a digest may have: `.sha256-` and 64 such digits
abbrev pub is_digest : List ℕ → Bool
is_digest directory = starts_with (λ one two. one == two) directory (codes ".sha256-") && is_sha256 (drop 8 directory)

-- whether a directory that spells a name is for that name: at most 250 octets, and none that a digest may have
abbrev pub is_own : List ℕ → Bool
is_own directory = nat_le (length directory) 250 && not (is_digest directory)

-- a name that its directory spells: UTF-8, no empty level, listed as it is, with a directory of its own
abbrev pub has_form : Separator → List ℕ → Bool
has_form separator name = is_utf8 name && (has_levels (separator_octet separator) name && (is_listed name && is_own (spelled_directory separator name)))

-- `.sha256-` and the SHA-256 of the name in hexadecimal digits
abbrev pub digest_form : List ℕ → List ℕ
digest_form name = codes ".sha256-" ++ encode_lower (sha256 name)

-- the directory of a name that isn't INBOX, as IMAP has it
abbrev pub directory_named : Separator → List ℕ → List ℕ
directory_named separator name = cond (has_form separator name) (spelled_directory separator name) (digest_form name)

-- the directory of the folder with this name: `.` for INBOX, otherwise as Maildir++ spells it, or by its digest
abbrev pub directory : Separator → List ℕ → List ℕ
directory separator name = cond (is_inbox name) (codes ".") (directory_named separator (with_inbox_folded separator name))

-- two names that may be in one directory: the same but for the case of a first level INBOX, INBOX both, or two that are
-- spelled by a digest, which is the same
abbrev pub MayShare : Separator → List ℕ → List ℕ → Type 0
MayShare separator one two =
    (with_inbox_folded separator one ≡ with_inbox_folded separator two) ⊎ ((is_inbox one ≡ true) × (is_inbox two ≡ true))
    ⊎ ((has_form separator (with_inbox_folded separator one) ≡ false) × (has_form separator (with_inbox_folded separator two) ≡ false)
    × (sha256 (with_inbox_folded separator one) ≡ sha256 (with_inbox_folded separator two)))
