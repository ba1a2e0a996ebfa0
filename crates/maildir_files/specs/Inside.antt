-- Where a directory may be.
use Rattle.std.specs.Prelude.{◌≡◌, ◌≢◌, ◌≤◌, ℕ, Bool, true, ◌==◌, ◌&&◌, not, List, ◌∷◌, length, codes}
use Rattle.std.specs.List.{list_all}
use Rattle.octets.specs.Ascii.{is_printable}

-- 32 to 126, and not `/`
abbrev pub is_directory_octet : ℕ → Bool
is_directory_octet octet = is_printable octet && not (octet == 47)

-- the name of a directory within a Maildir, or `.`: it begins with `.`, isn't `..`, has at most 250 octets, each from
-- 32 to 126 and none of them `/`
pub record IsInsideMaildir (directory : List ℕ) : Type 0 where
  pub dotted : (rest : List ℕ) × (directory ≡ 46 ∷ rest)
  pub kept : list_all is_directory_octet directory ≡ true
  pub not_above : directory ≢ codes ".."
  pub short : length directory ≤ 250
