-- Zones, as minutes east of UTC.
use Rattle.std.specs.Prelude.{◌≡◌, ℕ, ◌==◌, ◌+◌, ◌*◌, ◌/◌, ◌%◌, ◌<◌, ◌⊎◌, cond, Option, Some, None, option_map, List, [], ◌∷◌, ◌++◌, take, drop, length, codes, ℤ, pos, neg_ℤ}
use Rattle.std.specs.Option.{option_and_then}
use Rattle.octets.specs.Ascii.{is_letter}
use Rattle.mail_dates.specs.Words.{two_digits, is_named}

-- the hours and the minutes of hhmm, from 0000 to 2359, in minutes
unfoldable pub offset_of : List ℕ → Option ℕ
offset_of digits =
    cond (length digits == 4)
    (option_and_then (λ hours. option_map (λ minutes. hours * 60 + minutes) (two_digits 59 (drop 2 digits))) (two_digits 23 (take 2 digits)))
    None

-- +hhmm is east of UTC, and -hhmm west of it (RFC 5322, 3.3; RFC 5260, 4.1)
unfoldable pub numeric_of : List ℕ → Option ℤ
numeric_of [] = None
numeric_of (sign ∷ digits) =
    cond (sign == 43) (option_map pos (offset_of digits))
    (cond (sign == 45) (option_map (λ minutes. neg_ℤ (pos minutes)) (offset_of digits))
    None)

-- hours west of UTC by a zone's name, and none for UT, GMT, a military zone and each unknown name (RFC 5322, 4.3)
unfoldable pub hours_west : List ℕ → ℕ
hours_west word =
    cond (is_named word (codes "edt")) 4
    (cond (is_named word (codes "est")) 5
    (cond (is_named word (codes "cdt")) 5
    (cond (is_named word (codes "cst")) 6
    (cond (is_named word (codes "mdt")) 6
    (cond (is_named word (codes "mst")) 7
    (cond (is_named word (codes "pdt")) 7
    (cond (is_named word (codes "pst")) 8
    0)))))))

-- a zone by its name
unfoldable pub named_of : List ℕ → ℤ
named_of word = neg_ℤ (pos (hours_west word * 60))

-- a zone: a number, or a name, whose first octet is a letter
unfoldable pub zone_of : List ℕ → Option ℤ
zone_of [] = None
zone_of (first ∷ more) = cond (is_letter first) (Some (named_of (first ∷ more))) (numeric_of (first ∷ more))

-- a number below 100 in two digits
abbrev pub digits : ℕ → List ℕ
digits n = (48 + n / 10) ∷ ((48 + n % 10) ∷ [])

-- a sign, two digits for the hours and two for the minutes
pub record IsOffset (text : List ℕ) (zone : ℤ) : Type 0 where
  pub hours : ℕ
  pub minutes : ℕ
  pub hour : hours < 24
  pub minute : minutes < 60
  pub spelled : ((text ≡ 43 ∷ (digits hours ++ digits minutes)) × (zone ≡ pos (hours * 60 + minutes)))
      ⊎ ((text ≡ 45 ∷ (digits hours ++ digits minutes)) × (zone ≡ neg_ℤ (pos (hours * 60 + minutes))))
