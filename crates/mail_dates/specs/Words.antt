-- What a piece of a date's text means (RFC 5322, 3.3 and 4.3).
use Rattle.std.specs.Prelude.{ℕ, ◌==◌, ◌+◌, ◌&&◌, nat_le, nat_lt, Bool, false, if◌then◌else◌, cond, Option, Some, None, option_map, List, [], ◌∷◌, length, codes}
use Rattle.std.specs.List.{list_all}
use Rattle.std.specs.Str.{str_eq_ignore_ascii_case}
use Rattle.octets.specs.Ascii.{is_digit}
use Rattle.octets.specs.Decimal.{number_of}

-- one or more digits
abbrev pub is_digits : List ℕ → Bool
is_digits [] = false
is_digits (first ∷ more) = list_all is_digit (first ∷ more)

-- the number that the digits write, up to a limit
unfoldable pub number_in : ℕ → List ℕ → Option ℕ
number_in limit word = cond (is_digits word && nat_le (number_of word) limit) (Some (number_of word)) None

-- two digits: an hour, a minute or a second
unfoldable pub two_digits : ℕ → List ℕ → Option ℕ
two_digits limit word = cond (length word == 2) (number_in limit word) None

-- a day of a month: one digit or two
unfoldable pub day_of : List ℕ → Option ℕ
day_of word = cond (nat_le (length word) 2) (number_in 31 word) None

-- 00 to 49 are in the third millennium, 50 to 99 in the second (4.3)
abbrev pub in_century : ℕ → ℕ
in_century year = if nat_lt year 50 then 2000 + year else 1900 + year

-- a year: of two digits, of three (added to 1900: 4.3), or of four or more, up to 9999
unfoldable pub year_of : List ℕ → Option ℕ
year_of word =
    cond (length word == 2) (option_map in_century (number_in 99 word))
    (cond (length word == 3) (option_map (λ year. 1900 + year) (number_in 999 word))
    (cond (nat_le 4 (length word)) (number_in 9999 word) None))

-- the word is this name, ignoring ASCII case
unfoldable pub is_named : List ℕ → List ℕ → Bool
is_named word name = str_eq_ignore_ascii_case word name

-- a month's number by its name
unfoldable pub month_of : List ℕ → Option ℕ
month_of word =
    cond (is_named word (codes "jan")) (Some 1)
    (cond (is_named word (codes "feb")) (Some 2)
    (cond (is_named word (codes "mar")) (Some 3)
    (cond (is_named word (codes "apr")) (Some 4)
    (cond (is_named word (codes "may")) (Some 5)
    (cond (is_named word (codes "jun")) (Some 6)
    (cond (is_named word (codes "jul")) (Some 7)
    (cond (is_named word (codes "aug")) (Some 8)
    (cond (is_named word (codes "sep")) (Some 9)
    (cond (is_named word (codes "oct")) (Some 10)
    (cond (is_named word (codes "nov")) (Some 11)
    (cond (is_named word (codes "dec")) (Some 12)
    None)))))))))))

-- a day of the week by its name: 0 for Sunday
unfoldable pub weekday_of : List ℕ → Option ℕ
weekday_of word =
    cond (is_named word (codes "sun")) (Some 0)
    (cond (is_named word (codes "mon")) (Some 1)
    (cond (is_named word (codes "tue")) (Some 2)
    (cond (is_named word (codes "wed")) (Some 3)
    (cond (is_named word (codes "thu")) (Some 4)
    (cond (is_named word (codes "fri")) (Some 5)
    (cond (is_named word (codes "sat")) (Some 6)
    None))))))

-- only the mark itself
unfoldable pub mark_of : ℕ → List ℕ → Option ℕ
mark_of mark [] = None
mark_of mark (octet ∷ []) = cond (octet == mark) (Some mark) None
mark_of mark (octet ∷ (next ∷ more)) = None
