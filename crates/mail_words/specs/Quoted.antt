-- The Q encoding (RFC 2047, section 4.2).
use Rattle.std.specs.Prelude.{◌≡◌, ℕ, ◌+◌, ◌*◌, ◌-◌, ◌<◌, ◌==◌, nat_le, cond, ◌&&◌, Option, None, Some, List, [], ◌∷◌, ◌++◌, option_map, option_and_then}
use Rattle.mail_words.specs.declared.quoted.Mode.{Mode}
use Rattle.mail_words.specs.declared.quoted.Mode.TheVariants.{InText, AfterMark, AfterDigit}

-- the value of a hexadecimal digit, of either case
abbrev pub hex_digit_of : ℕ → Option ℕ
hex_digit_of octet =
    cond (nat_le 48 octet && nat_le octet 57) (Some (octet - 48))
    (cond (nat_le 65 octet && nat_le octet 70) (Some (octet - 55))
    (cond (nat_le 97 octet && nat_le octet 102) (Some (octet - 87)) None))

-- a piece of Q: an octet as it is, `_`, or `=` and two digits
pub data QPiece : Type 0 where
  Plain : ℕ → QPiece
  Space : QPiece
  Escaped : ℕ → ℕ → QPiece

-- how a piece is written
abbrev pub q_piece_text : QPiece → List ℕ
q_piece_text (Plain octet) = octet ∷ []
q_piece_text Space = 95 ∷ []
q_piece_text (Escaped high low) = 61 ∷ high ∷ low ∷ []

-- the octet that two digits write
abbrev pub hex_octet_of : Option ℕ → Option ℕ → Option ℕ
hex_octet_of None low = None
hex_octet_of (Some high) low = option_map (λ l. high * 16 + l) low

-- the octet that a piece stands for, if it is one
abbrev pub q_piece_value : QPiece → Option ℕ
q_piece_value (Plain octet) = cond (octet == 61) None (cond (octet == 95) None (Some octet))
q_piece_value Space = Some 32
q_piece_value (Escaped high low) = hex_octet_of (hex_digit_of high) (hex_digit_of low)

-- how pieces are written
abbrev pub q_text : List QPiece → List ℕ
q_text [] = []
q_text (piece ∷ more) = q_piece_text piece ++ q_text more

-- the octets that pieces stand for
abbrev pub AreValues : List QPiece → List ℕ → Type 0
AreValues [] octets = octets ≡ []
AreValues (piece ∷ more) octets =
    (first : ℕ) × ((rest : List ℕ) × ((octets ≡ first ∷ rest) × ((q_piece_value piece ≡ Some first) × AreValues more rest)))

-- a text in Q and its octets: each as it is, `_` for a space, or `=` and two hexadecimal digits
pub record IsQEncoded (text octets : List ℕ) : Type 0 where
  pub pieces : List QPiece
  pub spelled : text ≡ q_text pieces
  pub valued : AreValues pieces octets

-- an octet before those to come, or none
abbrev pub with_octet : ℕ → Option (List ℕ) → Option (List ℕ)
with_octet octet more = option_map (λ octets. octet ∷ octets) more

-- the octets of the rest of a text in Q: read in the text, after `=`, or after its first digit
abbrev pub quoted_from : Mode → List ℕ → Option (List ℕ)
quoted_from InText [] = Some []
quoted_from AfterMark [] = None
quoted_from (AfterDigit high) [] = None
quoted_from InText (octet ∷ rest) = cond (octet == 61) (quoted_from AfterMark rest) (with_octet (cond (octet == 95) 32 octet) (quoted_from InText rest))
quoted_from AfterMark (octet ∷ rest) = option_and_then (λ high. quoted_from (AfterDigit high) rest) (hex_digit_of octet)
quoted_from (AfterDigit high) (octet ∷ rest) = option_and_then (λ low. with_octet (high * 16 + low) (quoted_from InText rest)) (hex_digit_of octet)

-- the digit after `=` is below 16
abbrev pub IsMode : Mode → Type 0
IsMode InText = Unit {0}
IsMode AfterMark = Unit {0}
IsMode (AfterDigit high) = high < 16

-- an octet that was read before those to come, or none
abbrev pub with_read : Option ℕ → Option (List ℕ) → Option (List ℕ)
with_read None more = more
with_read (Some octet) more = with_octet octet more

-- the octets of what follows one step, if the step was made
abbrev pub after_step : Option (Mode × Option ℕ) → List ℕ → Option (List ℕ)
after_step None rest = None
after_step (Some step) rest = with_read step.1 (quoted_from step.0 rest)

-- the octets of a text in Q: the one list that is in IsQEncoded with it
abbrev pub quoted_of : List ℕ → Option (List ℕ)
quoted_of text = quoted_from InText text
