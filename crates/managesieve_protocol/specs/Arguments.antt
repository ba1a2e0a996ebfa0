-- Strings, numbers and command lines as they are spelled (RFC 5804, sections 1.2 and 4).
use Rattle.std.specs.Prelude.{◌≡◌, ℕ, ◌<◌, ◌≤◌, ◌^◌, ◌⊎◌, Bool, true, not, cond, ◌==◌, ◌||◌, List, [], ◌∷◌, ◌++◌, length, map, fold}
use Rattle.std.specs.Char.{to_ascii_uppercase, is_ascii_digit}
use Rattle.octets.specs.Decimal.{with_digit}

-- ---- quoted strings

-- an octet between quotation marks: `"` and `\` have `\` before them
abbrev pub quoted_octet : ℕ → List ℕ
quoted_octet octet = cond (octet == 34 || octet == 92) (92 ∷ octet ∷ []) (octet ∷ [])

-- a text between quotation marks
abbrev pub inside : List ℕ → List ℕ
inside [] = []
inside (octet ∷ rest) = quoted_octet octet ++ inside rest

-- neither NUL nor LF nor CR
abbrev pub is_quotable_octet : ℕ → Bool
is_quotable_octet octet = not (octet == 0 || octet == 10 || octet == 13)

-- each octet may be between quotation marks
abbrev pub AreQuotable : List ℕ → Type 0
AreQuotable [] = Unit {0}
AreQuotable (octet ∷ rest) = (is_quotable_octet octet ≡ true) × AreQuotable rest

-- the text between quotation marks, which have at most 1,024 octets between them
pub record IsQuotedArgument (value text : List ℕ) : Type 0 where
  pub written : text ≡ 34 ∷ (inside value ++ 34 ∷ [])
  pub allowed : AreQuotable value
  pub short : length (inside value) ≤ 1024

-- ---- numbers

-- each octet is a digit
abbrev pub AreDigits : List ℕ → Type 0
AreDigits [] = Unit {0}
AreDigits (octet ∷ rest) = (is_ascii_digit octet ≡ true) × AreDigits rest

-- the number in decimal digits, at least one, without leading zeros
abbrev pub IsDecimalNumber : ℕ → List ℕ → Type 0
IsDecimalNumber number [] = ⊥
IsDecimalNumber number (digit ∷ digits) =
    AreDigits (digit ∷ digits) × (digit ≡ 48 → digits ≡ []) × (fold with_digit 0 (digit ∷ digits) ≡ number)

-- ---- literals

-- `{n+}` CRLF and the n octets of the text
pub record IsLiteralString (value text : List ℕ) : Type 0 where
  pub digits : List ℕ
  pub numeral : IsDecimalNumber (length value) digits
  pub written : text ≡ 123 ∷ (digits ++ 43 ∷ 125 ∷ 13 ∷ 10 ∷ value)
  pub short : length value < 2 ^ 32

-- a string, quoted or as a literal
abbrev pub IsString : List ℕ → List ℕ → Type 0
IsString value text = IsQuotedArgument value text ⊎ IsLiteralString value text

-- ---- command lines

-- an argument after a command's name
pub data LineArgument : Type 0 where
  Text : List ℕ → LineArgument
  Figure : ℕ → LineArgument

-- an argument's spelling
abbrev pub IsLineArgument : LineArgument → List ℕ → Type 0
IsLineArgument (Text value) text = IsString value text
IsLineArgument (Figure number) text = IsDecimalNumber number text × (number < 2 ^ 32)

-- arguments with one space before each, and the line's end
abbrev pub AreLineArguments : List LineArgument → List ℕ → Type 0
AreLineArguments [] text = text ≡ 13 ∷ 10 ∷ []
AreLineArguments (argument ∷ more) text =
    (first : List ℕ) × (rest : List ℕ) × IsLineArgument argument first × AreLineArguments more rest × (text ≡ 32 ∷ (first ++ rest))

-- a line: a name in upper or lower case, and arguments
pub record IsNamedLine (word : List ℕ) (arguments : List LineArgument) (text : List ℕ) : Type 0 where
  pub name : List ℕ
  pub rest : List ℕ
  pub named : map to_ascii_uppercase name ≡ word
  pub filled : AreLineArguments arguments rest
  pub written : text ≡ name ++ rest

-- a line that is a string alone
pub record IsStringLine (value text : List ℕ) : Type 0 where
  pub first : List ℕ
  pub string : IsString value first
  pub written : text ≡ first ++ 13 ∷ 10 ∷ []
