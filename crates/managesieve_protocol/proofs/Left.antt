-- What may follow a state so that its line becomes whole.
use Rattle.std.proofs.Common.{◌≡◌, ℕ, suc, ◌<◌, ◌≤◌, ◌^◌, ◌⊎◌, true, ◌||◌, ◌==◌, List, [], ◌∷◌, ◌++◌, length, Some}
use Rattle.std.specs.Prelude.{map, fold}
use Rattle.std.specs.Char.{to_ascii_uppercase}
use Rattle.octets.specs.Decimal.{with_digit}
use Rattle.managesieve_protocol.specs.Arguments.{inside, AreQuotable, AreDigits, IsDecimalNumber, IsString}
use Rattle.managesieve_protocol.specs.Machine.{Params, LineEnd, MaybeText, ThenText, ThenNumber, rows, begins_row, params_in, LineState, Word, Between, Opening, Quoted, Escaped, Brace, Count, Plus, Closed, Return, Body, Number, Digits, LineFeed, Whole, Dead}

-- after a name or an argument
abbrev pub IsAfter : Params → List ℕ → Type 0
IsAfter LineEnd text = text ≡ 13 ∷ 10 ∷ []
IsAfter MaybeText text = (text ≡ 13 ∷ 10 ∷ []) ⊎ ((value : List ℕ) × (first : List ℕ) × (rest : List ℕ) × IsString value first × (rest ≡ 13 ∷ 10 ∷ []) × (text ≡ 32 ∷ (first ++ rest)))
IsAfter (ThenText more) text = (value : List ℕ) × (first : List ℕ) × (rest : List ℕ) × IsString value first × IsAfter more rest × (text ≡ 32 ∷ (first ++ rest))
IsAfter ThenNumber text = (number : ℕ) × (first : List ℕ) × IsDecimalNumber number first × (number < 2 ^ 32) × (text ≡ 32 ∷ (first ++ 13 ∷ 10 ∷ []))

-- in a name of which these letters are read
pub record InName (letters text : List ℕ) : Type 0 where
  pub name : List ℕ
  pub rest : List ℕ
  pub params : Params
  pub named : params_in rows (letters ++ map to_ascii_uppercase name) ≡ Some params
  pub after : IsAfter params rest
  pub written : text ≡ name ++ rest

-- at a string
pub record AtString (params : Params) (text : List ℕ) : Type 0 where
  pub value : List ℕ
  pub first : List ℕ
  pub rest : List ℕ
  pub string : IsString value first
  pub after : IsAfter params rest
  pub written : text ≡ first ++ rest

-- between quotation marks
pub record InQuotes (left : ℕ) (params : Params) (text : List ℕ) : Type 0 where
  pub value : List ℕ
  pub rest : List ℕ
  pub allowed : AreQuotable value
  pub short : length (inside value) ≤ left
  pub after : IsAfter params rest
  pub written : text ≡ inside value ++ 34 ∷ rest

-- after a backslash
pub record InEscape (left : ℕ) (params : Params) (text : List ℕ) : Type 0 where
  pub octet : ℕ
  pub rest : List ℕ
  pub special : (octet == 34 || octet == 92) ≡ true
  pub within : InQuotes left params rest
  pub written : text ≡ octet ∷ rest

-- after a literal's brace
pub record AtCount (params : Params) (text : List ℕ) : Type 0 where
  pub digits : List ℕ
  pub value : List ℕ
  pub rest : List ℕ
  pub numeral : IsDecimalNumber (length value) digits
  pub short : length value < 2 ^ 32
  pub after : IsAfter params rest
  pub written : text ≡ digits ++ 43 ∷ 125 ∷ 13 ∷ 10 ∷ (value ++ rest)

-- in a literal's number
pub record InCount (number : ℕ) (params : Params) (text : List ℕ) : Type 0 where
  pub digits : List ℕ
  pub value : List ℕ
  pub rest : List ℕ
  pub are_digits : AreDigits digits
  pub extra : number ≡ 0 → digits ≡ []
  pub counted : fold with_digit number digits ≡ length value
  pub short : length value < 2 ^ 32
  pub after : IsAfter params rest
  pub written : text ≡ digits ++ 43 ∷ 125 ∷ 13 ∷ 10 ∷ (value ++ rest)

-- before that many octets of a literal, with this in front of them
pub record InLiteral (front : List ℕ) (left : ℕ) (params : Params) (text : List ℕ) : Type 0 where
  pub value : List ℕ
  pub rest : List ℕ
  pub long : length value ≡ left
  pub after : IsAfter params rest
  pub written : text ≡ front ++ (value ++ rest)

-- at a number
pub record AtNumber (text : List ℕ) : Type 0 where
  pub number : ℕ
  pub first : List ℕ
  pub numeral : IsDecimalNumber number first
  pub short : number < 2 ^ 32
  pub written : text ≡ first ++ 13 ∷ 10 ∷ []

-- in a number
pub record InNumber (number : ℕ) (text : List ℕ) : Type 0 where
  pub digits : List ℕ
  pub are_digits : AreDigits digits
  pub extra : number ≡ 0 → digits ≡ []
  pub short : fold with_digit number digits < 2 ^ 32
  pub written : text ≡ digits ++ 13 ∷ 10 ∷ []

abbrev pub IsLeft : LineState → List ℕ → Type 0
IsLeft (Word letters) text = InName letters text
IsLeft (Between params) text = IsAfter params text
IsLeft (Opening params) text = AtString params text
IsLeft (Quoted left params) text = InQuotes left params text
IsLeft (Escaped left params) text = InEscape left params text
IsLeft (Brace params) text = AtCount params text
IsLeft (Count number params) text = InCount number params text
IsLeft (Plus number params) text = InLiteral (125 ∷ 13 ∷ 10 ∷ []) number params text
IsLeft (Closed number params) text = InLiteral (13 ∷ 10 ∷ []) number params text
IsLeft (Return number params) text = InLiteral (10 ∷ []) number params text
IsLeft (Body left params) text = InLiteral [] (suc left) params text
IsLeft Number text = AtNumber text
IsLeft (Digits number) text = InNumber number text
IsLeft LineFeed text = text ≡ 10 ∷ []
IsLeft Whole text = text ≡ []
IsLeft Dead text = ⊥

-- the states that a line can come to
abbrev pub IsProper : LineState → Type 0
IsProper (Word letters) = begins_row rows letters ≡ true
IsProper (Between params) = Unit {0}
IsProper (Opening params) = Unit {0}
IsProper (Quoted left params) = Unit {0}
IsProper (Escaped left params) = Unit {0}
IsProper (Brace params) = Unit {0}
IsProper (Count number params) = number < 2 ^ 32
IsProper (Plus number params) = number < 2 ^ 32
IsProper (Closed number params) = number < 2 ^ 32
IsProper (Return number params) = number < 2 ^ 32
IsProper (Body left params) = Unit {0}
IsProper Number = Unit {0}
IsProper (Digits number) = number < 2 ^ 32
IsProper LineFeed = Unit {0}
IsProper Whole = Unit {0}
IsProper Dead = Unit {0}
