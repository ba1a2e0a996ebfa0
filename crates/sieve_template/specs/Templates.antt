-- What a string means where variables are required (RFC 5229, section 3).
use Rattle.std.specs.Prelude.{◌≡◌, ◌≢◌, ◌⊎◌, ◌==◌, ◌||◌, ℕ, ◌+◌, Bool, true, false, List, [], ◌∷◌, ◌++◌, min}
use Rattle.std.specs.Char.{is_ascii_alphanumeric, is_ascii_digit}
use Rattle.std.specs.List.{list_all}
use Rattle.octets.specs.Decimal.{number_of}
use Rattle.sieve_template.specs.declared.template.Piece.{Piece}
use Rattle.sieve_template.specs.declared.template.Piece.TheVariants.{Text, Variable, Match, Namespaced}
use Rattle.sieve_template.specs.declared.limits.TheConstants.{MAX_MATCH_VARIABLE}

-- ALPHA / DIGIT / "_"
abbrev pub is_variable_octet : ℕ → Bool
is_variable_octet octet = is_ascii_alphanumeric octet || octet == 95

-- num-variable = 1*DIGIT
unfoldable pub IsNumVariable : List ℕ → Type 0
IsNumVariable [] = ⊥
IsNumVariable (first ∷ rest) = list_all is_ascii_digit (first ∷ rest) ≡ true

-- identifier = (ALPHA / "_") *(ALPHA / DIGIT / "_") (RFC 5228, section 8.1)
unfoldable pub IsIdentifier : List ℕ → Type 0
IsIdentifier [] = ⊥
IsIdentifier (first ∷ rest) = (is_ascii_digit first ≡ false) × (list_all is_variable_octet (first ∷ rest) ≡ true)

-- variable-name = num-variable / identifier
abbrev pub IsVariableName : List ℕ → Type 0
IsVariableName name = IsNumVariable name ⊎ IsIdentifier name

-- names, each with a dot before it
unfoldable pub dotted_names : List (List ℕ) → List ℕ
dotted_names [] = []
dotted_names (name ∷ names) = 46 ∷ (name ++ dotted_names names)

unfoldable pub AreVariableNames : List (List ℕ) → Type 0
AreVariableNames [] = Unit {0}
AreVariableNames (name ∷ names) = IsVariableName name × AreVariableNames names

-- namespace variable-name, with namespace = identifier "." *sub-namespace and sub-namespace = variable-name ".": an identifier,
-- and one or more variable-names, each behind a dot
pub record IsNamespacedName (path : List ℕ) : Type 0 where
  pub space : List ℕ
  pub name : List ℕ
  pub names : List (List ℕ)
  pub spelled : path ≡ space ++ dotted_names (name ∷ names)
  pub space_is : IsIdentifier space
  pub names_are : AreVariableNames (name ∷ names)

-- what stands between the braces of a reference: the number of a match variable may have leading zeros, and any above ${9} is
-- told as 10
unfoldable pub IsInBraces : Piece → List ℕ → Type 0
IsInBraces (Text text) inside = ⊥
IsInBraces (Variable name) inside = (inside ≡ name) × IsIdentifier name
IsInBraces (Match number) inside = (number ≡ min (number_of inside) (MAX_MATCH_VARIABLE + 1)) × IsNumVariable inside
IsInBraces (Namespaced path) inside = (inside ≡ path) × IsNamespacedName path

-- variable-ref = "${" [namespace] variable-name "}": the text begins with this reference, and so goes on behind it
pub record BeginsWithReference (piece : Piece) (text after : List ℕ) : Type 0 where
  pub inside : List ℕ
  pub spelled : text ≡ 36 ∷ 123 ∷ (inside ++ 125 ∷ after)
  pub is : IsInBraces piece inside

-- no reference stands in the text
abbrev pub HasNoReference : List ℕ → Type 0
HasNoReference text = (before rest after : List ℕ) (piece : Piece) → text ≡ before ++ rest → BeginsWithReference piece rest after → ⊥

-- the pieces don't begin with a text
unfoldable pub BeginWithNoText : List Piece → Type 0
BeginWithNoText [] = Unit {0}
BeginWithNoText (Text text ∷ rest) = ⊥
BeginWithNoText (Variable name ∷ rest) = Unit {0}
BeginWithNoText (Match number ∷ rest) = Unit {0}
BeginWithNoText (Namespaced path ∷ rest) = Unit {0}

-- the text is a piece and some more
unfoldable pub IsPieceOf : Piece → List Piece → List ℕ → List ℕ → Type 0
IsPieceOf (Text own) others text after = (text ≡ own ++ after) × (own ≢ []) × HasNoReference own × BeginWithNoText others
IsPieceOf (Variable name) others text after = BeginsWithReference (Variable name) text after
IsPieceOf (Match number) others text after = BeginsWithReference (Match number) text after
IsPieceOf (Namespaced path) others text after = BeginsWithReference (Namespaced path) text after

-- the pieces are those of a text: references, and between them what isn't one, which stays as it is
unfoldable pub AreThePieces : List Piece → List ℕ → Type 0
AreThePieces [] text = text ≡ []
AreThePieces (piece ∷ rest) text = (after : List ℕ) × IsPieceOf piece rest text after × AreThePieces rest after
