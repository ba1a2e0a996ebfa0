-- What is read of a reference, piece by piece.
use Rattle.std.specs.Prelude.{◌≡◌, ℕ, ◌+◌, ◌<◌, ◌≤◌, List, [], ◌∷◌, ◌++◌, length, take, drop, ◌-◌}
use Rattle.std.specs.List.{prefix_len}
use Rattle.sieve_template.specs.Templates.{is_variable_octet, IsNumVariable, IsIdentifier, IsVariableName, dotted_names, AreVariableNames, IsNamespacedName, IsInBraces, BeginsWithReference}
use Rattle.sieve_template.specs.declared.template.Piece.{Piece}
use Rattle.sieve_template.specs.declared.template.Piece.TheVariants.{Text}
use Rattle.sieve_template.specs.declared.reference.NameKind.{NameKind}
use Rattle.sieve_template.specs.declared.reference.NameKind.TheVariants.{Number, Identifier}
use Rattle.sieve_template.specs.declared.reference.ReferenceKind.{ReferenceKind}
use Rattle.sieve_template.specs.declared.reference.ReferenceKind.TheVariants.{ByName, ByNumber, ByPath}
use Rattle.sieve_template.specs.declared.reference.Reference.{Reference}

-- how many octets of names a text begins with
abbrev pub name_run : List ℕ → ℕ
name_run text = prefix_len is_variable_octet text

-- a name is of a kind
abbrev pub IsNameOf : NameKind → List ℕ → Type 0
IsNameOf Number name = IsNumVariable name
IsNameOf Identifier name = IsIdentifier name

-- what stands in braces is of a kind
abbrev pub RefersBy : ReferenceKind → List ℕ → Type 0
RefersBy ByName inside = IsIdentifier inside
RefersBy ByNumber inside = IsNumVariable inside
RefersBy ByPath inside = IsNamespacedName inside

-- a text begins with a name, perhaps more names, each behind a dot, and a closing brace, and goes on behind it
pub record NamesClose (text after : List ℕ) : Type 0 where
  pub name : List ℕ
  pub names : List (List ℕ)
  pub spelled : text ≡ name ++ (dotted_names names ++ 125 ∷ after)
  pub name_is : IsVariableName name
  pub names_are : AreVariableNames names

-- behind "${" a text begins with the inside of this reference and its closing brace, and goes on behind that
pub record BeginsInBraces (piece : Piece) (text after : List ℕ) : Type 0 where
  pub inside : List ℕ
  pub spelled : text ≡ inside ++ 125 ∷ after
  pub is : IsInBraces piece inside

-- the inside of a reference begins at a place
pub record StandsInBraces (text : List ℕ) (from : ℕ) (reference : Reference) : Type 0 where
  pub low : from < reference.end
  pub within : reference.end ≤ length text
  pub spelled : drop from text ≡ reference.inside.now ++ 125 ∷ drop reference.end text
  pub kind : RefersBy reference.kind reference.inside.now

-- the inside of a reference is what stands from a place up to the brace that closes the names behind a dot
pub record IsPathTo (text : List ℕ) (from dot : ℕ) (reference : Reference) : Type 0 where
  pub low : dot + 1 < reference.end
  pub within : reference.end ≤ length text
  pub kind : reference.kind ≡ ByPath
  pub inside : reference.inside.now ≡ take (reference.end - 1 - from) (drop from text)
  pub names : NamesClose (drop (dot + 1) text) (drop reference.end text)

-- a reference stands at a place of a text
pub record StandsAtPlace (text : List ℕ) (place : ℕ) (reference : Reference) : Type 0 where
  pub low : place < reference.end
  pub within : reference.end ≤ length text
  pub spelled : drop place text ≡ 36 ∷ 123 ∷ (reference.inside.now ++ 125 ∷ drop reference.end text)
  pub kind : RefersBy reference.kind reference.inside.now

-- no reference stands in a text from a place on and before another
abbrev pub NoReferenceIn : List ℕ → ℕ → ℕ → Type 0
NoReferenceIn text from end = (k : ℕ) → from ≤ k → k < end → (piece : Piece) (after : List ℕ) → BeginsWithReference piece (drop k text) after → ⊥

-- a text as pieces: none if it is empty
abbrev pub text_pieces : List ℕ → List Piece
text_pieces [] = []
text_pieces (octet ∷ rest) = Text (octet ∷ rest) ∷ []
