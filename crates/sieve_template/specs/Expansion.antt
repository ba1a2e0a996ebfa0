-- What a template stands for, with the values of variables (RFC 5229, section 3).
use Rattle.std.specs.Prelude.{ℕ, List}
use Rattle.std.specs.List.{flat_map}
use Rattle.sieve_template.specs.declared.template.Piece.{Piece}
use Rattle.sieve_template.specs.declared.template.Piece.TheVariants.{Text, Variable, Match, Namespaced}

-- what a piece stands for: a text for itself, a reference for its value
abbrev pub value_of_piece : (List ℕ → List ℕ) → (ℕ → List ℕ) → (List ℕ → List ℕ) → Piece → List ℕ
value_of_piece variable capture namespaced (Text text) = text
value_of_piece variable capture namespaced (Variable name) = variable name
value_of_piece variable capture namespaced (Match number) = capture number
value_of_piece variable capture namespaced (Namespaced path) = namespaced path

-- what the pieces stand for, one behind the other; what a value says isn't read again
abbrev pub expanded_text : (List ℕ → List ℕ) → (ℕ → List ℕ) → (List ℕ → List ℕ) → List Piece → List ℕ
expanded_text variable capture namespaced pieces = flat_map (value_of_piece variable capture namespaced) pieces
