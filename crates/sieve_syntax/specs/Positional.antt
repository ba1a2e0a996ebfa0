-- Positional arguments (RFC 5228, 2.6.1).
use Rattle.std.specs.Prelude.{ℕ, List, [], ◌∷◌, Option, Some, None}
use Rattle.sieve_syntax.specs.declared.parser.argument.Argument.{Argument}
use Rattle.sieve_syntax.specs.declared.parser.argument.Argument.TheVariants as A
use Rattle.sieve_syntax.specs.Tags.{strings_of}

-- both, if both are there
abbrev pub both_there : {X Y : Type 0} → Option X → Option Y → Option (X × Y)
both_there (Some x) (Some y) = Some (x, y)
both_there _ _ = None

-- the string of an argument without brackets
abbrev pub string_of : Argument → Option (List ℕ)
string_of (A.Text string) = Some string
string_of _ = None

-- one number and nothing else
abbrev pub one_number : List Argument → Option ℕ
one_number (A.Number n ∷ []) = Some n
one_number _ = None

-- one string without brackets and nothing else
abbrev pub one_text : List Argument → Option (List ℕ)
one_text (A.Text string ∷ []) = Some string
one_text _ = None

-- one list of strings and nothing else
abbrev pub one_list : List Argument → Option (List (List ℕ))
one_list (value ∷ []) = strings_of value
one_list _ = None

-- two lists of strings and nothing else
abbrev pub two_lists : List Argument → Option (List (List ℕ) × List (List ℕ))
two_lists (first ∷ (second ∷ [])) = both_there (strings_of first) (strings_of second)
two_lists _ = None

-- one string without brackets, a list of strings, and nothing else
abbrev pub text_and_list : List Argument → Option (List ℕ × List (List ℕ))
text_and_list (first ∷ (second ∷ [])) = both_there (string_of first) (strings_of second)
text_and_list _ = None

-- two strings without brackets, a list of strings, and nothing else
abbrev pub two_texts_and_list : List Argument → Option (List ℕ × (List ℕ × List (List ℕ)))
two_texts_and_list (first ∷ (second ∷ (third ∷ []))) = both_there (string_of first) (both_there (string_of second) (strings_of third))
two_texts_and_list _ = None
