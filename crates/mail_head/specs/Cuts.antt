-- How a text is cut while its lines are read.
use Rattle.std.specs.Prelude.{◌≡◌, ℕ, ◌<◌, ◌==◌, true, false, cond, Option, None, Some, List, [], ◌∷◌, ◌++◌, length}
use Rattle.std.specs.List.{concat, list_all}
use Rattle.mail_head.specs.Lines.{lines_of, begins_blank, is_empty_line}

-- a line at the beginning, and what follows
pub record CutsLine (text line after : List ℕ) : Type 0 where
  pub spelled : text ≡ line ++ after
  pub first : lines_of text ≡ line ∷ lines_of after
  pub present : 0 < length line

-- a line at the beginning with all the lines after it that begin with a blank, and what follows
pub record CutsLogicalLine (text line after : List ℕ) : Type 0 where
  pub first : List ℕ
  pub others : List (List ℕ)
  pub lines : lines_of text ≡ first ∷ (others ++ lines_of after)
  pub spelled : text ≡ line ++ after
  pub parts : line ≡ concat (first ∷ others)
  pub present : 0 < length first
  pub folded : list_all begins_blank others ≡ true
  pub ended : begins_blank after ≡ false

-- what follows the first of these lines, if that one is empty
abbrev pub after_empty : List (List ℕ) → Option (List ℕ)
after_empty [] = None
after_empty (line ∷ more) = cond (is_empty_line line) (Some (concat more)) None

-- what follows an LF at the beginning, if there is one
abbrev pub rest_after_feed : List ℕ → Option (List ℕ)
rest_after_feed [] = None
rest_after_feed (octet ∷ rest) = cond (octet == 10) (Some rest) None
