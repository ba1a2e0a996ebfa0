-- Which prefix of a message contains its whole header.
use Rattle.std.specs.Prelude.{◌≡◌, ℕ, Bool, IsTrue, List, ◌++◌}
use Rattle.std.specs.List.{list_any}
use Rattle.mail_head.specs.Lines.{lines_of, is_empty_line}

-- whether some line of a text is empty
abbrev pub has_empty_line : List ℕ → Bool
has_empty_line text = list_any is_empty_line (lines_of text)

-- a prefix of a message that has an empty line, which ends the header
pub record IsHeaderPrefix (front message : List ℕ) : Type 0 where
  pub rest : List ℕ
  pub spelled : message ≡ front ++ rest
  pub ended : IsTrue (has_empty_line front)
