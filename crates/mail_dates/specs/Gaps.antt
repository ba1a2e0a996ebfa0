-- What may be between the parts of a date's text: blanks, line ends and comments (RFC 5322, 3.2.2: CFWS).
use Rattle.std.specs.Prelude.{◌≡◌, ℕ, ◌==◌, ◌||◌, Bool, true, List, ◌∷◌}
use Rattle.mail_address.specs.Pieces.{CommentContent, comment_before, IsCommentContent}

-- SP, TAB, CR or LF
abbrev pub is_space : ℕ → Bool
is_space octet = octet == 32 || octet == 9 || octet == 13 || octet == 10

-- the octet begins a gap
abbrev pub opens_gap : ℕ → Bool
opens_gap octet = is_space octet || octet == 40

-- a gap: spaces and comments, any number of each
pub data Gap : Type 0 where
  Nothing : Gap
  Space : ℕ → Gap → Gap
  Remark : CommentContent → Gap → Gap

-- a gap, written before a text
abbrev pub gap_before : Gap → List ℕ → List ℕ
gap_before Nothing after = after
gap_before (Space octet more) after = octet ∷ gap_before more after
gap_before (Remark notes more) after = 40 ∷ comment_before notes (41 ∷ gap_before more after)

-- its spaces are spaces, and its comments comments
abbrev pub IsDateGap : Gap → Type 0
IsDateGap Nothing = Unit {0}
IsDateGap (Space octet more) = (is_space octet ≡ true) × IsDateGap more
IsDateGap (Remark notes more) = IsCommentContent notes × IsDateGap more
