-- What counts of a structured field body (RFC 822, section 3.1.4; RFC 2045, section 5.1).
use Rattle.std.specs.Prelude.{ℕ, ◌+◌, ◌-◌, ◌==◌, nat_le, Bool, true, false, cond, ◌||◌, Option, None, Some, List, [], ◌∷◌}
use Rattle.std.specs.List.{cons_option}
use Rattle.mail_parts.specs.declared.letter.Letter.{Letter}
use Rattle.mail_parts.specs.declared.letter.BodyMode.{BodyMode}
use Rattle.mail_parts.specs.declared.letter.BodyMode.TheVariants.{Open, Comment, CommentPair, Quoted, QuotedPair}

-- CR or LF
abbrev pub is_line_end : ℕ → Bool
is_line_end octet = octet == 13 || octet == 10

-- white space: SP, TAB, CR or LF, so that a folded line goes on
abbrev pub is_gap : ℕ → Bool
is_gap octet = octet == 32 || octet == 9 || is_line_end octet

-- in how many comments an octet stands
abbrev pub mode_depth : BodyMode → ℕ
mode_depth Open = 0
mode_depth (Comment depth) = depth
mode_depth (CommentPair depth) = depth
mode_depth Quoted = 0
mode_depth QuotedPair = 0

-- behind the closing parenthesis of the innermost comment
abbrev pub mode_after_comment : ℕ → BodyMode
mode_after_comment depth = cond (nat_le depth 1) Open (Comment (depth - 1))

-- what an octet begins or ends: comments in parentheses nest, a quoted string ends at the next quotation mark, and behind a backslash
-- in either the next octet is itself (quoted-pair)
abbrev pub mode_after : BodyMode → ℕ → BodyMode
mode_after Open octet = cond (octet == 40) (Comment 1) (cond (octet == 34) Quoted Open)
mode_after (Comment depth) octet =
    cond (octet == 92) (CommentPair depth) (cond (octet == 40) (Comment (depth + 1)) (cond (octet == 41) (mode_after_comment depth) (Comment depth)))
mode_after (CommentPair depth) octet = Comment depth
mode_after Quoted octet = cond (octet == 92) QuotedPair (cond (octet == 34) Open Quoted)
mode_after QuotedPair octet = Quoted

abbrev pub plain_letter : ℕ → Letter
plain_letter octet = record { octet = octet; quoted = false }

abbrev pub quoted_letter : ℕ → Letter
quoted_letter octet = record { octet = octet; quoted = true }

-- what an octet counts for: white space and comments count for nothing, nor do the marks of a quoted string, and line ends in it
abbrev pub octet_letter : BodyMode → ℕ → Option Letter
octet_letter Open octet = cond (is_gap octet || octet == 40 || octet == 34) None (Some (plain_letter octet))
octet_letter (Comment depth) octet = None
octet_letter (CommentPair depth) octet = None
octet_letter Quoted octet = cond (is_line_end octet || octet == 92 || octet == 34) None (Some (quoted_letter octet))
octet_letter QuotedPair octet = Some (quoted_letter octet)

-- the letters of the rest of a field body
abbrev pub letters_from : BodyMode → List ℕ → List Letter
letters_from mode [] = []
letters_from mode (octet ∷ rest) = cons_option (octet_letter mode octet) (letters_from (mode_after mode octet) rest)

-- the letters of a field body: its octets outside of comments, without white space, and what stands in quoted strings
abbrev pub letters_of : List ℕ → List Letter
letters_of body = letters_from Open body
