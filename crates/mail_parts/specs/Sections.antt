-- The sections of a multipart (RFC 2046, section 5.1.1).
use Rattle.std.specs.Prelude.{ℕ, Bool, true, false, cond, Option, None, Some, List, [], ◌∷◌, ◌++◌, length, take, drop, codes, bytes_eq, option_and_then}
use Rattle.std.specs.List.{concat, list_all}
use Rattle.octets.specs.Ascii.{is_blank}
use Rattle.mail_head.specs.Lines.{without_end}
use Rattle.mail_parts.specs.declared.section.LineMark.{LineMark}
use Rattle.mail_parts.specs.declared.section.LineMark.TheVariants.{Inside, Delimiter, Close}

-- what stands behind a text at the beginning of another, if it stands there
abbrev pub behind : List ℕ → List ℕ → Option (List ℕ)
behind front text = cond (bytes_eq (take (length front) text) front) (Some (drop (length front) text)) None

-- what a boundary line begins with, with the LF before it: dash-boundary = "--" boundary
abbrev pub dash_boundary : List ℕ → List ℕ
dash_boundary boundary = 10 ∷ (codes "--" ++ boundary)

-- transport-padding: blanks up to the line end, or none
abbrev pub is_padding : List ℕ → Bool
is_padding text = list_all is_blank (without_end text)

abbrev pub mark_if_padding : Option (List ℕ) → LineMark
mark_if_padding None = Inside
mark_if_padding (Some text) = cond (is_padding text) Close Inside

-- by what stands behind the boundary
abbrev pub mark_behind : List ℕ → LineMark
mark_behind tail = cond (is_padding tail) Delimiter (mark_if_padding (behind (codes "--") tail))

abbrev pub mark_if_behind : Option (List ℕ) → LineMark
mark_if_behind None = Inside
mark_if_behind (Some tail) = mark_behind tail

-- what a line is to a multipart with this boundary: "--" boundary transport-padding is a delimiter, "--" boundary "--"
-- transport-padding closes it, and any other line is inside
unfoldable pub line_mark : List ℕ → List ℕ → LineMark
line_mark boundary line = mark_if_behind (option_and_then (behind boundary) (behind (codes "--") line))

abbrev pub is_section_mark : LineMark → Bool
is_section_mark Inside = true
is_section_mark Delimiter = false
is_section_mark Close = false

-- a line that is no boundary line
abbrev pub is_section_line : List ℕ → List ℕ → Bool
is_section_line boundary line = is_section_mark (line_mark boundary line)

-- the lines before the first boundary line
abbrev pub lines_before : List ℕ → List (List ℕ) → List (List ℕ)
lines_before boundary [] = []
lines_before boundary (line ∷ more) = cond (is_section_line boundary line) (line ∷ lines_before boundary more) []

-- the section that begins here: up to the first boundary line, to which the line end before it belongs, or up to the end
abbrev pub section_of : List ℕ → List (List ℕ) → List ℕ
section_of boundary lines =
    cond (list_all (is_section_line boundary) lines) (concat lines) (without_end (concat (lines_before boundary lines)))

-- by what the line before these is: a section begins behind each delimiter, none behind the closing line
abbrev pub sections_by : LineMark → List ℕ → List (List ℕ) → List (List ℕ)
sections_by Inside section later = later
sections_by Delimiter section later = section ∷ later
sections_by Close section later = []

-- the sections of a multipart: what stands behind each delimiter before the closing line
abbrev pub sections_of : List ℕ → List (List ℕ) → List (List ℕ)
sections_of boundary [] = []
sections_of boundary (line ∷ more) =
    let later = sections_of boundary more in
    sections_by (line_mark boundary line) (section_of boundary more) later

-- by what the line before these is: behind the closing line stands the epilogue
abbrev pub epilogue_by : LineMark → List (List ℕ) → List ℕ → List ℕ
epilogue_by Inside lines later = later
epilogue_by Delimiter lines later = later
epilogue_by Close lines later = concat lines

-- the epilogue of a multipart: what stands behind the closing line
abbrev pub epilogue_of : List ℕ → List (List ℕ) → List ℕ
epilogue_of boundary [] = []
epilogue_of boundary (line ∷ more) =
    let later = epilogue_of boundary more in
    epilogue_by (line_mark boundary line) more later
