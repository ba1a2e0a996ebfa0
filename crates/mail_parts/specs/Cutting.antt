-- How a section is cut off.
use Rattle.std.specs.Prelude.{◌≡◌, ℕ, ◌<◌, ◌==◌, Bool, true, false, ◌||◌, List, [], ◌∷◌, length}
use Rattle.octets.specs.Ascii.{is_blank}
use Rattle.mail_head.specs.Lines.{lines_of}
use Rattle.mail_head.specs.Cuts.{CutsLine}
use Rattle.mail_parts.specs.Sections.{line_mark, is_section_mark, is_section_line, section_of, sections_of, epilogue_of}
use Rattle.mail_parts.specs.declared.section.LineMark.{LineMark}
use Rattle.mail_parts.specs.declared.section.LineMark.TheVariants.{Inside, Delimiter, Close}
use Rattle.mail_parts.specs.declared.section.SectionCut.{SectionCut}

-- the section behind a delimiter, and those that follow
abbrev pub sections_after : List ℕ → List ℕ → List (List ℕ)
sections_after boundary text = section_of boundary (lines_of text) ∷ sections_of boundary (lines_of text)

-- the sections that follow a boundary line; none at the end of the text
abbrev pub sections_behind : LineMark → List ℕ → List ℕ → List (List ℕ)
sections_behind Inside boundary text = []
sections_behind Delimiter boundary text = sections_after boundary text
sections_behind Close boundary text = []

-- the epilogue behind a boundary line; none at the end of the text
abbrev pub epilogue_behind : LineMark → List ℕ → List ℕ → List ℕ
epilogue_behind Inside boundary text = []
epilogue_behind Delimiter boundary text = epilogue_of boundary (lines_of text)
epilogue_behind Close boundary text = text

-- what padding, a line end or two hyphens may begin with
abbrev pub may_follow : ℕ → Bool
may_follow octet = is_blank octet || octet == 13 || octet == 10 || octet == 45

-- the first line of a text, if there is one, is no boundary line
abbrev pub IsFirstInside : List ℕ → List ℕ → Type 0
IsFirstInside boundary text = (line : List ℕ) (more : List (List ℕ)) → lines_of text ≡ line ∷ more → is_section_line boundary line ≡ true

-- what the first line of a text is, and what follows it if it is a boundary line
pub record MarksFirst (boundary text : List ℕ) (mark : LineMark) (after : List ℕ) : Type 0 where
  pub inside : is_section_mark mark ≡ true → IsFirstInside boundary text
  pub other : is_section_mark mark ≡ false → (line : List ℕ) × (CutsLine text line after) × (mark ≡ line_mark boundary line)

-- the section that a text begins with, the boundary line that ends it, if there is one, and what follows
pub record CutsSection (boundary text : List ℕ) (cut : SectionCut) : Type 0 where
  pub section : cut.section.now ≡ section_of boundary (lines_of text)
  pub later : sections_of boundary (lines_of text) ≡ sections_behind cut.mark boundary cut.after.now
  pub epilogue : epilogue_of boundary (lines_of text) ≡ epilogue_behind cut.mark boundary cut.after.now
  pub shorter : is_section_mark cut.mark ≡ false → length cut.after.now < length text
