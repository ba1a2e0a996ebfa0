-- The grammar of a multipart (RFC 2046, section 5.1.1), on lines.
use Rattle.std.specs.Prelude.{◌≡◌, ◌⊎◌, ℕ, true, List, [], ◌∷◌, ◌++◌, codes}
use Rattle.std.specs.List.{concat, list_all}
use Rattle.octets.specs.Ascii.{is_blank}
use Rattle.mail_head.specs.Lines.{HasEnd, without_end}
use Rattle.mail_parts.specs.Sections.{line_mark, is_section_line}
use Rattle.mail_parts.specs.declared.section.LineMark.{LineMark}
use Rattle.mail_parts.specs.declared.section.LineMark.TheVariants.{Delimiter, Close}

-- a section without a boundary line behind it: its lines are all that is left
abbrev pub IsOpenSection : List (List ℕ) → List (List ℕ) → List ℕ → Type 0
IsOpenSection own rest text = (rest ≡ []) × (text ≡ concat own)

-- a section with a boundary line of this kind behind it, to which the line end before it belongs, and what follows
abbrev pub IsEndedSection : List ℕ → LineMark → List (List ℕ) → List (List ℕ) → List (List ℕ) → List ℕ → Type 0
IsEndedSection boundary mark own rest later text =
    (line : List ℕ) × (rest ≡ line ∷ later) × (line_mark boundary line ≡ mark) × (text ≡ without_end (concat own))

-- what stands behind a delimiter: sections, a delimiter between each two, and behind the last the closing line, or the end
abbrev pub SectionsStand : List ℕ → List (List ℕ) → List (List ℕ) → Type 0
SectionsStand boundary [] lines = ⊥
SectionsStand boundary (text ∷ more) lines =
    (own : List (List ℕ)) × (rest : List (List ℕ)) × (lines ≡ own ++ rest) × (list_all (is_section_line boundary) own ≡ true)
    × (((more ≡ []) × IsOpenSection own rest text)
    ⊎ (((more ≡ []) × ((epilogue : List (List ℕ)) × IsEndedSection boundary Close own rest epilogue text))
    ⊎ ((later : List (List ℕ)) × IsEndedSection boundary Delimiter own rest later text × SectionsStand boundary more later)))

-- a boundary line: two hyphens, the boundary, these dashes, transport-padding, which is blanks, and the line end, if there is one
pub record IsBoundaryLine (boundary dashes line : List ℕ) : Type 0 where
  pub tail : List ℕ
  pub padding : List ℕ
  pub ending : List ℕ
  pub spelled : line ≡ codes "--" ++ (boundary ++ (dashes ++ tail))
  pub ended : HasEnd tail padding ending
  pub blank : list_all is_blank padding ≡ true
