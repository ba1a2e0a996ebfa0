-- Lemmas on logical lines, and on what is left of a text after one.
use Rattle.std.proofs.Common.{◌≡◌, ℕ, ◌<◌, Bool, true, false, cond, ◌==◌, ◌&&◌, None, Some, List, [], ◌∷◌, ◌++◌, length, refl, sym, ap, ◌∙◌, arith}
use Rattle.std.proofs.lemmas.List.{append_assoc, append-nil}
use Rattle.std.proofs.lemmas.List.Folds.{list_all-append, concat-append}
use Rattle.std.specs.List.{concat, list_all}
use Rattle.octets.specs.Ascii.{is_blank}
use Rattle.mail_head.specs.Lines.{lines_of, begins_blank, first_is_folded, logical_lines, is_empty_line, header_lines, body_lines}
use Rattle.mail_head.specs.Cuts.{CutsLine, CutsLogicalLine, after_empty}
use Rattle.mail_head.proofs.LineLemmas.{begins_blank-append, goes_on-lines_of}

-- some lines of a text were read: the first, and others that begin with a blank
pub record IsFolded (text after : List ℕ) : Type 0 where
  pub first : List ℕ
  pub others : List (List ℕ)
  pub lines : lines_of text ≡ first ∷ (others ++ lines_of after)
  pub spelled : text ≡ concat (first ∷ others) ++ after
  pub present : 0 < length first
  pub folded : list_all begins_blank others ≡ true

pub and_true : (a b : Bool) → a ≡ true → b ≡ true → (a && b) ≡ true
and_true a b x y = rw (x, y) refl

-- one line more was read
pub folded_more : (text after line rest : List ℕ) → IsFolded text after → begins_blank after ≡ true → CutsLine after line rest → IsFolded text rest
folded_more text after line rest so_far blank cut = record {
  first = so_far.first;
  others = so_far.others ++ line ∷ [];
  lines =
      so_far.lines ∙ ap (λ t. so_far.first ∷ (so_far.others ++ t)) cut.first
      ∙ ap (λ t. so_far.first ∷ t) (sym (append_assoc so_far.others (line ∷ []) (lines_of rest)));
  spelled =
      let all = concat-append so_far.others (line ∷ []) in
      let last = append-nil line in
      let left = append_assoc so_far.first (concat so_far.others) line in
      let right = append_assoc (so_far.first ++ concat so_far.others) line rest in
      let was = so_far.spelled in
      let now = cut.spelled in
      was ∙ (ap (λ t. (so_far.first ++ concat so_far.others) ++ t) now ∙ (sym right ∙ ap (λ t. t ++ rest) (left ∙ ap (λ t. so_far.first ++ t) (sym (all ∙ ap (λ t. concat so_far.others ++ t) last)))));
  present = so_far.present;
  folded =
      let begins : begins_blank line ≡ true = sym (begins_blank-append line rest cut.present) ∙ (ap begins_blank (sym cut.spelled) ∙ blank) in
      list_all-append begins_blank so_far.others (line ∷ []) ∙ and_true _ _ so_far.folded (and_true _ _ begins refl);
}

pub and_left : (a b : Bool) → (a && b) ≡ true → a ≡ true
and_left true b both = refl
and_left false b both = both

pub and_right : (a b : Bool) → (a && b) ≡ true → b ≡ true
and_right true b both = both
and_right false b both = absurd (cc both)

blank_not_feed : (octet : ℕ) → is_blank octet ≡ true → (octet == 10) ≡ false
blank_not_feed octet blank = grind (arith)

blank_not_return : (octet : ℕ) → is_blank octet ≡ true → (octet == 13) ≡ false
blank_not_return octet blank = grind (arith)

-- a line that begins with a blank isn't empty
pub blank_not_empty : (line : List ℕ) → begins_blank line ≡ true → is_empty_line line ≡ false
blank_not_empty [] blank = refl
blank_not_empty (octet ∷ []) blank = blank_not_feed octet blank
blank_not_empty (octet ∷ (next ∷ [])) blank = rw (blank_not_return octet blank) refl
blank_not_empty (octet ∷ (next ∷ (third ∷ more))) blank = refl

-- lines that begin with a blank are header lines
pub header_lines-folded : (others more : List (List ℕ)) → list_all begins_blank others ≡ true → header_lines (others ++ more) ≡ others ++ header_lines more
header_lines-folded [] more all = refl
header_lines-folded (line ∷ others) more all =
    let kept : is_empty_line line ≡ false = blank_not_empty line (and_left _ _ all) in
    let later = header_lines-folded others more (and_right _ _ all) in
    rw (kept, later) refl

-- the body lies after lines that begin with a blank
pub body_lines-folded : (others more : List (List ℕ)) → list_all begins_blank others ≡ true → body_lines (others ++ more) ≡ body_lines more
body_lines-folded [] more all = refl
body_lines-folded (line ∷ others) more all =
    let kept : is_empty_line line ≡ false = blank_not_empty line (and_left _ _ all) in
    rw kept (body_lines-folded others more (and_right _ _ all))

-- a line and those that begin with a blank are one logical line
pub logical_lines-folded : (first : List ℕ) (others more : List (List ℕ)) → list_all begins_blank others ≡ true → first_is_folded more ≡ false → logical_lines (first ∷ (others ++ more)) ≡ concat (first ∷ others) ∷ logical_lines more
logical_lines-folded first [] more all ended = rw (ended, append-nil first) refl
logical_lines-folded first (line ∷ others) more all ended =
    let blank : begins_blank line ≡ true = and_left _ _ all in
    let later = logical_lines-folded line others more (and_right _ _ all) ended in
    rw (blank, later) refl

goes_on-cond : (test : Bool) (line : List ℕ) (lines : List (List ℕ)) → begins_blank line ≡ false → first_is_folded (cond test [] (line ∷ lines)) ≡ false
goes_on-cond true line lines not_blank = refl
goes_on-cond false line lines not_blank = not_blank

-- where no line goes on, no header line does
pub goes_on-header_lines : (lines : List (List ℕ)) → first_is_folded lines ≡ false → first_is_folded (header_lines lines) ≡ false
goes_on-header_lines [] not_blank = refl
goes_on-header_lines (line ∷ more) not_blank = goes_on-cond (is_empty_line line) line (header_lines more) not_blank

not_empty_first : (line : List ℕ) (more : List (List ℕ)) (lines : List (List ℕ)) → lines ≡ line ∷ more → after_empty lines ≡ None → is_empty_line line ≡ false
not_empty_first line more lines same none = no_empty (is_empty_line line) (concat more) (ap after_empty (sym same) ∙ none) where
  no_empty : (test : Bool) (text : List ℕ) → cond test (Some text) None ≡ None → test ≡ false
  no_empty true text h = absurd (cc h)
  no_empty false text h = refl

-- a logical line is the first one of what is left of the header
pub header_step : (text line after : List ℕ) → CutsLogicalLine text line after → after_empty (lines_of text) ≡ None
    → logical_lines (header_lines (lines_of text)) ≡ line ∷ logical_lines (header_lines (lines_of after))
header_step text line after cut none =
    let kept = not_empty_first cut.first (cut.others ++ lines_of after) (lines_of text) cut.lines none in
    let folded = header_lines-folded cut.others (lines_of after) cut.folded in
    let ended = goes_on-header_lines (lines_of after) (goes_on-lines_of after ∙ cut.ended) in
    let logical = logical_lines-folded cut.first cut.others (header_lines (lines_of after)) cut.folded ended in
    let header : header_lines (lines_of text) ≡ cut.first ∷ (cut.others ++ header_lines (lines_of after)) = rw (cut.lines, kept, folded) refl in
    ap logical_lines header ∙ (logical ∙ ap (λ t. t ∷ logical_lines (header_lines (lines_of after))) (sym cut.parts))

-- the body lies after it
pub body_step : (text line after : List ℕ) → CutsLogicalLine text line after → after_empty (lines_of text) ≡ None → body_lines (lines_of text) ≡ body_lines (lines_of after)
body_step text line after cut none =
    let kept = not_empty_first cut.first (cut.others ++ lines_of after) (lines_of text) cut.lines none in
    rw (cut.lines, kept) (body_lines-folded cut.others (lines_of after) cut.folded)
