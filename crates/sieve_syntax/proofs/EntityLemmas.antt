-- A text is a MIME entity exactly where the function says so.
use Rattle.std.proofs.Common.{◌≡◌, ◌↔◌, ℕ, Bool, true, false, cond, ◌||◌, List, [], ◌∷◌, ◌++◌, Option, Some, None, refl, ap, ◌∙◌}
use Rattle.std.specs.Prelude.{All}
use Rattle.std.specs.List.{list_all, list_any}
use Rattle.std.proofs.lemmas.List.Elements.{All-nil, All-cons, All-head, All-tail}
use Rattle.mail_head.specs.Fields.{FieldText, field_of}
use Rattle.mail_head.specs.Lines.{lines_of, is_empty_line, logical_lines, header_lines}
use Rattle.mail_head.proofs.FoldLemmas.{and_true, and_left, and_right}
use Rattle.mail_head.proofs.FormLemmas.{field_is, is_field}
use Rattle.sieve_syntax.specs.Extension.Vacation.Reasons.{has_mime_name, is_header_octet, is_mime_line, is_entity, IsMimeLine, IsEntity}

-- a test and what it says, of each in a list
each_passes : {X : Type 0} (p : X → Bool) (P : X → Type 0) → ((x : X) → p x ≡ true → P x) → (xs : List X) → list_all p xs ≡ true → All P xs
each_passes p P says [] all = All-nil P
each_passes p P says (x ∷ xs) all = All-cons P x xs (says x (and_left _ _ all)) (each_passes p P says xs (and_right _ _ all))

passes_each : {X : Type 0} (p : X → Bool) (P : X → Type 0) → ((x : X) → P x → p x ≡ true) → (xs : List X) → All P xs → list_all p xs ≡ true
passes_each p P says [] all = refl
passes_each p P says (x ∷ xs) all = and_true _ _ (says x (All-head P x xs all)) (passes_each p P says xs (All-tail P x xs all))

-- the line of a MIME field
mime_line : (line : List ℕ) → is_mime_line line ≡ true → IsMimeLine line
mime_line line is = step (field_of line) refl (and_right (list_all is_header_octet line) (has_mime_name (field_of line)) is)
  where
    step : (found : Option FieldText) → field_of line ≡ found → has_mime_name found ≡ true → IsMimeLine line
    step None at named = absurd (cc named)
    step (Some field) at named = record {
      octets = each_passes is_header_octet (λ octet. is_header_octet octet ≡ true) (λ octet h. h) line (and_left _ _ is);
      field = field;
      form = field_is line field at;
      named = named;
    }

line_mime : (line : List ℕ) → IsMimeLine line → is_mime_line line ≡ true
line_mime line is =
    and_true _ _ (passes_each is_header_octet (λ octet. is_header_octet octet ≡ true) (λ octet h. h) line is.octets)
    (ap has_mime_name (is_field line is.field is.form) ∙ is.named)

-- a line that is not the empty one
abbrev IsFull : List ℕ → Type 0
IsFull line = is_empty_line line ≡ false

-- the lines up to the first empty one, and what follows them
pub record IsCutBy (header lines : List (List ℕ)) : Type 0 where
  pub empty : List ℕ
  pub body : List (List ℕ)
  pub whole : lines ≡ header ++ empty ∷ body
  pub full : All IsFull header
  pub ends : is_empty_line empty ≡ true

cut_first : (test : Bool) (line : List ℕ) (more : List (List ℕ)) → is_empty_line line ≡ test → (list_any is_empty_line more ≡ true → IsCutBy (header_lines more) more) → (test || list_any is_empty_line more) ≡ true → IsCutBy (cond test [] (line ∷ header_lines more)) (line ∷ more)
cut_first true line more is later some = record { empty = line; body = more; whole = refl; full = All-nil IsFull; ends = is }
cut_first false line more is later some =
    let cut = later some in
    record { empty = cut.empty; body = cut.body; whole = ap (λ l. line ∷ l) cut.whole; full = All-cons IsFull line (header_lines more) is cut.full; ends = cut.ends }

cut_lines : (lines : List (List ℕ)) → list_any is_empty_line lines ≡ true → IsCutBy (header_lines lines) lines
cut_lines [] some = absurd (cc some)
cut_lines (line ∷ more) some = cut_first (is_empty_line line) line more refl (cut_lines more) some

-- the same the other way
header_again : (header : List (List ℕ)) (empty : List ℕ) (body : List (List ℕ)) → All IsFull header → is_empty_line empty ≡ true → header_lines (header ++ empty ∷ body) ≡ header
header_again [] empty body full ends = ap (λ b. cond b [] (empty ∷ header_lines body)) ends
header_again (line ∷ more) empty body full ends =
    ap (λ b. cond b [] (line ∷ header_lines (more ++ empty ∷ body))) (All-head IsFull line more full)
    ∙ ap (λ l. line ∷ l) (header_again more empty body (All-tail IsFull line more full) ends)

some_empty : (header : List (List ℕ)) (empty : List ℕ) (body : List (List ℕ)) → is_empty_line empty ≡ true → list_any is_empty_line (header ++ empty ∷ body) ≡ true
some_empty [] empty body ends = ap (λ b. b || list_any is_empty_line body) ends
some_empty (line ∷ more) empty body ends = step (is_empty_line line) (some_empty more empty body ends)
  where
    step : (b : Bool) → list_any is_empty_line (more ++ empty ∷ body) ≡ true → (b || list_any is_empty_line (more ++ empty ∷ body)) ≡ true
    step true is = refl
    step false is = is

entity_is : (text : List ℕ) → is_entity text ≡ true → IsEntity text
entity_is text is =
    let cut = cut_lines (lines_of text) (and_left _ _ is) in
    record {
      header = header_lines (lines_of text);
      empty = cut.empty;
      body = cut.body;
      lines = cut.whole;
      full = cut.full;
      ends = cut.ends;
      fields = each_passes is_mime_line IsMimeLine mime_line (logical_lines (header_lines (lines_of text))) (and_right _ _ is);
    }

is_that_entity : (text : List ℕ) → IsEntity text → is_entity text ≡ true
is_that_entity text it =
    let again : header_lines (lines_of text) ≡ it.header = ap header_lines it.lines ∙ header_again it.header it.empty it.body it.full it.ends in
    and_true _ _ (ap (list_any is_empty_line) it.lines ∙ some_empty it.header it.empty it.body it.ends)
    (ap (λ h. list_all is_mime_line (logical_lines h)) again ∙ passes_each is_mime_line IsMimeLine line_mime (logical_lines it.header) it.fields)

pub entity_decides : (text : List ℕ) → (is_entity text ≡ true) ↔ IsEntity text
entity_decides text = (entity_is text, is_that_entity text)
