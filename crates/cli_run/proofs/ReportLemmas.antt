-- The lines of a report, one after the other.
use Rattle.std.proofs.Common.{◌≡◌, ◌↔◌, Bool, true, false, IsTrue, List, ℕ, ◌<◌, ◌+◌, [], ◌∷◌, ◌++◌, codes, drop, get_or, length, map, append_assoc, ap, ◌∙◌, refl, sym}
use Rattle.std.proofs.lemmas.List.{drop_more}
use Rattle.std.proofs.lemmas.Grind.{flat_map-append}
use Rattle.std.specs.List.{flat_map}
use Rattle.store_accounts.specs.declared.report.Report.{Report}
use Rattle.cli_reports.specs.Reports.{delivery_lines, delivery_report, file_line, notice_lines, or_discard, send_line, vacation_lines, ended_line}

or_told : (lines : List (List ℕ)) → (lines ≡ [] → ⊥) → or_discard lines ≡ lines
or_told [] some = absurd (some refl)
or_told (line ∷ more) some = refl

pub told_lines : (report : Report) → (delivery_lines report ≡ [] → ⊥) → delivery_report report ≡ flat_map ended_line (delivery_lines report)
told_lines report some = ap (flat_map ended_line) (or_told (delivery_lines report) some)

pub told_none : (report : Report) → delivery_lines report ≡ [] → delivery_report report ≡ codes "discard\n"
told_none report none = ap (λ lines. flat_map ended_line (or_discard lines)) none

-- one that isn't empty is told
some_told : (told : Bool) (xs : List (List ℕ)) → told ≡ false → IsTrue told ↔ (xs ≡ []) → xs ≡ [] → ⊥
some_told told xs is same none = let no : true ≡ false = sym (same.1 none) ∙ is in cc

pub none_filed : (report : Report) (empty : Bool) → empty ≡ false → IsTrue empty ↔ (report.filed ≡ []) → delivery_lines report ≡ [] → ⊥
none_filed report empty is same = by report.filed (some_told empty report.filed is same)
  where
    by : (xs : List (List ℕ)) → (xs ≡ [] → ⊥) → map file_line xs ++ (map send_line report.sent ++ (vacation_lines report.vacation ++ notice_lines report.notice)) ≡ [] → ⊥
    by [] some none = some refl
    by (x ∷ xs) some none = let no = none in cc

pub none_sent : (report : Report) (empty : Bool) → empty ≡ false → IsTrue empty ↔ (report.sent ≡ []) → delivery_lines report ≡ [] → ⊥
none_sent report empty is same = by report.filed report.sent (some_told empty report.sent is same)
  where
    by : (xs ys : List (List ℕ)) → (ys ≡ [] → ⊥) → map file_line xs ++ (map send_line ys ++ (vacation_lines report.vacation ++ notice_lines report.notice)) ≡ [] → ⊥
    by [] [] some none = some refl
    by [] (y ∷ ys) some none = let no = none in cc
    by (x ∷ xs) ys some none = let no = none in cc

abbrev pub filed : Report → List ℕ
filed report = flat_map ended_line (map file_line report.filed)

abbrev pub sent : Report → List ℕ
sent report = flat_map ended_line (map send_line report.sent)

abbrev pub replied : Report → List ℕ
replied report = flat_map ended_line (vacation_lines report.vacation)

abbrev pub noticed : Report → List ℕ
noticed report = flat_map ended_line (notice_lines report.notice)

-- folders, addresses, vacation reply and notice
pub in_parts : (report : Report) → flat_map ended_line (delivery_lines report) ≡ filed report ++ (sent report ++ (replied report ++ noticed report))
in_parts report =
    flat_map-append ended_line (map file_line report.filed) (map send_line report.sent ++ (vacation_lines report.vacation ++ notice_lines report.notice))
    ∙ ap (λ l. filed report ++ l) (flat_map-append ended_line (map send_line report.sent) (vacation_lines report.vacation ++ notice_lines report.notice)
    ∙ ap (λ l. sent report ++ l) (flat_map-append ended_line (vacation_lines report.vacation) (notice_lines report.notice)))

-- one line more of those that are left
pub line_more : (word item text front all : List ℕ) (texts : List (List ℕ)) (i : ℕ) → i < length texts → item ≡ get_or texts i item → text ≡ item → front ++ flat_map ended_line (map (λ t. word ++ t) (drop i texts)) ≡ all
    → (front ++ ended_line (word ++ text)) ++ flat_map ended_line (map (λ t. word ++ t) (drop (i + 1) texts)) ≡ all
line_more word item text front all texts i below is same whole =
    append_assoc front (ended_line (word ++ text)) (flat_map ended_line (map (λ t. word ++ t) (drop (i + 1) texts)))
    ∙ ap (λ l. front ++ flat_map ended_line (map (λ t. word ++ t) l)) (sym (drop_more texts i item below ∙ ap (λ t. t ∷ drop (i + 1) texts) (sym (same ∙ is))))
    ∙ whole
