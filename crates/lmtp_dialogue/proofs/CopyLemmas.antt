-- The fields at the front of a text.
use Rattle.std.proofs.Common.{◌≡◌, ℕ, ◌+◌, ◌<◌, ◌==◌, Bool, true, false, List, [], ◌∷◌, ◌++◌, length, refl, sym, ap, ◌∙◌, append_assoc, length-append, arith, ◌||◌, ◌≤◌, drop, get_or, add-one}
use Rattle.std.proofs.Math.ListN.{drop_of_length-le}
use Rattle.std.proofs.Math.Seq.{drop-cons}
use Rattle.std.specs.List.{concat, list_any}
use Rattle.mail_head.specs.Fields.{field_text_of, field_texts_of}
use Rattle.mail_head.specs.declared.header.Field.{Field}
use Rattle.mail_head.specs.Cuts.{CutsLogicalLine}
use Rattle.mail_head.specs.Lines.{lines_of, logical_lines}
use Rattle.mail_head.proofs.FoldLemmas.{logical_lines-folded}
use Rattle.mail_head.proofs.LineLemmas.{goes_on-lines_of}
use Rattle.lmtp_dialogue.specs.Copies.{is_path_line, LeavesPaths, tells_delivery}

-- ---- one line comes first

first_logical : (text line after : List ℕ) → CutsLogicalLine text line after → logical_lines (lines_of text) ≡ line ∷ logical_lines (lines_of after)
first_logical text line after cut =
    ap logical_lines cut.lines
    ∙ (logical_lines-folded cut.first cut.others (lines_of after) cut.folded (goes_on-lines_of after ∙ cut.ended)
    ∙ ap (λ t. t ∷ logical_lines (lines_of after)) (sym cut.parts))

abbrev first_or : List (List ℕ) → List ℕ
first_or [] = []
first_or (line ∷ more) = line

one_logical : (text a b x y : List ℕ) → CutsLogicalLine text a x → CutsLogicalLine text b y → a ≡ b
one_logical text a b x y one two = ap first_or (sym (first_logical text a x one) ∙ first_logical text b y two)

-- ---- fields at the front

pub no_path : (text line after : List ℕ) → CutsLogicalLine text line after → is_path_line line ≡ false → LeavesPaths text text
no_path text line after cut other = ([], (refl, λ l a is path. absurd (cc (sym path ∙ (ap is_path_line (one_logical text l line a after is cut) ∙ other)))))

pub no_line : (text : List ℕ) → (length text == 0) ≡ true → LeavesPaths text text
no_line [] none = ([], (refl, λ line after cut path. absurd (cc (cut.lines))))
no_line (octet ∷ text) none = absurd (omega (arith, length_is (octet ∷ text) none))
  where
    length_is : (t : List ℕ) → (length t == 0) ≡ true → length t ≡ 0
    length_is t same = grind (arith)

pub path_more : (text line after : List ℕ) → CutsLogicalLine text line after → is_path_line line ≡ true → (rest : List ℕ) → LeavesPaths after rest → LeavesPaths text rest
path_more text line after cut path rest leaves = (line ∷ leaves.0, (after, cut, path, leaves.1))

pub shorter : (text line after : List ℕ) → CutsLogicalLine text line after → length after < length text
shorter text line after cut =
    omega (arith, ap (λ (t : List ℕ). length t) cut.spelled, length-append line after, ap (λ (t : List ℕ). length t) cut.parts, length-append cut.first (concat cut.others), cut.present)

-- ---- five texts

pub five : (v w x y z start a b c d e : List ℕ) → v ≡ start ++ a → w ≡ v ++ b → x ≡ w ++ c → y ≡ x ++ d → z ≡ y ++ e → z ≡ start ++ (a ++ (b ++ (c ++ (d ++ e))))
five v w x y z start a b c d e one two three four last =
    last ∙ (ap (λ t. t ++ e) four ∙ (ap (λ t. (t ++ d) ++ e) three ∙ (ap (λ t. ((t ++ c) ++ d) ++ e) two ∙ (ap (λ t. (((t ++ b) ++ c) ++ d) ++ e) one ∙ simp append_assoc))))

-- ---- whether one of some fields is such a one

any_there : (recipient : List ℕ) (fields : List Field) (i : ℕ) (other : Field) → i < length fields
    → list_any (tells_delivery recipient) (field_texts_of (drop i fields))
    ≡ (tells_delivery recipient (field_text_of (get_or fields i other)) || list_any (tells_delivery recipient) (field_texts_of (drop (i + 1) fields)))
any_there recipient fields i other less =
    ap (λ l. list_any (tells_delivery recipient) (field_texts_of l))
    (drop-cons fields i other less ∙ ap (λ n. get_or fields i other ∷ drop n fields) (sym (add-one i)))

-- this one is
pub any_here : (recipient : List ℕ) (fields : List Field) (i : ℕ) (other : Field) (tells all : Bool) → i < length fields
    → tells ≡ tells_delivery recipient (field_text_of (get_or fields i other)) → tells ≡ true
    → list_any (tells_delivery recipient) (field_texts_of (drop i fields)) ≡ all → true ≡ all
any_here recipient fields i other tells all less is passes so_far =
    let here : tells_delivery recipient (field_text_of (get_or fields i other)) ≡ true = sym is ∙ passes in
    sym (sym so_far ∙ (any_there recipient fields i other less ∙ ap (λ b. b || list_any (tells_delivery recipient) (field_texts_of (drop (i + 1) fields))) here))

-- this one isn't
pub any_later : (recipient : List ℕ) (fields : List Field) (i : ℕ) (other : Field) (tells all : Bool) → i < length fields
    → tells ≡ tells_delivery recipient (field_text_of (get_or fields i other)) → tells ≡ false
    → list_any (tells_delivery recipient) (field_texts_of (drop i fields)) ≡ all → list_any (tells_delivery recipient) (field_texts_of (drop (i + 1) fields)) ≡ all
any_later recipient fields i other tells all less is no_more so_far =
    let here : tells_delivery recipient (field_text_of (get_or fields i other)) ≡ false = sym is ∙ no_more in
    sym (any_there recipient fields i other less ∙ ap (λ b. b || list_any (tells_delivery recipient) (field_texts_of (drop (i + 1) fields))) here) ∙ so_far

-- none is left
pub any_none : (recipient : List ℕ) (fields : List Field) (i : ℕ) (all : Bool) → length fields ≤ i
    → list_any (tells_delivery recipient) (field_texts_of (drop i fields)) ≡ all → false ≡ all
any_none recipient fields i all less so_far = ap (λ l. list_any (tells_delivery recipient) (field_texts_of l)) (sym (drop_of_length-le fields less)) ∙ so_far
