-- The form of boundary lines.
use Rattle.std.proofs.Common.{◌≡◌, ◌≢◌, ℕ, inl, inr, Bool, true, false, cond, Option, None, Some, List, [], ◌∷◌, ◌++◌, length, take, drop, refl, sym, ap, ◌∙◌}
use Rattle.std.specs.Prelude.{codes, bytes_eq, option_and_then}
use Rattle.std.specs.List.{list_all}
use Rattle.std.proofs.lemmas.List.{take_at, drop_at, take-append-drop}
use Rattle.std.proofs.lemmas.Slice.Eq.{bytes_eq-Decides}
use Rattle.octets.specs.Ascii.{is_blank}
use Rattle.mail_head.specs.Lines.{HasEnd, EndsBare, IsUnended, without_end, end_of}
use Rattle.mail_head.proofs.EndLaws.{end_found, end_only}
use Rattle.mail_parts.specs.Sections.{behind, is_padding, mark_if_padding, mark_behind, mark_if_behind, line_mark, is_section_mark}
use Rattle.mail_parts.specs.Multiparts.{IsBoundaryLine}
use Rattle.mail_parts.specs.declared.section.LineMark.{LineMark}
use Rattle.mail_parts.specs.declared.section.LineMark.TheVariants.{Inside, Delimiter, Close}

cut_is : (test : Bool) (front text after : List ℕ) → bytes_eq (take (length front) text) front ≡ test
    → cond test (Some (drop (length front) text)) None ≡ Some after → text ≡ front ++ after
cut_is true front text after is same =
    let head : take (length front) text ≡ front = (bytes_eq-Decides (take (length front) text) front).0 is in
    let rest : drop (length front) text ≡ after = cc same in
    sym (take-append-drop (length front) text) ∙ (ap (λ t. t ++ drop (length front) text) head ∙ ap (λ t. front ++ t) rest)
cut_is false front text after is same = cc same

behind_is : (front text after : List ℕ) → behind front text ≡ Some after → text ≡ front ++ after
behind_is front text after same = cut_is (bytes_eq (take (length front) text) front) front text after refl same

behind_there : (front after : List ℕ) → behind front (front ++ after) ≡ Some after
behind_there front after =
    let head : take (length front) (front ++ after) ≡ front = take_at front after (length front) refl in
    let test = (bytes_eq-Decides (take (length front) (front ++ after)) front).1 head in
    ap (λ t. cond t (Some (drop (length front) (front ++ after))) None) test ∙ ap Some (drop_at front after (length front) refl)

not_inside : (mark : LineMark) → is_section_mark mark ≡ false → Inside ≡ mark → ⊥
not_inside mark other is = let both : true ≡ false = ap is_section_mark is ∙ other in cc both

-- what stands behind the boundary of a boundary line
abbrev pub HasTail : List ℕ → List ℕ → LineMark → Type 0
HasTail boundary line mark = (tail : List ℕ) × (line ≡ codes "--" ++ (boundary ++ tail)) × (mark_behind tail ≡ mark)

tail_found : (found : Option (List ℕ)) (boundary line after : List ℕ) (mark : LineMark) → is_section_mark mark ≡ false → line ≡ codes "--" ++ after
    → behind boundary after ≡ found → mark_if_behind found ≡ mark → HasTail boundary line mark
tail_found None boundary line after mark other at is marked = absurd (not_inside mark other marked)
tail_found (Some tail) boundary line after mark other at is marked = (tail, at ∙ ap (λ t. codes "--" ++ t) (behind_is boundary after tail is), marked)

dashes_found : (found : Option (List ℕ)) (boundary line : List ℕ) (mark : LineMark) → is_section_mark mark ≡ false → behind (codes "--") line ≡ found
    → mark_if_behind (option_and_then (behind boundary) found) ≡ mark → HasTail boundary line mark
dashes_found None boundary line mark other is marked = absurd (not_inside mark other marked)
dashes_found (Some after) boundary line mark other is marked =
    tail_found (behind boundary after) boundary line after mark other (behind_is (codes "--") line after is) refl marked

pub mark_found : (boundary line : List ℕ) (mark : LineMark) → is_section_mark mark ≡ false → line_mark boundary line ≡ mark → HasTail boundary line mark
unfolding line_mark
mark_found boundary line mark other marked = dashes_found (behind (codes "--") line) boundary line mark other refl marked

mark_there : (boundary tail line : List ℕ) → line ≡ codes "--" ++ (boundary ++ tail) → line_mark boundary line ≡ mark_behind tail
unfolding line_mark
mark_there boundary tail line spelled =
    ap (λ l. mark_if_behind (option_and_then (behind boundary) (behind (codes "--") l))) spelled
    ∙ (ap (λ o. mark_if_behind (option_and_then (behind boundary) o)) (behind_there (codes "--") (boundary ++ tail))
    ∙ ap mark_if_behind (behind_there boundary tail))

padded : (boundary dashes line tail : List ℕ) → line ≡ codes "--" ++ (boundary ++ (dashes ++ tail)) → is_padding tail ≡ true → IsBoundaryLine boundary dashes line
padded boundary dashes line tail spelled is =
    record { tail = tail; padding = without_end tail; ending = end_of tail; spelled = spelled; ended = end_found tail; blank = is }

padding_there : (tail padding ending : List ℕ) → HasEnd tail padding ending → list_all is_blank padding ≡ true → is_padding tail ≡ true
padding_there tail padding ending has blank = ap (list_all is_blank) (sym (end_only tail padding ending has).0) ∙ blank

no_delimiter : (test : Bool) → cond test Close Inside ≡ Delimiter → false ≡ true
no_delimiter true is = cc is
no_delimiter false is = cc is

delimiter_tail : (test : Bool) (found : Option (List ℕ)) → cond test Delimiter (mark_if_padding found) ≡ Delimiter → test ≡ true
delimiter_tail true found is = refl
delimiter_tail false None is = cc is
delimiter_tail false (Some text) is = no_delimiter (is_padding text) is

pub delimiter_is : (boundary line : List ℕ) → line_mark boundary line ≡ Delimiter → IsBoundaryLine boundary [] line
delimiter_is boundary line marked =
    let found = mark_found boundary line Delimiter refl marked in
    padded boundary [] line found.0 found.1 (delimiter_tail (is_padding found.0) (behind (codes "--") found.0) found.2)

pub is_delimiter : (boundary line : List ℕ) → IsBoundaryLine boundary [] line → line_mark boundary line ≡ Delimiter
is_delimiter boundary line is =
    mark_there boundary is.tail line is.spelled
    ∙ ap (λ t. cond t Delimiter (mark_if_padding (behind (codes "--") is.tail))) (padding_there is.tail is.padding is.ending is.ended is.blank)

closes : (test : Bool) → cond test Close Inside ≡ Close → test ≡ true
closes true is = refl
closes false is = cc is

abbrev HasDashes : List ℕ → Type 0
HasDashes tail = (text : List ℕ) × (tail ≡ codes "--" ++ text) × (is_padding text ≡ true)

close_tail : (test : Bool) (found : Option (List ℕ)) (tail : List ℕ) → behind (codes "--") tail ≡ found → cond test Delimiter (mark_if_padding found) ≡ Close → HasDashes tail
close_tail true found tail at is = cc is
close_tail false None tail at is = cc is
close_tail false (Some text) tail at is = (text, behind_is (codes "--") tail text at, closes (is_padding text) is)

pub close_is : (boundary line : List ℕ) → line_mark boundary line ≡ Close → IsBoundaryLine boundary (codes "--") line
close_is boundary line marked =
    let found = mark_found boundary line Close refl marked in
    let dashes = close_tail (is_padding found.0) (behind (codes "--") found.0) found.0 refl found.2 in
    padded boundary (codes "--") line dashes.0 (found.1 ∙ ap (λ t. codes "--" ++ (boundary ++ t)) dashes.1) dashes.2

bare_cons : (octet : ℕ) (text : List ℕ) → octet ≢ 13 → EndsBare text → EndsBare (octet ∷ text)
bare_cons octet text other bare [] same = let is : octet ≡ 13 = cc same in other is
bare_cons octet text other bare (first ∷ front) same = let is : text ≡ front ++ 13 ∷ [] = cc same in bare front is

unended_cons : (octet : ℕ) (text : List ℕ) → octet ≢ 10 → IsUnended text → IsUnended (octet ∷ text)
unended_cons octet text other unended [] same = let is : octet ≡ 10 = cc same in other is
unended_cons octet text other unended (first ∷ front) same = let is : text ≡ front ++ 10 ∷ [] = cc same in unended front is

pub end_cons : (octet : ℕ) (line text ending : List ℕ) → octet ≢ 13 → octet ≢ 10 → HasEnd line text ending → HasEnd (octet ∷ line) (octet ∷ text) ending
end_cons octet line text ending no_return no_feed has = record {
  spelled = ap (λ t. octet ∷ t) has.spelled;
  kind = elim has.kind [
    | inl both ↦ inl both
    | inr other ↦ elim other [
      | inl feed ↦ inr (inl (feed.0, bare_cons octet text no_return feed.1))
      | inr none ↦ inr (inr (none.0, unended_cons octet text no_feed none.1))
    ]
  ];
}

pub is_close : (boundary line : List ℕ) → IsBoundaryLine boundary (codes "--") line → line_mark boundary line ≡ Close
is_close boundary line is =
    let no_return : 45 ≢ 13 = λ same. cc same in
    let no_feed : 45 ≢ 10 = λ same. cc same in
    let ended = end_cons 45 (45 ∷ is.tail) (45 ∷ is.padding) is.ending no_return no_feed (end_cons 45 is.tail is.padding is.ending no_return no_feed is.ended) in
    let dashed : is_padding (codes "--" ++ is.tail) ≡ false = ap (list_all is_blank) (sym (end_only (45 ∷ 45 ∷ is.tail) (45 ∷ 45 ∷ is.padding) is.ending ended).0) in
    mark_there boundary (codes "--" ++ is.tail) line is.spelled
    ∙ (ap (λ t. cond t Delimiter (mark_if_padding (behind (codes "--") (codes "--" ++ is.tail)))) dashed
    ∙ (ap mark_if_padding (behind_there (codes "--") is.tail)
    ∙ ap (λ t. cond t Close Inside) (padding_there is.tail is.padding is.ending is.ended is.blank)))
