-- A text is blanks, one text that neither begins nor ends with a blank, and blanks.
use Rattle.std.proofs.Common.{◌≡◌, ℕ, Bool, true, false, ◌&&◌, List, [], ◌∷◌, ◌++◌, refl, sym, ap, ◌∙◌}
use Rattle.std.proofs.lemmas.List.{append-nil}
use Rattle.std.specs.List.{list_all}
use Rattle.octets.specs.Ascii.{is_blank, trim_front, prepend_trimmed, trim_back, trimmed}
use Rattle.octets.specs.Trimming.{Trims}

both : (a b : Bool) → (a && b) ≡ true → (a ≡ true) × (b ≡ true)
both true b is = (refl, is)
both false b is = absurd (cc is)

joined : (a b : Bool) → a ≡ true → b ≡ true → (a && b) ≡ true
joined a b p q = rw (p, q) refl

-- blanks at the front go
front_gone : (front rest : List ℕ) → list_all is_blank front ≡ true → trim_front (front ++ rest) ≡ trim_front rest
front_gone [] rest all = refl
front_gone (octet ∷ front) rest all =
    let parts = both (is_blank octet) (list_all is_blank front) all in
    let here = parts.0 in
    rw here (front_gone front rest parts.1)

-- and blanks at the end
back_none : (back : List ℕ) → list_all is_blank back ≡ true → trim_back back ≡ []
back_none [] all = refl
back_none (octet ∷ back) all =
    let parts = both (is_blank octet) (list_all is_blank back) all in
    let here = parts.0 in
    let later = back_none back parts.1 in
    rw (later, here) refl

back_gone : (kept back : List ℕ) → list_all is_blank back ≡ true → trim_back (kept ++ back) ≡ trim_back kept
back_gone [] back all = back_none back all
back_gone (octet ∷ kept) back all = ap (prepend_trimmed octet) (back_gone kept back all)

-- what has no blank at its end stays
back_kept : (kept : List ℕ) → ((rest : List ℕ) (octet : ℕ) → kept ≡ rest ++ octet ∷ [] → is_blank octet ≡ false) → trim_back kept ≡ kept
back_kept [] ends = refl
back_kept (octet ∷ []) ends = let last = ends [] octet refl in rw last refl
back_kept (octet ∷ (next ∷ kept)) ends = ap (prepend_trimmed octet) (back_kept (next ∷ kept) (λ rest last is. ends (octet ∷ rest) last (ap (λ t. octet ∷ t) is)))

front_kept : (kept back : List ℕ) → list_all is_blank back ≡ true → ((octet : ℕ) (rest : List ℕ) → kept ≡ octet ∷ rest → is_blank octet ≡ false) → trim_back (trim_front (kept ++ back)) ≡ trim_back kept
front_kept [] back all begins =
    let gone = front_gone back [] all in
    ap (λ t. trim_back (trim_front t)) (sym (append-nil back)) ∙ ap trim_back gone
front_kept (octet ∷ kept) back all begins =
    let first = begins octet kept refl in
    let stays : trim_front (octet ∷ (kept ++ back)) ≡ octet ∷ (kept ++ back) = rw first refl in
    ap trim_back stays ∙ back_gone (octet ∷ kept) back all

-- the text between is the only one
pub trim_only : (text kept : List ℕ) → Trims text kept → kept ≡ trimmed text
trim_only text kept is =
    sym (ap trimmed is.spelled ∙ (ap trim_back (front_gone is.front (kept ++ is.back) is.front_blank)
    ∙ (front_kept kept is.back is.back_blank is.begins ∙ back_kept kept is.ends)))

-- what is left at the front
record FrontCut (text : List ℕ) : Type 0 where
  front : List ℕ
  spelled : text ≡ front ++ trim_front text
  blank : list_all is_blank front ≡ true
  begins : (octet : ℕ) (rest : List ℕ) → trim_front text ≡ octet ∷ rest → is_blank octet ≡ false

front_cut : (text : List ℕ) → FrontCut text
front_cut [] = record { front = []; spelled = refl; blank = refl; begins = λ octet rest is. absurd (cc is) }
front_cut (octet ∷ text) = by_blank (is_blank octet) refl (front_cut text) where
  by_blank : (test : Bool) → is_blank octet ≡ test → FrontCut text → FrontCut (octet ∷ text)
  by_blank true is cut =
      let goes : trim_front (octet ∷ text) ≡ trim_front text = rw is refl in
      record {
        front = octet ∷ cut.front;
        spelled = ap (λ t. octet ∷ t) cut.spelled ∙ ap (λ t. octet ∷ (cut.front ++ t)) (sym goes);
        blank = joined _ _ is cut.blank;
        begins = λ first rest e. cut.begins first rest (sym goes ∙ e);
      }
  by_blank false is cut =
      let stays : trim_front (octet ∷ text) ≡ octet ∷ text = rw is refl in
      record {
        front = [];
        spelled = sym stays;
        blank = refl;
        begins = λ first rest e. (let same : octet ∷ text ≡ first ∷ rest = sym stays ∙ e in let one : octet ≡ first = cc in ap is_blank (sym one) ∙ is);
      }

empty : (rest : List ℕ) (octet : ℕ) → [] ≡ rest ++ octet ∷ [] → ⊥
empty [] octet e = cc e
empty (first ∷ rest) octet e = cc e

-- one octet alone ends with itself
alone : (rest : List ℕ) (octet last : ℕ) → octet ∷ [] ≡ rest ++ last ∷ [] → octet ≡ last
alone [] octet last e = cc
alone (first ∷ rest) octet last e = let more : [] ≡ rest ++ last ∷ [] = cc in absurd (empty rest last more)

-- what ends a text with an octet before it ends the text
after_first : (octet : ℕ) (text : List ℕ) (next : ℕ) (kept : List ℕ) → text ≡ next ∷ kept → ((rest : List ℕ) (last : ℕ) → text ≡ rest ++ last ∷ [] → is_blank last ≡ false) → (rest : List ℕ) (last : ℕ) → octet ∷ text ≡ rest ++ last ∷ [] → is_blank last ≡ false
after_first octet text next kept some ends [] last e = let none : text ≡ [] = cc in absurd (cc (sym some ∙ none))
after_first octet text next kept some ends (first ∷ rest) last e = let more : text ≡ rest ++ last ∷ [] = cc in ends rest last more

-- what is left at the end
record BackCut (text : List ℕ) : Type 0 where
  back : List ℕ
  spelled : text ≡ trim_back text ++ back
  blank : list_all is_blank back ≡ true
  ends : (rest : List ℕ) (octet : ℕ) → trim_back text ≡ rest ++ octet ∷ [] → is_blank octet ≡ false

-- an octet before what is left
back_more : (octet : ℕ) (text kept : List ℕ) → trim_back text ≡ kept → BackCut text → BackCut (octet ∷ text)
back_more octet text [] none cut = by_blank (is_blank octet) refl where
  all : text ≡ cut.back
  all = cut.spelled ∙ ap (λ t. t ++ cut.back) none

  by_blank : (test : Bool) → is_blank octet ≡ test → BackCut (octet ∷ text)
  by_blank true is =
      let goes : trim_back (octet ∷ text) ≡ [] = ap (prepend_trimmed octet) none ∙ (rw is refl) in
      record {
        back = octet ∷ cut.back;
        spelled = ap (λ t. octet ∷ t) all ∙ ap (λ t. t ++ octet ∷ cut.back) (sym goes);
        blank = joined _ _ is cut.blank;
        ends = λ rest last e. absurd (empty rest last (sym goes ∙ e));
      }
  by_blank false is =
      let stays : trim_back (octet ∷ text) ≡ octet ∷ [] = ap (prepend_trimmed octet) none ∙ (rw is refl) in
      record {
        back = cut.back;
        spelled = ap (λ t. octet ∷ t) all ∙ ap (λ t. t ++ cut.back) (sym stays);
        blank = cut.blank;
        ends = λ rest last e. ap is_blank (sym (alone rest octet last (sym stays ∙ e))) ∙ is;
      }
back_more octet text (next ∷ kept) some cut =
    let stays : trim_back (octet ∷ text) ≡ octet ∷ trim_back text = ap (prepend_trimmed octet) some ∙ ap (λ t. octet ∷ t) (sym some) in
    record {
      back = cut.back;
      spelled = ap (λ t. octet ∷ t) cut.spelled ∙ ap (λ t. t ++ cut.back) (sym stays);
      blank = cut.blank;
      ends = λ rest last e. after_first octet (trim_back text) next kept some cut.ends rest last (sym stays ∙ e);
    }

back_cut : (text : List ℕ) → BackCut text
back_cut [] = record { back = []; spelled = refl; blank = refl; ends = λ rest octet is. absurd (empty rest octet is) }
back_cut (octet ∷ text) = back_more octet text (trim_back text) refl (back_cut text)

-- the first octet of what stays at the end
first_stays : (text : List ℕ) → ((octet : ℕ) (rest : List ℕ) → text ≡ octet ∷ rest → is_blank octet ≡ false) → (octet : ℕ) (rest : List ℕ) → trim_back text ≡ octet ∷ rest → is_blank octet ≡ false
first_stays [] begins octet rest is = absurd (cc is)
first_stays (first ∷ text) begins octet rest is =
    let one : octet ≡ first = front_of (trim_back text) is in
    ap is_blank one ∙ begins first text refl where
      front_of : (kept : List ℕ) → prepend_trimmed first kept ≡ octet ∷ rest → octet ≡ first
      front_of [] e = let stays : prepend_trimmed first [] ≡ first ∷ [] = (let bare = begins first text refl in rw bare refl) in let same : octet ∷ rest ≡ first ∷ [] = sym e ∙ stays in cc
      front_of (next ∷ kept) e = cc

-- and a text has one
pub trim_found : (text : List ℕ) → Trims text (trimmed text)
trim_found text =
    let first = front_cut text in
    let second = back_cut (trim_front text) in
    record {
      front = first.front;
      back = second.back;
      spelled = first.spelled ∙ ap (λ t. first.front ++ t) second.spelled;
      front_blank = first.blank;
      back_blank = second.blank;
      begins = first_stays (trim_front text) first.begins;
      ends = second.ends;
    }
