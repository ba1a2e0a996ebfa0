-- A line that is too long, of which only the end is held.
use Rattle.std.proofs.Common.{◌≡◌, ℕ, List, [], ◌∷◌, ◌++◌, inl, inr, refl, sym, ap, ◌∙◌, subst, append_assoc, append-nil}
use Rattle.lmtp_dialogue.specs.Lines.{line_end, HasNoLineEnd, IsCrlfLine}
use Rattle.lmtp_dialogue.specs.Receivers.{AgreesWithStream, JoinsNone}
use Rattle.lmtp_dialogue.proofs.TextLemmas.{same_first, same_others, not_none, none_longer}

-- ---- streams that begin so

-- octets in front of one
more_in_front : (u p x m : List ℕ) → u ++ p ≡ x ++ m → AgreesWithStream u x
more_in_front [] p x m same = inl (x, refl)
more_in_front (o ∷ u) p [] m same = inr (o ∷ u, refl)
more_in_front (o ∷ u) p (a ∷ x) m same =
    let first = same_first o a (u ++ p) (x ++ m) same in
    elim (more_in_front u p x m (same_others o a (u ++ p) (x ++ m) same)) [
      | inl longer ↦ inl (longer.0, ap (λ t. a ∷ t) longer.1 ∙ ap (λ f. f ∷ (u ++ longer.0)) (sym first))
      | inr shorter ↦ inr (shorter.0, ap (λ t. o ∷ t) shorter.1 ∙ ap (λ f. f ∷ (x ++ shorter.0)) first)
    ]

agrees_less : (u p x : List ℕ) → AgreesWithStream (u ++ p) x → AgreesWithStream u x
agrees_less u p x is = elim is [
  | inl longer ↦ inl (p ++ longer.0, longer.1 ∙ append_assoc u p longer.0)
  | inr shorter ↦ more_in_front u p x shorter.0 shorter.1
]

agrees_behind : (front u x : List ℕ) → AgreesWithStream u x → AgreesWithStream (front ++ u) (front ++ x)
agrees_behind front u x is = elim is [
  | inl longer ↦ inl (longer.0, ap (λ t. front ++ t) longer.1 ∙ sym (append_assoc front u longer.0))
  | inr shorter ↦ inr (shorter.0, ap (λ t. front ++ t) shorter.1 ∙ sym (append_assoc front x shorter.0))
]

pub agrees_itself : (u : List ℕ) → AgreesWithStream u u
agrees_itself u = inl ([], sym (append-nil u))

-- ---- octets that make no line end with them

pub joins_more : (gone u piece : List ℕ) → JoinsNone gone u → JoinsNone gone (u ++ piece)
joins_more gone u piece joins = λ x agrees none. joins x (agrees_less u piece x agrees) none

pub joins_nothing : (u : List ℕ) → JoinsNone [] u
joins_nothing u = λ x agrees none. none

pub joins_both : (gone front rest : List ℕ) → JoinsNone gone (front ++ rest) → JoinsNone front rest → JoinsNone (gone ++ front) rest
joins_both gone front rest joins here = λ x agrees none.
    subst HasNoLineEnd (sym (append_assoc gone front x)) (joins (front ++ x) (agrees_behind front rest x agrees) (here x agrees none))

-- two texts that have one octet in common
rest_has_none : (octet : ℕ) (text : List ℕ) → HasNoLineEnd (octet ∷ text) → HasNoLineEnd text
rest_has_none octet text none = λ front back same. none (octet ∷ front) back (ap (λ t. octet ∷ t) same)

pub seam : (g : List ℕ) (c : ℕ) (x : List ℕ) → HasNoLineEnd (g ++ c ∷ []) → HasNoLineEnd (c ∷ x) → HasNoLineEnd (g ++ c ∷ x)
seam [] c x one two = two
seam (a ∷ g) c x one two = seam_at a g c x one (seam g c x (rest_has_none a (g ++ c ∷ []) one) two)
  where
    seam_at : (a : ℕ) (g : List ℕ) (c : ℕ) (x : List ℕ) → HasNoLineEnd (a ∷ (g ++ c ∷ [])) → HasNoLineEnd (g ++ c ∷ x) → HasNoLineEnd (a ∷ (g ++ c ∷ x))
    seam_at a [] c x one two [] back same =
        let next : c ≡ 10 = same_first c 10 x back (same_others a 13 (c ∷ x) (10 ∷ back) same) in
        one [] [] (ap (λ o. o ∷ c ∷ []) (same_first a 13 (c ∷ x) (10 ∷ back) same) ∙ ap (λ o. 13 ∷ o ∷ []) next)
    seam_at a (b ∷ g) c x one two [] back same =
        let next : b ≡ 10 = same_first b 10 (g ++ c ∷ x) back (same_others a 13 (b ∷ (g ++ c ∷ x)) (10 ∷ back) same) in
        one [] (g ++ c ∷ []) (ap (λ o. o ∷ b ∷ (g ++ c ∷ [])) (same_first a 13 (b ∷ (g ++ c ∷ x)) (10 ∷ back) same) ∙ ap (λ o. 13 ∷ o ∷ (g ++ c ∷ [])) next)
    seam_at a g c x one two (f ∷ front) back same =
        two front back (same_others a f (g ++ c ∷ x) (front ++ (line_end ++ back)) same)

-- all but the last octet of a text without a line end
pub joins_last : (front : List ℕ) (octet : ℕ) → HasNoLineEnd (front ++ octet ∷ []) → JoinsNone front (octet ∷ [])
joins_last front octet none x agrees = λ absent. joins_at front octet none x agrees absent
  where
    front_has_none : (front more : List ℕ) → HasNoLineEnd (front ++ more) → HasNoLineEnd front
    front_has_none front more none = λ f b same. none f (b ++ more) (ap (λ t. t ++ more) same ∙ append_assoc f (line_end ++ b) more)

    joins_at : (front : List ℕ) (octet : ℕ) → HasNoLineEnd (front ++ octet ∷ []) → (x : List ℕ) → AgreesWithStream (octet ∷ []) x → HasNoLineEnd x → HasNoLineEnd (front ++ x)
    joins_at front octet none [] agrees absent = subst HasNoLineEnd (sym (append-nil front)) (front_has_none front (octet ∷ []) none)
    joins_at front octet none (o ∷ x) (inl longer) absent =
        let first = same_first o octet x longer.0 longer.1 in
        seam front o x (subst (λ f. HasNoLineEnd (front ++ f ∷ [])) (sym first) none) absent
    joins_at front octet none (o ∷ []) (inr shorter) absent =
        let first = same_first octet o [] shorter.0 shorter.1 in
        subst (λ f. HasNoLineEnd (front ++ f ∷ [])) first none
    joins_at front octet none (o ∷ p ∷ x) (inr shorter) absent =
        absurd (not_none p (x ++ shorter.0) (sym (same_others octet o [] (p ∷ x ++ shorter.0) shorter.1)))

-- a line, before its CRLF
pub joins_line : (line rest : List ℕ) → IsCrlfLine line → JoinsNone line (line_end ++ rest)
joins_line line rest is [] agrees absent = subst HasNoLineEnd (sym (append-nil line)) (λ f b same. is f (b ++ 13 ∷ []) (ap (λ t. t ++ 13 ∷ []) same ∙ append_assoc f (line_end ++ b) (13 ∷ [])))
joins_line line rest is (o ∷ []) (inl longer) absent = absurd (none_longer 10 [] (rest ++ longer.0) (same_others o 13 [] (10 ∷ (rest ++ longer.0)) longer.1))
joins_line line rest is (o ∷ []) (inr shorter) absent = subst (λ f. HasNoLineEnd (line ++ f ∷ [])) (same_first 13 o (10 ∷ rest) shorter.0 shorter.1) is
joins_line line rest is (o ∷ p ∷ x) (inl longer) absent =
    absurd (absent [] (rest ++ longer.0) longer.1)
joins_line line rest is (o ∷ p ∷ x) (inr shorter) absent =
    let first = same_first 13 o (10 ∷ rest) (p ∷ x ++ shorter.0) shorter.1 in
    let second = same_first 10 p rest (x ++ shorter.0) (same_others 13 o (10 ∷ rest) (p ∷ x ++ shorter.0) shorter.1) in
    absurd (absent [] x (ap (λ f. f ∷ p ∷ x) (sym first) ∙ ap (λ f. 13 ∷ f ∷ x) (sym second)))
