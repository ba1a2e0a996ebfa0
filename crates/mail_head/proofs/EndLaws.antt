-- A line has one text and one line end.
use Rattle.std.proofs.Common.{◌≡◌, ◌≢◌, ℕ, ◌+◌, ◌-◌, ◌==◌, Bool, true, false, List, [], ◌∷◌, ◌++◌, length, take, drop, get_or, refl, sym, ap, ◌∙◌, inl, inr, arith}
use Rattle.std.proofs.lemmas.Bool.{eqb-true}
use Rattle.std.proofs.lemmas.List.{append-nil, append_assoc, take_at, drop_at, length-append, get_or-append-add}
use Rattle.mail_head.specs.Lines.{is_feed, EndsBare, IsUnended, HasEnd, end_len, end_of, without_end}

-- how a text ends
data View (text : List ℕ) : Type 0 where
  Empty : text ≡ [] → View text
  Last : (front : List ℕ) (octet : ℕ) → text ≡ front ++ octet ∷ [] → View text

view : (text : List ℕ) → View text
view [] = Empty refl
view (octet ∷ rest) = elim (view rest) [
  | Empty none ↦ Last [] octet (ap (λ t. octet ∷ t) none)
  | Last front last is ↦ Last (octet ∷ front) last (ap (λ t. octet ∷ t) is)
]

-- the last octet
last_is : (front : List ℕ) (octet : ℕ) → get_or (front ++ octet ∷ []) (length (front ++ octet ∷ []) - 1) 0 ≡ octet
last_is front octet =
    let size = length-append front (octet ∷ []) in
    let at : length (front ++ octet ∷ []) - 1 ≡ length front + 0 = omega (arith, size) in
    rw at (get_or-append-add front (octet ∷ []) 0 0)

same_last : (front back : List ℕ) (x y : ℕ) → front ++ x ∷ [] ≡ back ++ y ∷ [] → x ≡ y
same_last front back x y same = sym (last_is front x) ∙ (ap (λ t. get_or t (length t - 1) 0) same ∙ last_is back y)

not_empty : (front : List ℕ) (octet : ℕ) → [] ≢ front ++ octet ∷ []
not_empty front octet same = absurd (omega (arith, ap length same, length-append front (octet ∷ [])))

-- the octet before the last
second_is : (front : List ℕ) (x y : ℕ) → get_or ((front ++ x ∷ []) ++ y ∷ []) (length ((front ++ x ∷ []) ++ y ∷ []) - 2) 0 ≡ x
second_is front x y =
    let whole : (front ++ x ∷ []) ++ y ∷ [] ≡ front ++ (x ∷ y ∷ []) = append_assoc front (x ∷ []) (y ∷ []) in
    let size = length-append front (x ∷ y ∷ []) in
    let at : length (front ++ (x ∷ y ∷ [])) - 2 ≡ length front + 0 = omega (arith, size) in
    rw (whole, at) (get_or-append-add front (x ∷ y ∷ []) 0 0)

-- how long a line's end is
len_crlf : (text : List ℕ) → end_len (text ++ (13 ∷ 10 ∷ [])) ≡ 2
len_crlf text =
    let whole : text ++ (13 ∷ 10 ∷ []) ≡ (text ++ 13 ∷ []) ++ 10 ∷ [] = sym (append_assoc text (13 ∷ []) (10 ∷ [])) in
    let last = last_is (text ++ 13 ∷ []) 10 in
    let second = second_is text 13 10 in
    ap end_len whole ∙ (rw (last, second) refl)

len_feed : (text : List ℕ) → EndsBare text → end_len (text ++ 10 ∷ []) ≡ 1
len_feed text bare = elim (view text) [
  | Empty none ↦ ap (λ t. end_len (t ++ 10 ∷ [])) none
  | Last front octet is ↦
      let other = other_octet front octet is in
      let last = last_is (front ++ octet ∷ []) 10 in
      let second = second_is front octet 10 in
      ap (λ t. end_len (t ++ 10 ∷ [])) is ∙ (rw (last, second, other) refl)
] where
  other_octet : (front : List ℕ) (octet : ℕ) → text ≡ front ++ octet ∷ [] → (octet == 13) ≡ false
  other_octet front octet is = no_cr (octet == 13) refl where
    no_cr : (test : Bool) → (octet == 13) ≡ test → test ≡ false
    no_cr true cr = absurd (bare front (is ∙ ap (λ x. front ++ x ∷ []) (eqb-true octet 13 cr)))
    no_cr false cr = refl

len_none : (text : List ℕ) → IsUnended text → end_len text ≡ 0
len_none text unended = elim (view text) [
  | Empty none ↦ ap end_len none
  | Last front octet is ↦
      let last = last_is front octet in
      let other = other_octet front octet is in
      ap end_len is ∙ (rw (last, other) refl)
] where
  other_octet : (front : List ℕ) (octet : ℕ) → text ≡ front ++ octet ∷ [] → is_feed octet ≡ false
  other_octet front octet is = no_lf (octet == 10) refl where
    no_lf : (test : Bool) → (octet == 10) ≡ test → test ≡ false
    no_lf true lf = absurd (unended front (is ∙ ap (λ x. front ++ x ∷ []) (eqb-true octet 10 lf)))
    no_lf false lf = refl

len_is : (line text ending : List ℕ) → HasEnd line text ending → end_len line ≡ length ending
len_is line text ending has = elim has.kind [
  | inl crlf ↦ ap end_len (has.spelled ∙ ap (λ t. text ++ t) crlf) ∙ (len_crlf text ∙ sym (ap length crlf))
  | inr other ↦ elim other [
    | inl feed ↦ ap end_len (has.spelled ∙ ap (λ t. text ++ t) feed.0) ∙ (len_feed text feed.1 ∙ sym (ap length feed.0))
    | inr none ↦ ap end_len (has.spelled ∙ (ap (λ t. text ++ t) none.0 ∙ append-nil text)) ∙ (len_none text none.1 ∙ sym (ap length none.0))
  ]
]

-- a line's text and line end are these alone
pub end_only : (line text ending : List ℕ) → HasEnd line text ending → (text ≡ without_end line) × (ending ≡ end_of line)
end_only line text ending has =
    let size : length line - end_len line ≡ length text = omega (arith, len_is line text ending has, ap length has.spelled, length-append text ending) in (
      sym (ap (λ t. take (length line - end_len line) t) has.spelled ∙ take_at text ending (length line - end_len line) (sym size)),
      sym (ap (λ t. drop (length line - end_len line) t) has.spelled ∙ drop_at text ending (length line - end_len line) (sym size)),
    )

-- some text and line end
record Ended (line : List ℕ) : Type 0 where
  text : List ℕ
  ending : List ℕ
  has : HasEnd line text ending

ended_feed : (line front : List ℕ) → line ≡ front ++ 10 ∷ [] → Ended line
ended_feed line front is = elim (view front) [
  | Empty none ↦ record {
    text = front;
    ending = 10 ∷ [];
    has = record { spelled = is; kind = inr (inl (refl, λ before same. not_empty before 13 (sym none ∙ same))) };
  }
  | Last before octet ends ↦ by_octet before octet ends (octet == 13) refl
] where
  by_octet : (before : List ℕ) (octet : ℕ) → front ≡ before ++ octet ∷ [] → (test : Bool) → (octet == 13) ≡ test → Ended line
  by_octet before octet ends true cr = record {
    text = before;
    ending = 13 ∷ 10 ∷ [];
    has = record {
      spelled = is ∙ (ap (λ t. t ++ 10 ∷ []) (ends ∙ ap (λ x. before ++ x ∷ []) (eqb-true octet 13 cr)) ∙ append_assoc before (13 ∷ []) (10 ∷ []));
      kind = inl refl;
    };
  }
  by_octet before octet ends false other = record {
    text = front;
    ending = 10 ∷ [];
    has = record { spelled = is; kind = inr (inl (refl, λ others same. differs octet other (same_last before others octet 13 (sym ends ∙ same)))) };
  }
    where
      differs : (octet : ℕ) → (octet == 13) ≡ false → octet ≡ 13 → ⊥
      differs octet other same = cc (sym other ∙ ap (λ x. x == 13) same)

ended : (line : List ℕ) → Ended line
ended line = elim (view line) [
  | Empty none ↦ record {
    text = line;
    ending = [];
    has = record { spelled = sym (append-nil line); kind = inr (inr (refl, λ front same. not_empty front 10 (sym none ∙ same))) };
  }
  | Last front octet is ↦ by_octet front octet is (octet == 10) refl
] where
  by_octet : (front : List ℕ) (octet : ℕ) → line ≡ front ++ octet ∷ [] → (test : Bool) → (octet == 10) ≡ test → Ended line
  by_octet front octet is true lf = ended_feed line front (is ∙ ap (λ x. front ++ x ∷ []) (eqb-true octet 10 lf))
  by_octet front octet is false other = record {
    text = line;
    ending = [];
    has = record { spelled = sym (append-nil line); kind = inr (inr (refl, λ others same. differs octet other (same_last front others octet 10 (sym is ∙ same)))) };
  }
    where
      differs : (octet : ℕ) → (octet == 10) ≡ false → octet ≡ 10 → ⊥
      differs octet other same = cc (sym other ∙ ap (λ x. x == 10) same)

-- and a line has them
pub end_found : (line : List ℕ) → HasEnd line (without_end line) (end_of line)
end_found line =
    let some = ended line in
    let same = end_only line some.text some.ending some.has in
    let text = same.0 in
    let ending = same.1 in
    rw (sym text, sym ending) some.has
