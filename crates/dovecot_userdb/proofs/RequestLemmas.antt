-- What a value and a request are, as they are written.
use Rattle.std.proofs.Common.{◌≡◌, ◌≢◌, ◌⊎◌, ℕ, zero, suc, ◌+◌, ◌^◌, ◌<◌, ◌≤◌, ◌==◌, ◌&&◌, not, Bool, true, false, List, [], ◌∷◌, ◌++◌, map, length, codes, decimal, Option, Some, None, inl, inr, refl, sym, ap, ◌∙◌, subst, append-nil, arith, eq-eqb, length-append}
use Rattle.std.proofs.lemmas.List.{append_cancel_right}
use Rattle.std.proofs.lemmas.Fmt.{length-decimal-le, decimal_digit, decimal-digits_of, decimal_is_IsNumeral}
use Rattle.std.specs.Int.Digits.{digits_of}
use Rattle.std.specs.Str.Parse.{digits_value}
use Rattle.dovecot_userdb.specs.Escapes.{escape_mark, with_mark, tab_escaped_octet, tab_escaped, EscapesStand}
use Rattle.dovecot_userdb.specs.Lines.{HasNone, CutsLines}
use Rattle.dovecot_userdb.specs.Requests.{request_back, request_text, userdb_request, IsAskable, RequestsStand}
use Rattle.dovecot_userdb.proofs.EscapeLemmas.{escaped_same, length_escaped}
use Rattle.dovecot_userdb.proofs.LineLemmas.{none_append, same_front}

-- ---- a value

mark_high : (octet mark : ℕ) → escape_mark octet ≡ Some mark → 48 ≤ mark
mark_high octet mark is = grind arith

none_with : (m k : ℕ) → m < 48 → m ≢ 1 → escape_mark m ≡ Some k → (octet : ℕ) (mark : Option ℕ) → escape_mark octet ≡ mark → HasNone m (with_mark octet mark)
none_with m k low other is octet None none = ((λ same. let e : escape_mark octet ≡ escape_mark m = ap escape_mark same in cc), tt)
none_with m k low other is octet (Some mark) marked = ((λ same. other (sym same)), ((λ same. omega (arith, low, same, mark_high octet mark marked)), tt))

none_in : (m k : ℕ) → m < 48 → m ≢ 1 → escape_mark m ≡ Some k → (value : List ℕ) → HasNone m (tab_escaped value)
none_in m k low other is [] = tt
none_in m k low other is (octet ∷ rest) = none_append m (tab_escaped_octet octet) (tab_escaped rest) (none_with m k low other is octet (escape_mark octet) refl) (none_in m k low other is rest)

pub none_tab : (value : List ℕ) → HasNone 9 (tab_escaped value)
none_tab value = none_in 9 116 (omega arith) (λ same. omega (arith, same)) refl value

pub none_lf : (value : List ℕ) → HasNone 10 (tab_escaped value)
none_lf value = none_in 10 110 (omega arith) (λ same. omega (arith, same)) refl value

none_cr : (value : List ℕ) → HasNone 13 (tab_escaped value)
none_cr value = none_in 13 114 (omega arith) (λ same. omega (arith, same)) refl value

none_nul : (value : List ℕ) → HasNone 0 (tab_escaped value)
none_nul value = none_in 0 48 (omega arith) (λ same. omega (arith, same)) refl value

pub escapes_stand : EscapesStand
escapes_stand = record {
  one_to_one = λ a b is. escaped_same a b is;
  no_tab = none_tab;
  no_lf = none_lf;
  no_cr = none_cr;
  no_nul = none_nul;
  short = length_escaped;
}

-- ---- digits

none_digits : (m : ℕ) → m < 48 → (digits : List ℕ) → HasNone m (map (λ d. 48 + d) digits)
none_digits m low [] = tt
none_digits m low (d ∷ digits) = ((λ same. omega (arith, same, low)), none_digits m low digits)

none_decimal_in : (m n : ℕ) → m < 48 → n < 2 ^ 64 → (n ≡ 0) ⊎ (0 < n) → HasNone m (decimal n)
none_decimal_in m n low small (inl is) = subst (λ (l : List ℕ). HasNone m l) (sym (ap decimal is ∙ decimal_digit 0 (omega arith))) ((λ same. omega (arith, same, low)), tt)
none_decimal_in m n low small (inr some) = subst (λ (l : List ℕ). HasNone m l) (sym (decimal-digits_of n some small)) (none_digits m low (digits_of 10 n))

zero_or : (n : ℕ) → (n ≡ 0) ⊎ (0 < n)
zero_or zero = inl refl
zero_or (suc n) = inr (omega arith)

pub none_decimal : (m n : ℕ) → m < 48 → n < 2 ^ 64 → HasNone m (decimal n)
none_decimal m n low small = none_decimal_in m n low small (zero_or n)

pub decimal_same : (n k : ℕ) → n < 2 ^ 64 → k < 2 ^ 64 → decimal n ≡ decimal k → n ≡ k
decimal_same n k a b is = sym (decimal_is_IsNumeral n a).1 ∙ (ap (digits_value 10) is ∙ (decimal_is_IsNumeral k b).1)

-- ---- a request

-- a number isn't in a text that is written out
abbrev pub is_absent : ℕ → List ℕ → Bool
is_absent mark [] = true
is_absent mark (x ∷ rest) = not (x == mark) && is_absent mark rest

pub none_by_test : (mark : ℕ) (text : List ℕ) → is_absent mark text ≡ true → HasNone mark text
none_by_test mark [] test = tt
none_by_test mark (x ∷ rest) test =
    ((λ same. let one : (x == mark) ≡ true = eq-eqb x mark same in absurd (first x mark (is_absent mark rest) one test)), none_by_test mark rest (second (not (x == mark)) (is_absent mark rest) test)) where
      first : (x mark : ℕ) (b : Bool) → (x == mark) ≡ true → (not (x == mark) && b) ≡ true → ⊥
      first x mark b one both = let off : (not true && b) ≡ true = subst (λ (t : Bool). (not t && b) ≡ true) one both in cc

      second : (a b : Bool) → (a && b) ≡ true → b ≡ true
      second true b both = both
      second false b both = absurd (cc both)

text_one_line : (id : ℕ) (name : List ℕ) → id < 2 ^ 32 → HasNone 10 (request_text id name)
text_one_line id name small =
    none_append 10 (codes "USER") (9 ∷ (decimal id ++ 9 ∷ (tab_escaped name ++ request_back))) (none_by_test 10 (codes "USER") refl) (
      (λ same. omega (arith, same)),
      none_append 10 (decimal id) (9 ∷ (tab_escaped name ++ request_back)) (none_decimal 10 id (omega arith) (omega (arith, small)))
          ((λ same. omega (arith, same)), none_append 10 (tab_escaped name) request_back (none_lf name) (none_by_test 10 request_back refl)),
    )

pub request_one_line : (id : ℕ) (name : List ℕ) → id < 2 ^ 32 → CutsLines (userdb_request id name) (request_text id name ∷ []) []
request_one_line id name small = record { each = (text_one_line id name small, tt); part = tt; written = sym (append-nil (userdb_request id name)) }

pub request_short : (id : ℕ) (name : List ℕ) → id < 2 ^ 32 → IsAskable name → length (userdb_request id name) ≤ 1024
request_short id name small askable =
    let digits = length-decimal-le 10 id (omega arith) (omega (arith, small)) (omega (arith, small)) in
    let one = length-append (request_text id name) (10 ∷ []) in
    let two = length-append (codes "USER") (9 ∷ (decimal id ++ 9 ∷ (tab_escaped name ++ request_back))) in
    let three = length-append (decimal id) (9 ∷ (tab_escaped name ++ request_back)) in
    let four = length-append (tab_escaped name) request_back in
    omega (arith, digits, one, two, three, four, askable.short)

tails : (x y : List ℕ) → codes "USER" ++ 9 ∷ x ≡ codes "USER" ++ 9 ∷ y → x ≡ y
tails x y is = cc

request_tells : (id other : ℕ) (name another : List ℕ) → id < 2 ^ 32 → other < 2 ^ 32 → userdb_request id name ≡ userdb_request other another → (id ≡ other) × (name ≡ another)
request_tells id other name another a b is =
    let text = append_cancel_right (request_text id name) (request_text other another) (10 ∷ []) is in
    let behind = tails (decimal id ++ 9 ∷ (tab_escaped name ++ request_back)) (decimal other ++ 9 ∷ (tab_escaped another ++ request_back)) text in
    let parts = same_front 9 (decimal id) (decimal other) (Some (tab_escaped name ++ request_back)) (Some (tab_escaped another ++ request_back)) (none_decimal 9 id (omega arith) (omega (arith, a))) (none_decimal 9 other (omega arith) (omega (arith, b))) behind in
    let names : tab_escaped name ++ request_back ≡ tab_escaped another ++ request_back = cc (parts.1) in
    (decimal_same id other (omega (arith, a)) (omega (arith, b)) parts.0, escaped_same name another (append_cancel_right (tab_escaped name) (tab_escaped another) request_back names))

pub requests_stand : RequestsStand
requests_stand = record {
  one_line = request_one_line;
  short = request_short;
  tells = request_tells;
}
