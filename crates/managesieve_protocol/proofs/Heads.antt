-- A literal's head, read by the machine and in the words of spellings.
use Rattle.std.proofs.Common.{◌≡◌, ℕ, ◌-◌, ◌<◌, ◌^◌, Bool, true, false, ◌||◌, ◌&&◌, ◌==◌, cond, List, [], ◌∷◌, ◌++◌, Option, Some, None, refl, sym, ap, ◌∙◌, subst, arith, lit<, append_assoc}
use Rattle.std.specs.Prelude.{nat_lt, fold}
use Rattle.std.specs.Char.{to_ascii_uppercase, is_ascii_digit}
use Rattle.std.proofs.lemmas.Bool.{eqb-true, eqb-false, ltb-true, lt-ltb, ne_eqb, false≢true, false_from_ne_true}
use Rattle.std.proofs.lemmas.Grind.{fold-append}
use Rattle.std.proofs.lemmas.List.{append-nil, same_from_push}
use Rattle.octets.specs.Decimal.{with_digit}
use Rattle.managesieve_protocol.specs.Arguments.{is_quotable_octet, AreDigits, IsDecimalNumber}
use Rattle.managesieve_protocol.specs.Machine.{Params, LineEnd, MaybeText, ThenText, ThenNumber, rows, begins_row, params_in, LineState, Word, Between, Opening, Quoted, Escaped, Brace, Count, Plus, Closed, Return, Body, Number, Digits, LineFeed, Whole, Dead, after_space, after_return, leave, leave_named, longer, literal_left, step, run, start_state, in_literal, is_large}
use Rattle.managesieve_protocol.specs.Items.{EndsInLargeHead}
use Rattle.managesieve_protocol.proofs.Left.{IsProper}
use Rattle.managesieve_protocol.proofs.Into.{proper_run, proper_start}
use Rattle.managesieve_protocol.proofs.Runs.{run-append, run_dead, digit_range, count_digits}
use Rattle.managesieve_protocol.proofs.Names.{no_brace}
use Rattle.managesieve_protocol.proofs.Outside.{literal_free, not_free, free_literal, after-push}

-- ---- what stands before a state

-- a brace outside literals
pub record AfterBrace (pending : Bool) (text : List ℕ) : Type 0 where
  pub front : List ℕ
  pub outside : in_literal (run (start_state pending) front) ≡ false
  pub written : text ≡ front ++ 123 ∷ []

-- such a brace, a number, and this
pub record AfterNumber (pending : Bool) (number : ℕ) (tail text : List ℕ) : Type 0 where
  pub front : List ℕ
  pub digits : List ℕ
  pub outside : in_literal (run (start_state pending) front) ≡ false
  pub numeral : IsDecimalNumber number digits
  pub written : text ≡ front ++ 123 ∷ (digits ++ tail)

abbrev pub LeadsTo : Bool → List ℕ → LineState → Type 0
LeadsTo pending text (Word letters) = Unit {0}
LeadsTo pending text (Between params) = Unit {0}
LeadsTo pending text (Opening params) = Unit {0}
LeadsTo pending text (Quoted left params) = Unit {0}
LeadsTo pending text (Escaped left params) = Unit {0}
LeadsTo pending text (Brace params) = AfterBrace pending text
LeadsTo pending text (Count number params) = AfterNumber pending number [] text
LeadsTo pending text (Plus number params) = AfterNumber pending number (43 ∷ []) text
LeadsTo pending text (Closed number params) = AfterNumber pending number (43 ∷ 125 ∷ []) text
LeadsTo pending text (Return number params) = AfterNumber pending number (43 ∷ 125 ∷ 13 ∷ []) text
LeadsTo pending text (Body left params) = Unit {0}
LeadsTo pending text Number = Unit {0}
LeadsTo pending text (Digits number) = Unit {0}
LeadsTo pending text LineFeed = Unit {0}
LeadsTo pending text Whole = Unit {0}
LeadsTo pending text Dead = Unit {0}

either : (pending : Bool) (t : List ℕ) (b : Bool) (s u : LineState) → (b ≡ true → LeadsTo pending t s) → (b ≡ false → LeadsTo pending t u) → LeadsTo pending t (cond b s u)
either pending t true s u f g = f refl
either pending t false s u f g = g refl

-- ---- digits at the end of a number

AreDigits-push : (ds : List ℕ) (x : ℕ) → AreDigits ds → is_ascii_digit x ≡ true → AreDigits (ds ++ x ∷ [])
AreDigits-push [] x h e = (e, tt)
AreDigits-push (d ∷ ds) x h e = (h.0, AreDigits-push ds x h.1 e)

numeral_more : (n : ℕ) (ds : List ℕ) (x : ℕ) → IsDecimalNumber n ds → (n == 0) ≡ false → is_ascii_digit x ≡ true → IsDecimalNumber (with_digit n x) (ds ++ x ∷ [])
numeral_more n [] x h some e = absurd h
numeral_more n (d ∷ ds) x h some e =
    let whole : fold with_digit 0 ((d ∷ ds) ++ x ∷ []) ≡ with_digit n x = fold-append with_digit 0 (d ∷ ds) (x ∷ []) ∙ ap (λ (m : ℕ). with_digit m x) h.2 in
    (AreDigits-push (d ∷ ds) x h.0 e, (λ zero_is. absurd (eqb-false n 0 some (nothing zero_is (h.1 zero_is)))), whole)
  where
    nothing : d ≡ 48 → ds ≡ [] → n ≡ 0
    nothing a b = sym h.2 ∙ ap (λ (l : List ℕ). fold with_digit 0 (d ∷ l)) b ∙ omega (arith, a)

-- ---- the brace

brace_stays : (pending : Bool) (b : List ℕ) (x : ℕ) → in_literal (run (start_state pending) b) ≡ false → (x == 123) ≡ true → AfterBrace pending (b ++ x ∷ [])
brace_stays pending b x out e = record { front = b; outside = out; written = ap (λ (z : ℕ). b ++ z ∷ []) (eqb-true x 123 e) }

first_stays : (pending : Bool) (b : List ℕ) (x : ℕ) → AfterBrace pending b → is_ascii_digit x ≡ true → AfterNumber pending (with_digit 0 x) [] (b ++ x ∷ [])
first_stays pending b x h e = record {
  front = h.front;
  digits = x ∷ [];
  outside = h.outside;
  numeral = ((e, tt), (λ zero_is. refl), refl);
  written = ap (λ (u : List ℕ). u ++ x ∷ []) h.written ∙ append_assoc h.front (123 ∷ []) (x ∷ []);
}

digit_stays : (pending : Bool) (n : ℕ) (b : List ℕ) (x : ℕ) → AfterNumber pending n [] b → (n == 0) ≡ false → is_ascii_digit x ≡ true → AfterNumber pending (with_digit n x) [] (b ++ x ∷ [])
digit_stays pending n b x h some e = record {
  front = h.front;
  digits = h.digits ++ x ∷ [];
  outside = h.outside;
  numeral = numeral_more n h.digits x h.numeral some e;
  written = ap (λ (u : List ℕ). u ++ x ∷ []) (h.written ∙ ap (λ (u : List ℕ). h.front ++ 123 ∷ u) (append-nil h.digits)) ∙ append_assoc h.front (123 ∷ h.digits) (x ∷ []) ∙ ap (λ (u : List ℕ). h.front ++ 123 ∷ u) (sym (append-nil (h.digits ++ x ∷ [])));
}

mark_stays : (pending : Bool) (n : ℕ) (tail b : List ℕ) (x y : ℕ) → AfterNumber pending n tail b → (x == y) ≡ true → AfterNumber pending n (tail ++ y ∷ []) (b ++ x ∷ [])
mark_stays pending n tail b x y h e = record {
  front = h.front;
  digits = h.digits;
  outside = h.outside;
  numeral = h.numeral;
  written = ap (λ (u : List ℕ). u ++ x ∷ []) h.written ∙ append_assoc h.front (123 ∷ (h.digits ++ tail)) (x ∷ []) ∙ ap (λ (u : List ℕ). h.front ++ 123 ∷ u) (append_assoc h.digits tail (x ∷ [])) ∙ ap (λ (z : ℕ). h.front ++ 123 ∷ (h.digits ++ (tail ++ z ∷ []))) (eqb-true x y e);
}

-- ---- each step

after_leave : (pending : Bool) (t : List ℕ) (params : Params) (x : ℕ) → LeadsTo pending t (leave params x)
after_leave pending t params x = either pending t (x == 32) (after_space params) _ (λ e. space params) (λ e. either pending t (x == 13) (after_return params) Dead (λ d. return params) (λ d. tt))
  where
    space : (params : Params) → LeadsTo pending t (after_space params)
    space LineEnd = tt
    space MaybeText = tt
    space (ThenText more) = tt
    space ThenNumber = tt

    return : (params : Params) → LeadsTo pending t (after_return params)
    return LineEnd = tt
    return MaybeText = tt
    return (ThenText more) = tt
    return ThenNumber = tt

after_named : (pending : Bool) (t : List ℕ) (o : Option Params) (x : ℕ) → LeadsTo pending t (leave_named o x)
after_named pending t None x = tt
after_named pending t (Some params) x = after_leave pending t params x

after_left : (pending : Bool) (t : List ℕ) (number : ℕ) (params : Params) → LeadsTo pending t (literal_left number params)
after_left pending t number params = either pending t (number == 0) (Between params) (Body (number - 1) params) (λ e. tt) (λ e. tt)

after_longer : (pending : Bool) (t : List ℕ) (to : ℕ → LineState) (number x : ℕ) → ((number == 0) ≡ false → LeadsTo pending t (to (with_digit number x))) → LeadsTo pending t (longer to number x)
after_longer pending t to number x f =
    either pending t (number == 0) Dead _ (λ e. tt)
    (λ e. either pending t (nat_lt (with_digit number x) (2 ^ 32)) (to (with_digit number x)) Dead (λ lt. f e) (λ lt. tt))

after_step : (pending : Bool) (b : List ℕ) (s : LineState) (x : ℕ) → run (start_state pending) b ≡ s → LeadsTo pending b s → LeadsTo pending (b ++ x ∷ []) (step s x)
after_step pending b (Word p) x at h = either pending _ (begins_row rows (p ++ to_ascii_uppercase x ∷ [])) (Word (p ++ to_ascii_uppercase x ∷ [])) _ (λ e. tt) (λ e. after_named pending _ (params_in rows p) x)
after_step pending b (Between params) x at h = after_leave pending _ params x
after_step pending b (Opening params) x at h =
    either pending _ (x == 34) (Quoted 1024 params) _ (λ e. tt)
    (λ e. either pending _ (x == 123) (Brace params) Dead (λ d. brace_stays pending b x (ap in_literal at) d) (λ d. tt))
after_step pending b (Quoted left params) x at h =
    either pending _ (x == 34) (Between params) _ (λ e. tt)
    (λ e. either pending _ (x == 92) (cond (nat_lt 1 left) (Escaped (left - 2) params) Dead) _
    (λ d. either pending _ (nat_lt 1 left) (Escaped (left - 2) params) Dead (λ c. tt) (λ c. tt))
    (λ d. either pending _ (is_quotable_octet x && nat_lt 0 left) (Quoted (left - 1) params) Dead (λ c. tt) (λ c. tt)))
after_step pending b (Escaped left params) x at h = either pending _ (x == 34 || x == 92) (Quoted left params) Dead (λ e. tt) (λ e. tt)
after_step pending b (Brace params) x at h = either pending _ (is_ascii_digit x) (Count (with_digit 0 x) params) Dead (λ e. first_stays pending b x h e) (λ e. tt)
after_step pending b (Count number params) x at h =
    either pending _ (x == 43) (Plus number params) _ (λ e. mark_stays pending number [] b x 43 h e)
    (λ e. either pending _ (is_ascii_digit x) (longer (λ n. Count n params) number x) Dead
    (λ d. after_longer pending _ (λ n. Count n params) number x (λ some. digit_stays pending number b x h some d)) (λ d. tt))
after_step pending b (Plus number params) x at h = either pending _ (x == 125) (Closed number params) Dead (λ e. mark_stays pending number (43 ∷ []) b x 125 h e) (λ e. tt)
after_step pending b (Closed number params) x at h = either pending _ (x == 13) (Return number params) Dead (λ e. mark_stays pending number (43 ∷ 125 ∷ []) b x 13 h e) (λ e. tt)
after_step pending b (Return number params) x at h = either pending _ (x == 10) (literal_left number params) Dead (λ e. after_left pending _ number params) (λ e. tt)
after_step pending b (Body left params) x at h = after_left pending _ left params
after_step pending b Number x at h = either pending _ (is_ascii_digit x) (Digits (with_digit 0 x)) Dead (λ e. tt) (λ e. tt)
after_step pending b (Digits number) x at h =
    either pending _ (x == 13) LineFeed _ (λ e. tt)
    (λ e. either pending _ (is_ascii_digit x) (longer (λ n. Digits n) number x) Dead (λ d. after_longer pending _ (λ n. Digits n) number x (λ some. tt)) (λ d. tt))
after_step pending b LineFeed x at h = either pending _ (x == 10) Whole Dead (λ e. tt) (λ e. tt)
after_step pending b Whole x at h = tt
after_step pending b Dead x at h = tt

after_from : (pending : Bool) (b t : List ℕ) → LeadsTo pending b (run (start_state pending) b) → LeadsTo pending (b ++ t) (run (start_state pending) (b ++ t))
after_from pending b [] h = subst (λ (u : List ℕ). LeadsTo pending u (run (start_state pending) u)) (sym (append-nil b)) h
after_from pending b (x ∷ t) h =
    let once : LeadsTo pending (b ++ x ∷ []) (run (start_state pending) (b ++ x ∷ [])) =
    subst (λ (s : LineState). LeadsTo pending (b ++ x ∷ []) s) (sym (after-push pending b x)) (after_step pending b (run (start_state pending) b) x refl h) in
    subst (λ (u : List ℕ). LeadsTo pending u (run (start_state pending) u)) (append_assoc b (x ∷ []) t) (after_from pending (b ++ x ∷ []) t once)

after_start : (pending : Bool) → LeadsTo pending [] (start_state pending)
after_start false = tt
after_start true = tt

pub leads_to : (pending : Bool) (b : List ℕ) → LeadsTo pending b (run (start_state pending) b)
leads_to pending b = after_from pending [] b (after_start pending)

-- ---- a large head

large_is : (s : LineState) → is_large s ≡ true → (n : ℕ) × (params : Params) × (s ≡ Return n params) × (1048576 < n)
large_is (Return n params) e = (n, params, refl, ltb-true 1048576 n e)
large_is _ e = absurd (false≢true e)

left_body : (n : ℕ) (params : Params) → 0 < n → in_literal (literal_left n params) ≡ true
left_body n params lt =
    let some : (n == 0) ≡ false = ne_eqb n 0 (λ e. absurd (omega (arith, e))) in
    rw some refl

large_body : (n : ℕ) (params : Params) (x : ℕ) → x ≡ 10 → 0 < n → in_literal (step (Return n params) x) ≡ true
large_body n params x e lt = rw e (left_body n params lt)

return_fits : (pending : Bool) (b : List ℕ) (n : ℕ) (params : Params) → run (start_state pending) b ≡ Return n params → n < 2 ^ 32
return_fits pending b n params at = subst IsProper at (proper_run (start_state pending) b (proper_start pending))

-- where the machine stands after a large head, the text ends in one
pub large_head : (pending : Bool) (b : List ℕ) (x : ℕ) → is_large (run (start_state pending) b) ≡ true → x ≡ 10 → EndsInLargeHead pending (b ++ x ∷ [])
large_head pending b x large feed =
    let found = large_is (run (start_state pending) b) large in
    let h : AfterNumber pending found.0 (43 ∷ 125 ∷ 13 ∷ []) b = subst (λ (s : LineState). LeadsTo pending b s) found.2 (leads_to pending b) in
    let inside : in_literal (run (start_state pending) (b ++ x ∷ [])) ≡ true =
    ap in_literal (after-push pending b x ∙ ap (λ (s : LineState). step s x) found.2) ∙ large_body found.0 found.1 x feed (omega (arith, found.3)) in
    record {
      front = h.front;
      digits = h.digits;
      size = found.0;
      numeral = h.numeral;
      large = found.3;
      fits = return_fits pending b found.0 found.1 found.2;
      outside = not_free pending h.front h.outside;
      opens = literal_free pending (b ++ x ∷ []) inside;
      written = ap (λ (u : List ℕ). u ++ x ∷ []) h.written ∙ append_assoc h.front (123 ∷ (h.digits ++ 43 ∷ 125 ∷ 13 ∷ [])) (x ∷ []) ∙ ap (λ (u : List ℕ). h.front ++ 123 ∷ u) (append_assoc h.digits (43 ∷ 125 ∷ 13 ∷ []) (x ∷ [])) ∙ ap (λ (z : ℕ). h.front ++ 123 ∷ (h.digits ++ 43 ∷ 125 ∷ 13 ∷ z ∷ [])) feed;
    }

-- ---- a brace between quotation marks begins no literal

abbrev is_stuck : LineState → Bool
is_stuck (Quoted left params) = true
is_stuck Dead = true
is_stuck _ = false

stuck_step : (s : LineState) (x : ℕ) → is_stuck s ≡ true → (x == 34) ≡ false → (x == 92) ≡ false → is_stuck (step s x) ≡ true
stuck_step (Quoted left params) x e a b = rw (a, b) (go (is_quotable_octet x && nat_lt 0 left))
  where
    go : (c : Bool) → is_stuck (cond c (Quoted (left - 1) params) Dead) ≡ true
    go true = refl
    go false = refl
stuck_step Dead x e a b = refl
stuck_step _ x e a b = absurd (false≢true e)

stuck_ends : (s : LineState) → is_stuck s ≡ true → step s 13 ≡ Dead
stuck_ends (Quoted left params) e = refl
stuck_ends Dead e = refl
stuck_ends _ e = absurd (false≢true e)

stuck_digit : (x y : ℕ) → is_ascii_digit x ≡ true → 57 < y → (x == y) ≡ false
stuck_digit x y e lt = ne_eqb x y (λ i. absurd (omega (arith, i, digit_range x e)))

low_digit : (x y : ℕ) → is_ascii_digit x ≡ true → y < 48 → (x == y) ≡ false
low_digit x y e lt = ne_eqb x y (λ i. absurd (omega (arith, i, digit_range x e)))

stuck_dies : (ds : List ℕ) (s : LineState) → is_stuck s ≡ true → AreDigits ds → run s (ds ++ 43 ∷ 125 ∷ 13 ∷ 10 ∷ []) ≡ Dead
stuck_dies [] s e are =
    let second = stuck_step s 43 e refl refl in
    let third = stuck_step (step s 43) 125 second refl refl in
    ap (λ (u : LineState). run u (10 ∷ [])) (stuck_ends (step (step s 43) 125) third)
stuck_dies (d ∷ ds) s e are =
    stuck_dies ds (step s d) (stuck_step s d e (low_digit d 34 are.0 (lit< tt)) (stuck_digit d 92 are.0 (lit< tt))) are.1

numeral_digits : (n : ℕ) (ds : List ℕ) → IsDecimalNumber n ds → AreDigits ds
numeral_digits n [] h = absurd h
numeral_digits n (d ∷ ds) h = h.0

brace_named : (o : Option Params) → leave_named o 123 ≡ Dead
brace_named None = refl
brace_named (Some params) = refl

-- what a brace does outside literals: it opens one, or nothing that could become one
brace_opens : (s : LineState) (ds : List ℕ) (n : ℕ) → in_literal s ≡ false → IsDecimalNumber n ds → n < 2 ^ 32 → in_literal (run s (123 ∷ (ds ++ 43 ∷ 125 ∷ 13 ∷ 10 ∷ []))) ≡ true → (params : Params) × (run s (123 ∷ (ds ++ 43 ∷ 125 ∷ 13 ∷ [])) ≡ Return n params)
brace_opens (Opening params) ds n out numeral lt inside = (params, count_digits ds n params (43 ∷ 125 ∷ 13 ∷ []) numeral lt)
brace_opens (Body left params) ds n out numeral lt inside = absurd (false≢true (sym out))
brace_opens (Quoted left params) ds n out numeral lt inside =
    let stuck = stuck_step (Quoted left params) 123 refl refl refl in
    absurd (false≢true (sym (ap in_literal (stuck_dies ds (step (Quoted left params) 123) stuck (numeral_digits n ds numeral))) ∙ inside))
brace_opens (Word p) ds n out numeral lt inside =
    let none = no_brace p in
    let dead : step (Word p) 123 ≡ Dead = rw none (brace_named (params_in rows p)) in
    absurd (false≢true (sym (ap in_literal (ap (λ (u : LineState). run u (ds ++ 43 ∷ 125 ∷ 13 ∷ 10 ∷ [])) dead ∙ run_dead (ds ++ 43 ∷ 125 ∷ 13 ∷ 10 ∷ []))) ∙ inside))
brace_opens _ ds n out numeral lt inside = absurd (false≢true (sym (ap in_literal (run_dead (ds ++ 43 ∷ 125 ∷ 13 ∷ 10 ∷ []))) ∙ inside))

-- where a text ends in a large head, the machine stands after one
pub head_large : (pending : Bool) (b : List ℕ) (x : ℕ) → EndsInLargeHead pending (b ++ x ∷ []) → (is_large (run (start_state pending) b) ≡ true) × (x ≡ 10)
head_large pending b x h =
    let all : b ++ x ∷ [] ≡ (h.front ++ 123 ∷ (h.digits ++ 43 ∷ 125 ∷ 13 ∷ [])) ++ 10 ∷ [] =
    h.written ∙ ap (λ (u : List ℕ). h.front ++ 123 ∷ u) (sym (append_assoc h.digits (43 ∷ 125 ∷ 13 ∷ []) (10 ∷ []))) ∙ sym (append_assoc h.front (123 ∷ (h.digits ++ 43 ∷ 125 ∷ 13 ∷ [])) (10 ∷ [])) in
    let parts = same_from_push b (h.front ++ 123 ∷ (h.digits ++ 43 ∷ 125 ∷ 13 ∷ [])) x 10 all in
    let s0 = run (start_state pending) h.front in
    let out : in_literal s0 ≡ false = false_from_ne_true (in_literal s0) (λ e. h.outside (literal_free pending h.front e)) in
    let whole : run (start_state pending) (b ++ x ∷ []) ≡ run s0 (123 ∷ (h.digits ++ 43 ∷ 125 ∷ 13 ∷ 10 ∷ [])) =
    ap (run (start_state pending)) h.written ∙ run-append (start_state pending) h.front (123 ∷ (h.digits ++ 43 ∷ 125 ∷ 13 ∷ 10 ∷ [])) in
    let found = brace_opens s0 h.digits h.size out h.numeral h.fits (sym (ap in_literal whole) ∙ free_literal pending (b ++ x ∷ []) h.opens) in
    let at : run (start_state pending) b ≡ Return h.size found.0 =
    ap (run (start_state pending)) parts.0 ∙ run-append (start_state pending) h.front (123 ∷ (h.digits ++ 43 ∷ 125 ∷ 13 ∷ [])) ∙ found.1 in
    let big : nat_lt 1048576 h.size ≡ true = lt-ltb 1048576 h.size h.large in
    (ap is_large at ∙ big, parts.1)
