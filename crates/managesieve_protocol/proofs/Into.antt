-- What follows a state after an octet follows the state before it, after that octet.
use Rattle.std.proofs.Common.{◌≡◌, ℕ, suc, ◌-◌, ◌<◌, ◌^◌, inl, inr, Bool, true, false, ◌||◌, ◌&&◌, ◌==◌, cond, leb, List, [], ◌∷◌, ◌++◌, Option, Some, None, refl, sym, ap, ◌∙◌, arith, append_assoc}
use Rattle.std.specs.Prelude.{map, fold, nat_lt}
use Rattle.std.specs.Char.{to_ascii_uppercase, is_ascii_digit}
use Rattle.std.proofs.lemmas.Bool.{eqb-true, eqb-false, ltb-true, leb-true, or_cases, or_from, and_parts}
use Rattle.std.proofs.lemmas.List.{append-nil}
use Rattle.octets.specs.Decimal.{with_digit}
use Rattle.managesieve_protocol.specs.Arguments.{inside, is_quotable_octet}
use Rattle.managesieve_protocol.specs.Machine.{Params, LineEnd, MaybeText, ThenText, ThenNumber, rows, begins_row, params_in, LineState, Word, Between, Opening, Quoted, Escaped, Brace, Count, Plus, Closed, Return, Body, Number, Digits, LineFeed, Whole, Dead, after_space, after_return, leave, leave_named, longer, literal_left, step, run, start_state}
use Rattle.managesieve_protocol.proofs.Left.{IsAfter, InName, AtString, InQuotes, InEscape, AtCount, InCount, InLiteral, AtNumber, InNumber, IsLeft, IsProper}

-- which way a test went
fork : {R : Type 0} (b : Bool) (s u : LineState) (t : List ℕ) → IsLeft (cond b s u) t → (b ≡ true → IsLeft s t → R) → (b ≡ false → IsLeft u t → R) → R
fork true s u t h f g = f refl h
fork false s u t h f g = g refl h

-- ---- names

pub into_space : (params : Params) (t : List ℕ) → IsLeft (after_space params) t → IsAfter params (32 ∷ t)
into_space LineEnd t h = absurd h
into_space MaybeText t h = inr (h.value, h.first, h.rest, h.string, h.after, ap (λ (u : List ℕ). 32 ∷ u) h.written)
into_space (ThenText more) t h = (h.value, h.first, h.rest, h.string, h.after, ap (λ (u : List ℕ). 32 ∷ u) h.written)
into_space ThenNumber t h = (h.number, h.first, h.numeral, h.short, ap (λ (u : List ℕ). 32 ∷ u) h.written)

pub into_return : (params : Params) (t : List ℕ) → IsLeft (after_return params) t → IsAfter params (13 ∷ t)
into_return LineEnd t h = ap (λ (u : List ℕ). 13 ∷ u) h
into_return MaybeText t h = inl (ap (λ (u : List ℕ). 13 ∷ u) h)
into_return (ThenText more) t h = absurd h
into_return ThenNumber t h = absurd h

pub into_leave : (params : Params) (x : ℕ) (t : List ℕ) → IsLeft (leave params x) t → IsAfter params (x ∷ t)
into_leave params x t h =
    fork (x == 32) (after_space params) (cond (x == 13) (after_return params) Dead) t h
    (λ e l. rw (eqb-true x 32 e) (into_space params t l))
    (λ e l. fork (x == 13) (after_return params) Dead t l
    (λ d r. rw (eqb-true x 13 d) (into_return params t r))
    (λ d r. absurd r))

into_more : (p : List ℕ) (x : ℕ) (t : List ℕ) → InName (p ++ to_ascii_uppercase x ∷ []) t → InName p (x ∷ t)
into_more p x t h = record {
  name = x ∷ h.name;
  rest = h.rest;
  params = h.params;
  named = ap (params_in rows) (sym (append_assoc p (to_ascii_uppercase x ∷ []) (map to_ascii_uppercase h.name))) ∙ h.named;
  after = h.after;
  written = ap (λ (u : List ℕ). x ∷ u) h.written;
}

into_named : (p : List ℕ) (x : ℕ) (t : List ℕ) (o : Option Params) → params_in rows p ≡ o → IsLeft (leave_named o x) t → InName p (x ∷ t)
into_named p x t None e h = absurd h
into_named p x t (Some params) e h = record {
  name = [];
  rest = x ∷ t;
  params = params;
  named = ap (params_in rows) (append-nil p) ∙ e;
  after = into_leave params x t h;
  written = refl;
}

into_word : (p : List ℕ) (x : ℕ) (t : List ℕ) → IsLeft (step (Word p) x) t → InName p (x ∷ t)
into_word p x t h =
    fork (begins_row rows (p ++ to_ascii_uppercase x ∷ [])) (Word (p ++ to_ascii_uppercase x ∷ [])) (leave_named (params_in rows p) x) t h
    (λ e l. into_more p x t l)
    (λ e l. into_named p x t (params_in rows p) refl l)

-- ---- quoted strings

into_quote : (params : Params) (x : ℕ) (t : List ℕ) → x ≡ 34 → InQuotes 1024 params t → AtString params (x ∷ t)
into_quote params x t e h = record {
  value = h.value;
  first = 34 ∷ (inside h.value ++ 34 ∷ []);
  rest = h.rest;
  string = inl (record { written = refl; allowed = h.allowed; short = h.short });
  after = h.after;
  written = rw (e, h.written, append_assoc) refl;
}

into_end : (left : ℕ) (params : Params) (x : ℕ) (t : List ℕ) → x ≡ 34 → IsAfter params t → InQuotes left params (x ∷ t)
into_end left params x t e h = record { value = []; rest = t; allowed = tt; short = omega arith; after = h; written = rw e refl }

quotable_special : (x : ℕ) → (x == 34 || x == 92) ≡ true → is_quotable_octet x ≡ true
quotable_special x e =
    elim (or_cases (x == 34) (x == 92) e) [ inl a ↦ rw (eqb-true x 34 a) refl | inr b ↦ rw (eqb-true x 92 b) refl ]

into_backslash : (left : ℕ) (params : Params) (x : ℕ) (t : List ℕ) → x ≡ 92 → 1 < left → InEscape (left - 2) params t → InQuotes left params (x ∷ t)
into_backslash left params x t e lt h = record {
  value = h.octet ∷ h.within.value;
  rest = h.within.rest;
  allowed = (quotable_special h.octet h.special, h.within.allowed);
  short = rw h.special (omega (arith, h.within.short));
  after = h.within.after;
  written = rw (h.special, e, h.written, h.within.written) refl;
}

into_plain : (left : ℕ) (params : Params) (x : ℕ) (t : List ℕ) → (x == 34) ≡ false → (x == 92) ≡ false → is_quotable_octet x ≡ true → 0 < left → InQuotes (left - 1) params t → InQuotes left params (x ∷ t)
into_plain left params x t a b q lt h =
    let plain : (x == 34 || x == 92) ≡ false = or_from (x == 34) (x == 92) a b in record {
      value = x ∷ h.value;
      rest = h.rest;
      allowed = (q, h.allowed);
      short = rw plain (omega (arith, h.short));
      after = h.after;
      written = rw (plain, h.written) refl;
    }

into_quoted : (left : ℕ) (params : Params) (x : ℕ) (t : List ℕ) → IsLeft (step (Quoted left params) x) t → InQuotes left params (x ∷ t)
into_quoted left params x t h =
    fork (x == 34) (Between params) _ t h
    (λ e l. into_end left params x t (eqb-true x 34 e) l)
    (λ a l. fork (x == 92) (cond (nat_lt 1 left) (Escaped (left - 2) params) Dead) _ t l
    (λ e m. fork (nat_lt 1 left) (Escaped (left - 2) params) Dead t m
    (λ lt r. into_backslash left params x t (eqb-true x 92 e) (ltb-true 1 left lt) r)
    (λ lt r. absurd r))
    (λ b m. fork (is_quotable_octet x && nat_lt 0 left) (Quoted (left - 1) params) Dead t m
    (λ q r. into_plain left params x t a b (and_parts (is_quotable_octet x) (nat_lt 0 left) q).0 (ltb-true 0 left (and_parts (is_quotable_octet x) (nat_lt 0 left) q).1) r)
    (λ q r. absurd r)))

into_escaped : (left : ℕ) (params : Params) (x : ℕ) (t : List ℕ) → IsLeft (step (Escaped left params) x) t → InEscape left params (x ∷ t)
into_escaped left params x t h =
    fork (x == 34 || x == 92) (Quoted left params) Dead t h
    (λ e l. record { octet = x; rest = t; special = e; within = l; written = refl })
    (λ e l. absurd l)

-- ---- literals

into_brace : (params : Params) (x : ℕ) (t : List ℕ) → x ≡ 123 → AtCount params t → AtString params (x ∷ t)
into_brace params x t e h = record {
  value = h.value;
  first = 123 ∷ (h.digits ++ 43 ∷ 125 ∷ 13 ∷ 10 ∷ h.value);
  rest = h.rest;
  string = inr (record { digits = h.digits; numeral = h.numeral; written = refl; short = h.short });
  after = h.after;
  written = rw (e, h.written, append_assoc) refl;
}

into_opening : (params : Params) (x : ℕ) (t : List ℕ) → IsLeft (step (Opening params) x) t → AtString params (x ∷ t)
into_opening params x t h =
    fork (x == 34) (Quoted 1024 params) _ t h
    (λ e l. into_quote params x t (eqb-true x 34 e) l)
    (λ e l. fork (x == 123) (Brace params) Dead t l
    (λ d r. into_brace params x t (eqb-true x 123 d) r)
    (λ d r. absurd r))

into_first_digit : (params : Params) (x : ℕ) (t : List ℕ) → is_ascii_digit x ≡ true → InCount (with_digit 0 x) params t → AtCount params (x ∷ t)
into_first_digit params x t e h = record {
  digits = x ∷ h.digits;
  value = h.value;
  rest = h.rest;
  numeral = ((e, h.are_digits), (λ zero_is. h.extra (omega (arith, zero_is))), h.counted);
  short = h.short;
  after = h.after;
  written = ap (λ (u : List ℕ). x ∷ u) h.written;
}

into_digit : (number : ℕ) (params : Params) (x : ℕ) (t : List ℕ) → is_ascii_digit x ≡ true → (number == 0) ≡ false → InCount (with_digit number x) params t → InCount number params (x ∷ t)
into_digit number params x t e some h = record {
  digits = x ∷ h.digits;
  value = h.value;
  rest = h.rest;
  are_digits = (e, h.are_digits);
  extra = λ none. absurd (eqb-false number 0 some none);
  counted = h.counted;
  short = h.short;
  after = h.after;
  written = ap (λ (u : List ℕ). x ∷ u) h.written;
}

into_plus : (number : ℕ) (params : Params) (x : ℕ) (t : List ℕ) → number < 2 ^ 32 → x ≡ 43 → InLiteral (125 ∷ 13 ∷ 10 ∷ []) number params t → InCount number params (x ∷ t)
into_plus number params x t lt e h = record {
  digits = [];
  value = h.value;
  rest = h.rest;
  are_digits = tt;
  extra = λ none. refl;
  counted = sym h.long;
  short = omega (arith, h.long);
  after = h.after;
  written = rw (e, h.written) refl;
}

-- a digit more
longer_fork : {R : Type 0} (to : ℕ → LineState) (number x : ℕ) (t : List ℕ) → IsLeft (longer to number x) t → ((number == 0) ≡ false → with_digit number x < 2 ^ 32 → IsLeft (to (with_digit number x)) t → R) → R
longer_fork to number x t h f =
    fork (number == 0) Dead (cond (nat_lt (with_digit number x) (2 ^ 32)) (to (with_digit number x)) Dead) t h
    (λ e l. absurd l)
    (λ e l. fork (nat_lt (with_digit number x) (2 ^ 32)) (to (with_digit number x)) Dead t l
    (λ lt r. f e (ltb-true (with_digit number x) (2 ^ 32) lt) r)
    (λ lt r. absurd r))

into_count : (number : ℕ) (params : Params) (x : ℕ) (t : List ℕ) → number < 2 ^ 32 → IsLeft (step (Count number params) x) t → InCount number params (x ∷ t)
into_count number params x t lt h =
    fork (x == 43) (Plus number params) _ t h
    (λ e l. into_plus number params x t lt (eqb-true x 43 e) l)
    (λ a l. fork (is_ascii_digit x) (longer (λ n. Count n params) number x) Dead t l
    (λ e m. longer_fork (λ n. Count n params) number x t m (λ some lt r. into_digit number params x t e some r))
    (λ e m. absurd m))

into_fixed : (front : List ℕ) (y number : ℕ) (params : Params) (x : ℕ) (t : List ℕ) → x ≡ y → InLiteral front number params t → InLiteral (y ∷ front) number params (x ∷ t)
into_fixed front y number params x t e h = record { value = h.value; rest = h.rest; long = h.long; after = h.after; written = rw (e, h.written) refl }

into_left : (number : ℕ) (params : Params) (t : List ℕ) → IsLeft (literal_left number params) t → InLiteral [] number params t
into_left number params t h =
    fork (number == 0) (Between params) (Body (number - 1) params) t h
    (λ e l. record { value = []; rest = t; long = sym (eqb-true number 0 e); after = l; written = refl })
    (λ e l. let some : number ≡ 0 → ⊥ = eqb-false number 0 e in record { value = l.value; rest = l.rest; long = omega (arith, l.long, some); after = l.after; written = l.written })

into_body : (left : ℕ) (params : Params) (x : ℕ) (t : List ℕ) → IsLeft (literal_left left params) t → InLiteral [] (suc left) params (x ∷ t)
into_body left params x t h =
    let l = into_left left params t h in
    record { value = x ∷ l.value; rest = l.rest; long = ap suc l.long; after = l.after; written = ap (λ (u : List ℕ). x ∷ u) l.written }

-- ---- numbers

into_first_figure : (x : ℕ) (t : List ℕ) → is_ascii_digit x ≡ true → InNumber (with_digit 0 x) t → AtNumber (x ∷ t)
into_first_figure x t e h = record {
  number = fold with_digit (with_digit 0 x) h.digits;
  first = x ∷ h.digits;
  numeral = ((e, h.are_digits), (λ zero_is. h.extra (omega (arith, zero_is))), refl);
  short = h.short;
  written = ap (λ (u : List ℕ). x ∷ u) h.written;
}

into_digits : (number : ℕ) (x : ℕ) (t : List ℕ) → number < 2 ^ 32 → IsLeft (step (Digits number) x) t → InNumber number (x ∷ t)
into_digits number x t lt h =
    fork (x == 13) LineFeed _ t h
    (λ e l. record { digits = []; are_digits = tt; extra = λ none. refl; short = lt; written = rw (eqb-true x 13 e, l) refl })
    (λ a l. fork (is_ascii_digit x) (longer (λ n. Digits n) number x) Dead t l
    (λ e m. longer_fork (λ n. Digits n) number x t m (λ some lt r. record {
      digits = x ∷ r.digits;
      are_digits = (e, r.are_digits);
      extra = λ none. absurd (eqb-false number 0 some none);
      short = r.short;
      written = ap (λ (u : List ℕ). x ∷ u) r.written;
    }))
    (λ e m. absurd m))

-- ---- all states

pub into : (s : LineState) (x : ℕ) (t : List ℕ) → IsProper s → IsLeft (step s x) t → IsLeft s (x ∷ t)
into (Word p) x t proper h = into_word p x t h
into (Between params) x t proper h = into_leave params x t h
into (Opening params) x t proper h = into_opening params x t h
into (Quoted left params) x t proper h = into_quoted left params x t h
into (Escaped left params) x t proper h = into_escaped left params x t h
into (Brace params) x t proper h = fork (is_ascii_digit x) (Count (with_digit 0 x) params) Dead t h (λ e l. into_first_digit params x t e l) (λ e l. absurd l)
into (Count number params) x t proper h = into_count number params x t proper h
into (Plus number params) x t proper h = fork (x == 125) (Closed number params) Dead t h (λ e l. into_fixed _ 125 number params x t (eqb-true x 125 e) l) (λ e l. absurd l)
into (Closed number params) x t proper h = fork (x == 13) (Return number params) Dead t h (λ e l. into_fixed _ 13 number params x t (eqb-true x 13 e) l) (λ e l. absurd l)
into (Return number params) x t proper h = fork (x == 10) (literal_left number params) Dead t h (λ e l. into_fixed [] 10 number params x t (eqb-true x 10 e) (into_left number params t l)) (λ e l. absurd l)
into (Body left params) x t proper h = into_body left params x t h
into Number x t proper h = fork (is_ascii_digit x) (Digits (with_digit 0 x)) Dead t h (λ e l. into_first_figure x t e l) (λ e l. absurd l)
into (Digits number) x t proper h = into_digits number x t proper h
into LineFeed x t proper h = fork (x == 10) Whole Dead t h (λ e l. rw (eqb-true x 10 e, l) refl) (λ e l. absurd l)
into Whole x t proper h = absurd h
into Dead x t proper h = absurd h

-- ---- a line can come only to proper states

-- either way of a test
either : (b : Bool) (s u : LineState) → (b ≡ true → IsProper s) → (b ≡ false → IsProper u) → IsProper (cond b s u)
either true s u f g = f refl
either false s u f g = g refl

proper_space : (params : Params) → IsProper (after_space params)
proper_space LineEnd = tt
proper_space MaybeText = tt
proper_space (ThenText more) = tt
proper_space ThenNumber = tt

proper_return : (params : Params) → IsProper (after_return params)
proper_return LineEnd = tt
proper_return MaybeText = tt
proper_return (ThenText more) = tt
proper_return ThenNumber = tt

proper_leave : (params : Params) (x : ℕ) → IsProper (leave params x)
proper_leave params x =
    either (x == 32) (after_space params) _ (λ e. proper_space params) (λ e. either (x == 13) (after_return params) Dead (λ d. proper_return params) (λ d. tt))

proper_named : (o : Option Params) (x : ℕ) → IsProper (leave_named o x)
proper_named None x = tt
proper_named (Some params) x = proper_leave params x

proper_left : (number : ℕ) (params : Params) → IsProper (literal_left number params)
proper_left number params = either (number == 0) (Between params) (Body (number - 1) params) (λ e. tt) (λ e. tt)

proper_longer : (to : ℕ → LineState) (number x : ℕ) → ((n : ℕ) → n < 2 ^ 32 → IsProper (to n)) → IsProper (longer to number x)
proper_longer to number x f =
    either (number == 0) Dead _ (λ e. tt)
    (λ e. either (nat_lt (with_digit number x) (2 ^ 32)) (to (with_digit number x)) Dead (λ lt. f (with_digit number x) (ltb-true (with_digit number x) (2 ^ 32) lt)) (λ lt. tt))

small_digit : (x : ℕ) → is_ascii_digit x ≡ true → with_digit 0 x < 2 ^ 32
small_digit x e = omega (arith, ltb-true, leb-true, and_parts (leb 48 x) (leb x 57) e)

pub proper_step : (s : LineState) (x : ℕ) → IsProper s → IsProper (step s x)
proper_step (Word p) x h =
    either (begins_row rows (p ++ to_ascii_uppercase x ∷ [])) (Word (p ++ to_ascii_uppercase x ∷ [])) (leave_named (params_in rows p) x) (λ e. e) (λ e. proper_named (params_in rows p) x)
proper_step (Between params) x h = proper_leave params x
proper_step (Opening params) x h = either (x == 34) (Quoted 1024 params) _ (λ e. tt) (λ e. either (x == 123) (Brace params) Dead (λ d. tt) (λ d. tt))
proper_step (Quoted left params) x h =
    either (x == 34) (Between params) _ (λ e. tt)
    (λ e. either (x == 92) (cond (nat_lt 1 left) (Escaped (left - 2) params) Dead) _
    (λ d. either (nat_lt 1 left) (Escaped (left - 2) params) Dead (λ c. tt) (λ c. tt))
    (λ d. either (is_quotable_octet x && nat_lt 0 left) (Quoted (left - 1) params) Dead (λ c. tt) (λ c. tt)))
proper_step (Escaped left params) x h = either (x == 34 || x == 92) (Quoted left params) Dead (λ e. tt) (λ e. tt)
proper_step (Brace params) x h = either (is_ascii_digit x) (Count (with_digit 0 x) params) Dead (λ e. small_digit x e) (λ e. tt)
proper_step (Count number params) x h =
    either (x == 43) (Plus number params) _ (λ e. h)
    (λ e. either (is_ascii_digit x) (longer (λ n. Count n params) number x) Dead (λ d. proper_longer (λ n. Count n params) number x (λ n lt. lt)) (λ d. tt))
proper_step (Plus number params) x h = either (x == 125) (Closed number params) Dead (λ e. h) (λ e. tt)
proper_step (Closed number params) x h = either (x == 13) (Return number params) Dead (λ e. h) (λ e. tt)
proper_step (Return number params) x h = either (x == 10) (literal_left number params) Dead (λ e. proper_left number params) (λ e. tt)
proper_step (Body left params) x h = proper_left left params
proper_step Number x h = either (is_ascii_digit x) (Digits (with_digit 0 x)) Dead (λ e. small_digit x e) (λ e. tt)
proper_step (Digits number) x h =
    either (x == 13) LineFeed _ (λ e. tt)
    (λ e. either (is_ascii_digit x) (longer (λ n. Digits n) number x) Dead (λ d. proper_longer (λ n. Digits n) number x (λ n lt. lt)) (λ d. tt))
proper_step LineFeed x h = either (x == 10) Whole Dead (λ e. tt) (λ e. tt)
proper_step Whole x h = tt
proper_step Dead x h = tt

pub proper_run : (s : LineState) (t : List ℕ) → IsProper s → IsProper (run s t)
proper_run s [] h = h
proper_run s (x ∷ t) h = proper_run (step s x) t (proper_step s x h)

pub proper_start : (pending : Bool) → IsProper (start_state pending)
unfolding rows
proper_start false = refl
proper_start true = tt

-- ---- from a state to a whole line

whole_only : (s : LineState) → s ≡ Whole → IsLeft s []
whole_only s e = rw e refl

pub whole_left : (s : LineState) (t : List ℕ) → IsProper s → run s t ≡ Whole → IsLeft s t
whole_left s [] proper e = whole_only s e
whole_left s (x ∷ t) proper e = into s x t proper (whole_left (step s x) t (proper_step s x proper) e)
