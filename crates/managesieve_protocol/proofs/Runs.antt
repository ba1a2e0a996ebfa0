-- What is spelled right comes to the end of a line.
use Rattle.std.proofs.Common.{◌≡◌, ℕ, suc, ◌-◌, ◌<◌, ◌≤◌, ◌^◌, inl, inr, true, false, ◌||◌, ◌==◌, leb, List, [], ◌∷◌, ◌++◌, length, refl, ap, ◌∙◌, arith, append_assoc}
use Rattle.std.specs.Prelude.{fold, nat_lt}
use Rattle.std.specs.Char.{is_ascii_digit}
use Rattle.std.proofs.lemmas.Bool.{cases_Bool, ne_eqb, leb-true, lt-ltb, and_parts, or_parts}
use Rattle.octets.specs.Decimal.{with_digit}
use Rattle.managesieve_protocol.specs.Arguments.{inside, AreQuotable, AreDigits, IsDecimalNumber, IsString}
use Rattle.managesieve_protocol.specs.Machine.{Params, LineEnd, MaybeText, ThenText, ThenNumber, LineState, Between, Opening, Quoted, Brace, Count, Body, Number, Digits, Whole, Dead, longer, literal_left, step, run}
use Rattle.managesieve_protocol.proofs.Left.{IsAfter}

pub run-append : (s : LineState) (a b : List ℕ) → run s (a ++ b) ≡ run (run s a) b
run-append s [] b = refl
run-append s (x ∷ a) b = run-append (step s x) a b

pub run_dead : (b : List ℕ) → run Dead b ≡ Dead
run_dead [] = refl
run_dead (x ∷ b) = run_dead b

-- ---- quoted strings

pub quoted-run : (v : List ℕ) (left : ℕ) (params : Params) (rest : List ℕ) → AreQuotable v → length (inside v) ≤ left → run (Quoted left params) (inside v ++ 34 ∷ rest) ≡ run (Between params) rest
quoted-run [] left params rest q short = refl
quoted-run (x ∷ v) left params rest q short =
    elim (cases_Bool (x == 34 || x == 92)) [
      | inl e ↦ by_escape e (quoted-run v (left - 2) params rest q.1)
      | inr e ↦ by_plain e (quoted-run v (left - 1) params rest q.1)
    ]
  where
    by_escape : (x == 34 || x == 92) ≡ true → (length (inside v) ≤ left - 2 → run (Quoted (left - 2) params) (inside v ++ 34 ∷ rest) ≡ run (Between params) rest) → run (Quoted left params) (inside (x ∷ v) ++ 34 ∷ rest) ≡ run (Between params) rest
    by_escape e ih =
        let long : suc (suc (length (inside v))) ≤ left = rw e at short in
        let two : nat_lt 1 left ≡ true = lt-ltb 1 left (omega arith) in
        rw (e, two, e) (ih (omega arith))

    by_plain : (x == 34 || x == 92) ≡ false → (length (inside v) ≤ left - 1 → run (Quoted (left - 1) params) (inside v ++ 34 ∷ rest) ≡ run (Between params) rest) → run (Quoted left params) (inside (x ∷ v) ++ 34 ∷ rest) ≡ run (Between params) rest
    by_plain e ih =
        let long : suc (length (inside v)) ≤ left = rw e at short in
        let one : nat_lt 0 left ≡ true = lt-ltb 0 left (omega arith) in
        let parts = or_parts (x == 34) (x == 92) e in
        rw (e, parts.0, parts.1, q.0, one) (ih (omega arith))

-- ---- digits

pub digit_range : (x : ℕ) → is_ascii_digit x ≡ true → (48 ≤ x) × (x ≤ 57)
digit_range x e =
    let parts = and_parts (leb 48 x) (leb x 57) e in
    (leb-true 48 x parts.0, leb-true x 57 parts.1)

pub fold_grows : (ds : List ℕ) (n : ℕ) → n ≤ fold with_digit n ds
fold_grows [] n = omega arith
fold_grows (d ∷ ds) n = omega (arith, fold_grows ds (with_digit n d))

-- digits take a state that counts them from one number to the next
digits-run : (to : ℕ → LineState) → ((n d : ℕ) → is_ascii_digit d ≡ true → step (to n) d ≡ longer to n d) → (ds : List ℕ) (n : ℕ) (u : List ℕ) → AreDigits ds → (n ≡ 0 → ds ≡ []) → fold with_digit n ds < 2 ^ 32 → run (to n) (ds ++ u) ≡ run (to (fold with_digit n ds)) u
digits-run to by [] n u are extra lt = refl
digits-run to by (d ∷ ds) n u are extra lt =
    let some : (n == 0) ≡ false = ne_eqb n 0 (λ e. absurd (no_cons (extra e))) in
    let below : nat_lt (with_digit n d) (2 ^ 32) ≡ true = lt-ltb _ _ (omega (arith, fold_grows ds (with_digit n d))) in
    let more : with_digit n d ≡ 0 → ds ≡ [] = λ e. absurd (no_cons (extra (omega (arith, e)))) in
    let once : step (to n) d ≡ to (with_digit n d) = by n d are.0 ∙ rw (some, below) refl in
    ap (λ (s : LineState). run s (ds ++ u)) once ∙ digits-run to by ds (with_digit n d) u are.1 more lt
  where
    no_cons : d ∷ ds ≡ [] → ⊥
    no_cons e = cc

count_digit : (params : Params) (n d : ℕ) → is_ascii_digit d ≡ true → step (Count n params) d ≡ longer (λ m. Count m params) n d
count_digit params n d e =
    let range = digit_range d e in
    let other : (d == 43) ≡ false = ne_eqb d 43 (λ i. absurd (omega (arith, i, range))) in
    rw (other, e) refl

-- a literal's number takes its state to that number
pub count_digits : (digits : List ℕ) (number : ℕ) (params : Params) (u : List ℕ) → IsDecimalNumber number digits → number < 2 ^ 32 → run (Brace params) (digits ++ u) ≡ run (Count number params) u
count_digits [] number params u numeral lt = absurd numeral
count_digits (d ∷ ds) number params u numeral lt =
    let extra : with_digit 0 d ≡ 0 → ds ≡ [] = λ e. numeral.1 (omega (arith, e, digit_range d numeral.0.0)) in
    let once : step (Brace params) d ≡ Count (with_digit 0 d) params = rw numeral.0.0 refl in
    ap (λ (s : LineState). run s (ds ++ u)) once
    ∙ digits-run (λ n. Count n params) (count_digit params) ds (with_digit 0 d) u numeral.0.1 extra (omega (arith, numeral.2, lt))
    ∙ ap (λ (n : ℕ). run (Count n params) u) numeral.2

figure_digit : (n d : ℕ) → is_ascii_digit d ≡ true → step (Digits n) d ≡ longer (λ m. Digits m) n d
figure_digit n d e =
    let range = digit_range d e in
    let other : (d == 13) ≡ false = ne_eqb d 13 (λ i. absurd (omega (arith, i, range))) in
    rw (other, e) refl

-- ---- literals

pub left-suc : (n : ℕ) (params : Params) → literal_left (suc n) params ≡ Body n params
left-suc n params =
    let some : (suc n == 0) ≡ false = ne_eqb (suc n) 0 (λ e. absurd (omega (arith, e))) in
    let less : suc n - 1 ≡ n = omega arith in
    rw (some, less) refl

pub body-run : (v : List ℕ) (params : Params) (rest : List ℕ) → run (literal_left (length v) params) (v ++ rest) ≡ run (Between params) rest
body-run [] params rest = refl
body-run (x ∷ v) params rest = ap (λ (s : LineState). run s (x ∷ (v ++ rest))) (left-suc (length v) params) ∙ body-run v params rest

count-run : (digits value : List ℕ) (params : Params) (rest : List ℕ) → IsDecimalNumber (length value) digits → length value < 2 ^ 32 → run (Brace params) (digits ++ 43 ∷ 125 ∷ 13 ∷ 10 ∷ (value ++ rest)) ≡ run (Between params) rest
count-run digits value params rest numeral lt =
    count_digits digits (length value) params (43 ∷ 125 ∷ 13 ∷ 10 ∷ (value ++ rest)) numeral lt ∙ body-run value params rest

pub string-run : (value first : List ℕ) (params : Params) (rest : List ℕ) → IsString value first → run (Opening params) (first ++ rest) ≡ run (Between params) rest
string-run value first params rest (inl q) =
    ap (λ (t : List ℕ). run (Opening params) (t ++ rest)) q.written
    ∙ ap (run (Quoted 1024 params)) (append_assoc (inside value) (34 ∷ []) rest)
    ∙ quoted-run value 1024 params rest q.allowed q.short
string-run value first params rest (inr l) =
    ap (λ (t : List ℕ). run (Opening params) (t ++ rest)) l.written
    ∙ ap (run (Brace params)) (append_assoc l.digits (43 ∷ 125 ∷ 13 ∷ 10 ∷ value) rest)
    ∙ count-run l.digits value params rest l.numeral l.short

-- ---- arguments

number-run : (number : ℕ) (first : List ℕ) → IsDecimalNumber number first → number < 2 ^ 32 → run Number (first ++ 13 ∷ 10 ∷ []) ≡ Whole
number-run number [] numeral lt = absurd numeral
number-run number (d ∷ ds) numeral lt =
    let extra : with_digit 0 d ≡ 0 → ds ≡ [] = λ e. numeral.1 (omega (arith, e, digit_range d numeral.0.0)) in
    let once : step Number d ≡ Digits (with_digit 0 d) = rw numeral.0.0 refl in
    ap (λ (s : LineState). run s (ds ++ 13 ∷ 10 ∷ [])) once
    ∙ digits-run (λ n. Digits n) figure_digit ds (with_digit 0 d) (13 ∷ 10 ∷ []) numeral.0.1 extra (omega (arith, numeral.2, lt))

pub after-run : (params : Params) (t : List ℕ) → IsAfter params t → run (Between params) t ≡ Whole
after-run LineEnd t h = rw h refl
after-run MaybeText t (inl h) = rw h refl
after-run MaybeText t (inr h) = rw h.5 (string-run h.0 h.1 LineEnd h.2 h.3 ∙ rw h.4 refl)
after-run (ThenText more) t h = rw h.5 (string-run h.0 h.1 more h.2 h.3 ∙ after-run more h.2 h.4)
after-run ThenNumber t h = rw h.4 (number-run h.0 h.1 h.2 h.3)
