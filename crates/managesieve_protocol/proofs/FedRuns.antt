-- Octets that leave a scan's line where it stands, taken in one step.
use Rattle.std.proofs.Common.{◌≡◌, ℕ, zero, suc, ◌+◌, ◌-◌, ◌≤◌, Bool, true, false, not, ◌||◌, ◌==◌, cond, List, [], ◌∷◌, ◌++◌, length, take, drop, min, append_assoc, refl, sym, ap, ◌∙◌, subst, arith}
use Rattle.std.specs.Prelude.{nat_lt, fold}
use Rattle.std.proofs.lemmas.Bool.{le-ltb, lt-ltb, eqb-true, and_parts, or_parts, not-true}
use Rattle.std.specs.Char.{to_ascii_uppercase}
use Rattle.std.specs.List.{prefix_len}
use Rattle.std.proofs.lemmas.List.Sums.{prefix_len-le-length}
use Rattle.std.proofs.Math.Seq.{take-add}
use Rattle.std.proofs.lemmas.List.{length-take-le, take_min, take_at, length_push, append-nil, take-append-drop}
use Rattle.managesieve_protocol.specs.declared.items.ItemExtent.{ItemExtent}
use Rattle.managesieve_protocol.specs.declared.items.ItemExtent.TheVariants.{Need}
use Rattle.managesieve_protocol.specs.Arguments.{is_quotable_octet}
use Rattle.managesieve_protocol.specs.declared.state.State as code
use Rattle.managesieve_protocol.specs.declared.state.State.TheVariants as code_state
use Rattle.managesieve_protocol.specs.declared.command_name.Params as code_params
use Rattle.managesieve_protocol.specs.declared.command_name.CommandName.{CommandName}
use Rattle.managesieve_protocol.specs.Machine.{Params, LineState, Word, Quoted, Body, Dead, command_name, begins, step}
use Rattle.managesieve_protocol.specs.Scanning.{Scanned, Open, scan_step, found, literal_rest}
use Rattle.managesieve_protocol.specs.Shown.{shown_state, params_shown, scan_shown, is_plain_quoted, is_inside_line, letters_matched, letters_read, skimmed, state_after}
use Rattle.managesieve_protocol.proofs.Names.{begins-append}
use Rattle.managesieve_protocol.proofs.Verbs.{word_more}
use Rattle.managesieve_protocol.proofs.Turning.{is_open, passed, body_is}

-- ---- the front that passes

abbrev Pass : (ℕ → Bool) → List ℕ → Type 0
Pass test [] = Unit {0}
Pass test (octet ∷ rest) = (test octet ≡ true) × Pass test rest

front_passes : (test : ℕ → Bool) (t : List ℕ) → Pass test (take (prefix_len test t) t)
front_passes test [] = tt
front_passes test (x ∷ t) = go (test x) refl (front_passes test t)
  where
    go : (b : Bool) → test x ≡ b → Pass test (take (prefix_len test t) t) → Pass test (take (cond b (1 + prefix_len test t) zero) (x ∷ t))
    go true e h = let more : 1 + prefix_len test t ≡ suc (prefix_len test t) = omega arith in rw more (e, h)
    go false e h = tt

-- ---- one octet

quoted-step : (x left : ℕ) (params : Params) → is_plain_quoted x ≡ true → step (Quoted (suc left) params) x ≡ Quoted left params
quoted-step x left params e =
    let parts = and_parts (is_quotable_octet x) (not (x == 34 || x == 92)) e in
    let others = or_parts (x == 34) (x == 92) (not-true (x == 34 || x == 92) parts.1) in
    let less : suc left - 1 ≡ left = omega arith in
    let some : nat_lt 0 (suc left) ≡ true = lt-ltb 0 (suc left) (omega arith) in
    rw (others.0, others.1, parts.0, some, less) refl

quoted_turned : (x left n k : ℕ) (params : Params) → is_plain_quoted x ≡ true → n + 1 ≤ 8192 → scan_step (Open (Quoted (suc left) params) n k) x ≡ Open (Quoted left params) (n + 1) (k + 1)
quoted_turned x left n k params e low =
    let small : nat_lt 8192 (n + 1) ≡ false = le-ltb 8192 (n + 1) low in
    let next = quoted-step x left params e in
    rw (small, next) refl

dead_turned : (x n k : ℕ) → is_inside_line x ≡ true → n + 1 ≤ 8192 → scan_step (Open Dead n k) x ≡ Open Dead (n + 1) (k + 1)
dead_turned x n k e low =
    let small : nat_lt 8192 (n + 1) ≡ false = le-ltb 8192 (n + 1) low in
    let inner = not-true (x == 10) e in
    rw (small, inner) refl

-- ---- all of them

further : (s : LineState) (m n k c : ℕ) → Open s (n + 1 + c) (k + 1 + c) ≡ Open s (n + suc c) (k + suc c)
further s m n k c =
    let a : n + 1 + c ≡ n + suc c = omega arith in
    let b : k + 1 + c ≡ k + suc c = omega arith in
    rw (a, b) refl

quoted_passed : (piece : List ℕ) (left n k : ℕ) (params : Params) → Pass is_plain_quoted piece → length piece ≤ left → n + length piece ≤ 8192 → fold scan_step (Open (Quoted left params) n k) piece ≡ Open (Quoted (left - length piece) params) (n + length piece) (k + length piece)
quoted_passed [] left n k params h le low =
    let a : left - 0 ≡ left = omega arith in
    let b : n + 0 ≡ n = omega arith in
    let d : k + 0 ≡ k = omega arith in
    rw (a, b, d) refl
quoted_passed (x ∷ piece) zero n k params h le low = absurd (omega (arith, le))
quoted_passed (x ∷ piece) (suc left) n k params h le low =
    let a : left - length piece ≡ suc left - suc (length piece) = omega arith in
    ap (λ (sc : Scanned). fold scan_step sc piece) (quoted_turned x left n k params h.0 (omega (arith, low)))
    ∙ quoted_passed piece left (n + 1) (k + 1) params h.1 (omega (arith, le)) (omega (arith, low))
    ∙ further (Quoted (left - length piece) params) 0 n k (length piece)
    ∙ ap (λ (m : ℕ). Open (Quoted m params) (n + suc (length piece)) (k + suc (length piece))) a

dead_passed : (piece : List ℕ) (n k : ℕ) → Pass is_inside_line piece → n + length piece ≤ 8192 → fold scan_step (Open Dead n k) piece ≡ Open Dead (n + length piece) (k + length piece)
dead_passed [] n k h low =
    let b : n + 0 ≡ n = omega arith in
    let d : k + 0 ≡ k = omega arith in
    rw (b, d) refl
dead_passed (x ∷ piece) n k h low =
    ap (λ (sc : Scanned). fold scan_step sc piece) (dead_turned x n k h.0 (omega (arith, low)))
    ∙ dead_passed piece (n + 1) (k + 1) h.1 (omega (arith, low))
    ∙ further Dead 0 n k (length piece)

-- ---- a scan

nothing_taken : (s : LineState) (n k : ℕ) → Open s n k ≡ Open s (n + 0) (k + 0)
nothing_taken s n k =
    let b : n + 0 ≡ n = omega arith in
    let d : k + 0 ≡ k = omega arith in
    rw (b, d) refl

take_within : (c m : ℕ) (t : List ℕ) → c ≤ m → take c (take m t) ≡ take c t
take_within zero m t le = refl
take_within (suc c) zero t le = absurd (omega (arith, le))
take_within (suc c) (suc m) [] le = refl
take_within (suc c) (suc m) (x ∷ t) le = ap (λ (u : List ℕ). x ∷ u) (take_within c m t (omega (arith, le)))

take_small : (m : ℕ) (t : List ℕ) → length (take m t) ≤ m
take_small zero t = omega arith
take_small (suc m) [] = omega arith
take_small (suc m) (x ∷ t) = omega (arith, take_small m t)

-- ---- names

abbrev Spell : List ℕ → List ℕ → Type 0
Spell letters [] = Unit {0}
Spell [] (octet ∷ rest) = ⊥
Spell (letter ∷ letters) (octet ∷ rest) = ((letter == to_ascii_uppercase octet) ≡ true) × Spell letters rest

pub spelling_small : (letters t : List ℕ) → letters_matched letters t ≤ length t
spelling_small [] t = omega arith
spelling_small (y ∷ l) [] = omega arith
spelling_small (y ∷ l) (x ∷ t) = go (y == to_ascii_uppercase x) (spelling_small l t)
  where
    go : (b : Bool) → letters_matched l t ≤ length t → cond b (suc (letters_matched l t)) zero ≤ suc (length t)
    go true h = omega (arith, h)
    go false h = omega arith

front_spells : (letters t : List ℕ) → Spell letters (take (letters_matched letters t) t)
front_spells [] t = tt
front_spells (y ∷ l) [] = tt
front_spells (y ∷ l) (x ∷ t) = go (y == to_ascii_uppercase x) refl (front_spells l t)
  where
    go : (b : Bool) → (y == to_ascii_uppercase x) ≡ b → Spell l (take (letters_matched l t) t) → Spell (y ∷ l) (take (cond b (suc (letters_matched l t)) zero) (x ∷ t))
    go true e h = (e, h)
    go false e h = tt

-- a letter more
letter-step : (v : CommandName) (front l : List ℕ) (y x : ℕ) → command_name v ≡ front ++ y ∷ l → (y == to_ascii_uppercase x) ≡ true → step (Word front) x ≡ Word (front ++ y ∷ [])
letter-step v front l y x is e =
    let same : y ≡ to_ascii_uppercase x = eqb-true y (to_ascii_uppercase x) e in
    let cut : command_name v ≡ (front ++ y ∷ []) ++ l = is ∙ sym (append_assoc front (y ∷ []) l) in
    let begun : begins (front ++ y ∷ []) (command_name v) ≡ true = rw cut (begins-append (front ++ y ∷ []) l) in
    let more = word_more v front x (subst (λ (z : ℕ). begins (front ++ z ∷ []) (command_name v) ≡ true) same begun) in
    let read : take (length front + 1) (command_name v) ≡ front ++ y ∷ [] = rw cut (take_at (front ++ y ∷ []) l (length front + 1) (length_push front y)) in
    sym more ∙ ap (λ (w : List ℕ). Word w) read

letter_turned : (v : CommandName) (front l : List ℕ) (y x n k : ℕ) → command_name v ≡ front ++ y ∷ l → (y == to_ascii_uppercase x) ≡ true → n + 1 ≤ 8192 → scan_step (Open (Word front) n k) x ≡ Open (Word (front ++ y ∷ [])) (n + 1) (k + 1)
letter_turned v front l y x n k is e low =
    let small : nat_lt 8192 (n + 1) ≡ false = le-ltb 8192 (n + 1) low in
    let next = letter-step v front l y x is e in
    rw (small, next) refl

name_passed : (v : CommandName) (front l piece : List ℕ) (n k : ℕ) → command_name v ≡ front ++ l → Spell l piece → n + length piece ≤ 8192 → fold scan_step (Open (Word front) n k) piece ≡ Open (Word (front ++ take (length piece) l)) (n + length piece) (k + length piece)
name_passed v front l [] n k is h low =
    nothing_taken (Word front) n k ∙ ap (λ (w : List ℕ). Open (Word w) (n + 0) (k + 0)) (sym (append-nil front))
name_passed v front [] (x ∷ piece) n k is h low = absurd h
name_passed v front (y ∷ l) (x ∷ piece) n k is h low =
    ap (λ (sc : Scanned). fold scan_step sc piece) (letter_turned v front l y x n k is h.0 (omega (arith, low)))
    ∙ name_passed v (front ++ y ∷ []) l piece (n + 1) (k + 1) (is ∙ sym (append_assoc front (y ∷ []) l)) h.1 (omega (arith, low))
    ∙ further (Word ((front ++ y ∷ []) ++ take (length piece) l)) 0 n k (length piece)
    ∙ ap (λ (w : List ℕ). Open (Word w) (n + suc (length piece)) (k + suc (length piece))) (append_assoc front (y ∷ []) (take (length piece) l))

-- ---- any state

abbrev Skims : code.State → ℕ → ℕ → ℕ → List ℕ → Type 0
Skims st n k c t = fold scan_step (Open (shown_state st) n k) (take c t) ≡ Open (state_after st c) (n + c) (k + c)

-- a front of a front
fronts : (c m : ℕ) (t : List ℕ) → c ≤ length (take m t) → take c t ≡ take c (take m t)
fronts c m t le = sym (take_within c m t (omega (arith, le, take_small m t)))

front_small : (l : ℕ) (v : List ℕ) (c : ℕ) → c ≤ length (take l v) → c ≤ length v
front_small zero v c h = omega (arith, h)
front_small (suc l) [] c h = h
front_small (suc l) (x ∷ v) zero h = omega arith
front_small (suc l) (x ∷ v) (suc c) h = omega (arith, front_small l v c (omega (arith, h)))

skims_name : (v : CommandName) (count n k m : ℕ) (t : List ℕ) → n + m ≤ 8192 → Skims (code_state.Word v count) n k (skimmed (code_state.Word v count) (take m t)) t
skims_name v count n k m t low =
    let w = command_name v in
    let read = letters_read v count in
    let u = take m t in
    let c = letters_matched (drop read w) u in
    let small : c ≤ length u = spelling_small (drop read w) u in
    let len : length (take c u) ≡ c = length-take-le c u small in
    ap (fold scan_step (Open (Word (take count w)) n k)) (fronts c m t small)
    ∙ ap (λ (f : List ℕ). fold scan_step (Open (Word f) n k) (take c u)) (sym (take_min count w))
    ∙ name_passed v (take read w) (drop read w) (take c u) n k (sym (take-append-drop read w)) (front_spells (drop read w) u) (omega (arith, len, small, take_small m t, low))
    ∙ ap (λ (d : ℕ). Open (Word (take read w ++ take d (drop read w))) (n + d) (k + d)) len
    ∙ ap (λ (f : List ℕ). Open (Word f) (n + c) (k + c)) (sym (take-add read c w))

skims_quoted : (left : ℕ) (params : code_params.Params) (n k m : ℕ) (t : List ℕ) → n + m ≤ 8192 → Skims (code_state.Quoted left params) n k (skimmed (code_state.Quoted left params) (take m t)) t
skims_quoted left params n k m t low =
    let u = take left (take m t) in
    let c = prefix_len is_plain_quoted u in
    let small : c ≤ length u = prefix_len-le-length is_plain_quoted u in
    let within : c ≤ length (take m t) = front_small left (take m t) c small in
    let len : length (take c u) ≡ c = length-take-le c u small in
    ap (fold scan_step (Open (Quoted left (params_shown params)) n k)) (fronts c m t within ∙ fronts c left (take m t) small)
    ∙ quoted_passed (take c u) left n k (params_shown params) (front_passes is_plain_quoted u) (omega (arith, len, small, take_small left (take m t))) (omega (arith, len, within, take_small m t, low))
    ∙ ap (λ (d : ℕ). Open (Quoted (left - d) (params_shown params)) (n + d) (k + d)) len

skims_dead : (n k m : ℕ) (t : List ℕ) → n + m ≤ 8192 → Skims code_state.Dead n k (skimmed code_state.Dead (take m t)) t
skims_dead n k m t low =
    let u = take m t in
    let c = prefix_len is_inside_line u in
    let small : c ≤ length u = prefix_len-le-length is_inside_line u in
    let len : length (take c u) ≡ c = length-take-le c u small in
    ap (fold scan_step (Open Dead n k)) (fronts c m t small)
    ∙ dead_passed (take c u) n k (front_passes is_inside_line u) (omega (arith, len, small, take_small m t, low))
    ∙ ap (λ (d : ℕ). Open Dead (n + d) (k + d)) len

pub skims : (st : code.State) (n k m : ℕ) (t : List ℕ) → n + m ≤ 8192 → Skims st n k (skimmed st (take m t)) t
skims (code_state.Word v count) n k m t low = skims_name v count n k m t low
skims (code_state.Quoted left params) n k m t low = skims_quoted left params n k m t low
skims code_state.Dead n k m t low = skims_dead n k m t low
skims st n k m t low = nothing_taken (shown_state st) n k

pub skim_takes : (st next : code.State) (o u m c : ℕ) (r : ItemExtent) (sc : Scanned) (t : List ℕ) → scan_shown st o u r ≡ sc → found sc ≡ Need → o ≤ 8192 → m ≡ min (8192 - o) (length t) → c ≡ skimmed st (take m t) → shown_state next ≡ state_after st c → scan_shown next (o + c) (u + c) r ≡ fold scan_step sc (take c t)
skim_takes st next o u m c r sc t is need low cut count to =
    let at = is_open st o u r sc is need in
    let same : c ≡ skimmed st (take (8192 - o) t) = count ∙ ap (λ (v : List ℕ). skimmed st v) (ap (λ (n : ℕ). take n t) cut ∙ take_min (8192 - o) t) in
    ap (scan_shown next (o + c) (u + c)) at.0
    ∙ ap (λ (s : LineState). Open s (o + c) (u + c)) to
    ∙ ap (λ (d : ℕ). Open (state_after st d) (o + d) (u + d)) same
    ∙ sym (skims st o u (8192 - o) t (omega (arith, low)))
    ∙ ap (λ (d : ℕ). fold scan_step (Open (shown_state st) o u) (take d t)) (sym same)
    ∙ ap (λ (sc : Scanned). fold scan_step sc (take c t)) (sym at.1)

-- nothing ends inside a literal
still_open : (s : LineState) (o u : ℕ) (piece : List ℕ) → o ≤ 8192 → length piece ≤ literal_rest (Open s o u) → found (fold scan_step (Open s o u) piece) ≡ Need
still_open (Body left params) o u piece low le =
    ap (λ (s : LineState). found (fold scan_step (Open s o u) piece)) (body_is left params) ∙ ap found (passed piece (left + 1) o u params le low)
still_open s o u [] low le = refl
still_open s o u (x ∷ piece) low le = absurd (omega (arith, le))

pub pass_still : (st : code.State) (o u count : ℕ) (r : ItemExtent) (sc new : Scanned) (t : List ℕ) → scan_shown st o u r ≡ sc → found sc ≡ Need → o ≤ 8192 → count ≤ literal_rest sc → count ≤ length t → ((piece : List ℕ) → length piece ≡ count → new ≡ fold scan_step sc piece) → found new ≡ Need
pass_still st o u count r sc new t is need low rest fits by =
    let at = is_open st o u r sc is need in
    let len : length (take count t) ≡ count = length-take-le count t fits in
    let fits2 : length (take count t) ≤ literal_rest (Open (shown_state st) o u) = subst (λ (c : Scanned). length (take count t) ≤ literal_rest c) at.1 (omega (arith, len, rest)) in
    ap found (by (take count t) len ∙ ap (λ (s : Scanned). fold scan_step s (take count t)) at.1)
    ∙ still_open (shown_state st) o u (take count t) low fits2
