-- Which octets stand inside literals, and how many do not.
use Rattle.std.proofs.Common.{◌≡◌, ℕ, ◌+◌, ◌-◌, inl, inr, Bool, true, false, ◌==◌, cond, List, [], ◌∷◌, ◌++◌, Option, Some, None, refl, sym, ap, ◌∙◌, subst, arith, zero-add}
use Rattle.std.proofs.lemmas.Bool.{cases_Bool, false≢true, false_from_ne_true}
use Rattle.managesieve_protocol.specs.Machine.{Params, rows, params_in, LineState, Word, Between, Opening, Quoted, Escaped, Brace, Count, Plus, Closed, Return, Body, Number, Digits, LineFeed, Whole, Dead, leave_named, literal_left, step, run, start_state, in_literal, weight}
use Rattle.managesieve_protocol.specs.Items.{IsInLiteral, CountsOutside}
use Rattle.managesieve_protocol.proofs.Runs.{run-append}
use Rattle.managesieve_protocol.proofs.Names.{no_nul}
use Rattle.managesieve_protocol.proofs.Law.{viable_live, live_viable}

-- ---- any octet exactly inside a literal

left_lives : (left : ℕ) (params : Params) → literal_left left params ≡ Dead → ⊥
left_lives left params e = go (left == 0) e
  where
    go : (b : Bool) → cond b (Between params) (Body (left - 1) params) ≡ Dead → ⊥
    go true e = cc
    go false e = cc

literal_lives : (s : LineState) (x : ℕ) → in_literal s ≡ true → step s x ≡ Dead → ⊥
literal_lives (Body left params) x e d = left_lives left params d
literal_lives _ x e d = false≢true e

pub literal_free : (pending : Bool) (text : List ℕ) → in_literal (run (start_state pending) text) ≡ true → IsInLiteral pending text
literal_free pending text e x =
    live_viable pending (text ++ x ∷ [])
    (λ dead. literal_lives (run (start_state pending) text) x e (sym (run-append (start_state pending) text (x ∷ [])) ∙ dead))

-- a NUL kills each other state
nul_named : (o : Option Params) → leave_named o 0 ≡ Dead
nul_named None = refl
nul_named (Some params) = refl

nul_dies : (s : LineState) → in_literal s ≡ false → step s 0 ≡ Dead
nul_dies (Word p) e = let none = no_nul p in rw none (nul_named (params_in rows p))
nul_dies (Between params) e = refl
nul_dies (Opening params) e = refl
nul_dies (Quoted left params) e = refl
nul_dies (Escaped left params) e = refl
nul_dies (Brace params) e = refl
nul_dies (Count number params) e = refl
nul_dies (Plus number params) e = refl
nul_dies (Closed number params) e = refl
nul_dies (Return number params) e = refl
nul_dies (Body left params) e = absurd cc
nul_dies Number e = refl
nul_dies (Digits number) e = refl
nul_dies LineFeed e = refl
nul_dies Whole e = refl
nul_dies Dead e = refl

pub not_free : (pending : Bool) (text : List ℕ) → in_literal (run (start_state pending) text) ≡ false → IsInLiteral pending text → ⊥
not_free pending text e free =
    viable_live pending (text ++ 0 ∷ []) (free 0)
    (run-append (start_state pending) text (0 ∷ []) ∙ nul_dies (run (start_state pending) text) e)

pub free_literal : (pending : Bool) (text : List ℕ) → IsInLiteral pending text → in_literal (run (start_state pending) text) ≡ true
free_literal pending text free =
    elim (cases_Bool (in_literal (run (start_state pending) text))) [ inl e ↦ e | inr e ↦ absurd (not_free pending text e free) ]

-- ---- counts

-- what stands outside literals, after a state
unfoldable pub outside_from : LineState → List ℕ → ℕ
outside_from s [] = 0
outside_from s (x ∷ t) = weight s + outside_from (step s x) t

pub outside_from-push : (s : LineState) (t : List ℕ) (x : ℕ) → outside_from s (t ++ x ∷ []) ≡ outside_from s t + weight (run s t)
unfolding outside_from
outside_from-push s [] x = omega arith
outside_from-push s (y ∷ t) x = omega (arith, outside_from-push (step s y) t x)

pub outside_from_nothing : (s : LineState) → outside_from s [] ≡ 0
unfolding outside_from
outside_from_nothing s = refl

pub after-push : (pending : Bool) (front : List ℕ) (x : ℕ) → run (start_state pending) (front ++ x ∷ []) ≡ step (run (start_state pending) front) x
after-push pending front x = run-append (start_state pending) front (x ∷ [])

counts_more : (pending : Bool) (front : List ℕ) (x : ℕ) (rest : List ℕ) (n : ℕ) (b : Bool) → in_literal (run (start_state pending) front) ≡ b → CountsOutside pending (front ++ x ∷ []) rest n → CountsOutside pending front (x ∷ rest) (cond b 0 1 + n)
counts_more pending front x rest n true e h = inl (literal_free pending front e, subst (λ (m : ℕ). CountsOutside pending (front ++ x ∷ []) rest m) (sym (zero-add n)) h)
counts_more pending front x rest n false e h = inr (not_free pending front e, (n, refl, h))

pub counts : (pending : Bool) (rest front : List ℕ) → CountsOutside pending front rest (outside_from (run (start_state pending) front) rest)
unfolding outside_from
counts pending [] front = refl
counts pending (x ∷ rest) front =
    let s = run (start_state pending) front in
    counts_more pending front x rest (outside_from (step s x) rest) (in_literal s) refl
    (subst (λ (u : LineState). CountsOutside pending (front ++ x ∷ []) rest (outside_from u rest)) (after-push pending front x) (counts pending rest (front ++ x ∷ [])))

weight_in : (s : LineState) → in_literal s ≡ true → weight s ≡ 0
weight_in s e = rw e refl

weight_out : (s : LineState) → in_literal s ≡ false → weight s ≡ 1
weight_out s e = rw e refl

pub counts_only : (pending : Bool) (rest front : List ℕ) (n : ℕ) → CountsOutside pending front rest n → n ≡ outside_from (run (start_state pending) front) rest
unfolding outside_from
counts_only pending [] front n h = h
counts_only pending (x ∷ rest) front n (inl h) =
    let s = run (start_state pending) front in
    let more : n ≡ outside_from (step s x) rest = counts_only pending rest (front ++ x ∷ []) n h.1 ∙ ap (λ (u : LineState). outside_from u rest) (after-push pending front x) in
    omega (arith, more, weight_in s (free_literal pending front h.0))
counts_only pending (x ∷ rest) front n (inr h) =
    let s = run (start_state pending) front in
    let more : h.1.0 ≡ outside_from (step s x) rest = counts_only pending rest (front ++ x ∷ []) h.1.0 h.1.2 ∙ ap (λ (u : LineState). outside_from u rest) (after-push pending front x) in
    omega (arith, more, h.1.1, weight_out s (false_from_ne_true (in_literal s) (λ e. h.0 (literal_free pending front e))))
