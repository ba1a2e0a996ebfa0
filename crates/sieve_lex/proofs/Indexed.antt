-- The token of an index.
use Rattle.std.proofs.Common.{◌≡◌, ℕ, ◌+◌, ◌-◌, ◌≤◌, List, [], ◌∷◌, ◌++◌, Some, length, slice_get, ap, sym, ◌∙◌, refl, arith, length-append}
use Rattle.std.proofs.lemmas.Option.{slice_get_past}
use Rattle.sieve_lex.specs.declared.token.Token.{Token}
use Rattle.sieve_lex.specs.Spelling.{IsNextToken, SpellsFrom}
use Rattle.sieve_lex.specs.Contents.{line_or, line_at}
use Rattle.sieve_lex.proofs.Next.{tail_no_next}
use Rattle.sieve_lex.proofs.Scanned.{IsFront, front_more}

-- what stands after a list is found at its length
get_after : (so_far more : List Token) (t : Token) → slice_get (so_far ++ t ∷ more) (length so_far) ≡ Some t
get_after [] more t = refl
get_after (x ∷ so_far) more t = get_after so_far more t

first_at : (text : List ℕ) (at : ℕ) (t : Token) (so_far us : List Token) → IsNextToken text at t → ((u : Token) → IsNextToken text at u → Some t ≡ Some u) → (ts : List Token) → us ≡ so_far ++ ts → SpellsFrom text at ts → slice_get us (length so_far) ≡ Some t
first_at text at t so_far us here one [] e h = absurd (tail_no_next text at t h here)
first_at text at t so_far us here one (u ∷ ts) e h =
    ap (λ x. slice_get x (length so_far)) e ∙ get_after so_far ts u ∙ sym (one u h.0)

-- the line of the token that comes next after that many
pub line_here : (text : List ℕ) (at index : ℕ) (t : Token) (so_far us : List Token) → IsFront text so_far at → length so_far ≡ index → IsNextToken text at t → ((u : Token) → IsNextToken text at u → Some t ≡ Some u) → SpellsFrom text 0 us → t.line ≡ line_at index us
line_here text at index t so_far us f count here one s =
    let r : (ts : List Token) × ((us ≡ so_far ++ ts) × SpellsFrom text at ts) = f.only us s in
    sym (ap (λ i. line_at i us) (sym count) ∙ ap line_or (first_at text at t so_far us here one r.0 r.1.0 r.1.1))

-- that many tokens were read, and this many come before the one of the index
abbrev pub IsCounted : List ℕ → ℕ → ℕ → ℕ → Type 0
IsCounted text at before index = (so_far : List Token) × (IsFront text so_far at × (length so_far + before ≡ index))

-- one token more
pub count_more : (text : List ℕ) (at before index : ℕ) (t : Token) → IsNextToken text at t → ((u : Token) → IsNextToken text at u → Some t ≡ Some u) → (before ≡ 0 → ⊥) → IsCounted text at before index → IsCounted text t.end (before - 1) index
count_more text at before index t here one some c =
    (c.0 ++ t ∷ [], (front_more text at t c.0 c.1.0 here one, omega (arith, c.1.1, some, length-append c.0 (t ∷ []))))

-- after the last token there is none
pub line_past : (index : ℕ) (us : List Token) → length us ≤ index → 1 ≡ line_at index us
line_past index us past = sym (ap line_or (slice_get_past us index past))
