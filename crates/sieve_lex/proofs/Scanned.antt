-- The tokens read so far.
use Rattle.std.proofs.Common.{◌≡◌, ℕ, List, [], ◌∷◌, ◌++◌, Some, drop, sym, ◌∙◌, ap, subst, append_assoc, append-nil}
use Rattle.sieve_lex.specs.declared.token.Token.{Token}
use Rattle.sieve_lex.specs.Spelling.{IsNextToken, SpellsFrom}
use Rattle.sieve_lex.specs.Space.{IsTail}
use Rattle.octets.proofs.Lists.{some_is}
use Rattle.sieve_lex.proofs.Next.{tail_no_next}

-- these tokens were read up to this place, and every reading of the text begins with them
pub record IsFront (text : List ℕ) (so_far : List Token) (at : ℕ) : Type 0 where
  pub joins : (ts : List Token) → SpellsFrom text at ts → SpellsFrom text 0 (so_far ++ ts)
  pub only : (us : List Token) → SpellsFrom text 0 us → (ts : List Token) × ((us ≡ so_far ++ ts) × SpellsFrom text at ts)

-- every reading of what is left begins with the one next token
rest_only : (text : List ℕ) (at : ℕ) (t : Token) (so_far us : List Token) → IsNextToken text at t → ((u : Token) → IsNextToken text at u → Some t ≡ Some u) → (ts : List Token) → us ≡ so_far ++ ts → SpellsFrom text at ts
    → (more : List Token) × ((us ≡ (so_far ++ (t ∷ [])) ++ more) × SpellsFrom text t.end more)
rest_only text at t so_far us here one [] e h = absurd (tail_no_next text at t h here)
rest_only text at t so_far us here one (u ∷ ts) e h =
    let same : t ≡ u = some_is t u (one u h.0) in
    let P : Token → Type 0 = λ x. SpellsFrom text x.end ts in
    (ts, (e ∙ ap (λ x. so_far ++ (x ∷ ts)) (sym same) ∙ sym (append_assoc so_far (t ∷ []) ts), subst P (sym same) h.1))

-- one token more
pub front_more : (text : List ℕ) (at : ℕ) (t : Token) (so_far : List Token) → IsFront text so_far at → IsNextToken text at t → ((u : Token) → IsNextToken text at u → Some t ≡ Some u) → IsFront text (so_far ++ (t ∷ [])) t.end
front_more text at t so_far f here one = record {
  joins = λ ts s. (let P : List Token → Type 0 = λ x. SpellsFrom text 0 x in subst P (sym (append_assoc so_far (t ∷ []) ts)) (f.joins (t ∷ ts) (here, s)));
  only = λ us s. (let r : (ts : List Token) × ((us ≡ so_far ++ ts) × SpellsFrom text at ts) = f.only us s in rest_only text at t so_far us here one r.0 r.1.0 r.1.1);
}

-- after the last token
pub front_ends : (text : List ℕ) (at : ℕ) (so_far : List Token) → IsFront text so_far at → IsTail (drop at text) → SpellsFrom text 0 so_far
front_ends text at so_far f g = let P : List Token → Type 0 = λ x. SpellsFrom text 0 x in subst P (append-nil so_far) (f.joins [] g)

ends_only : (text : List ℕ) (at : ℕ) (so_far us : List Token) → ((u : Token) → IsNextToken text at u → ⊥) → (ts : List Token) → us ≡ so_far ++ ts → SpellsFrom text at ts → us ≡ so_far
ends_only text at so_far us gone [] e h = e ∙ append-nil so_far
ends_only text at so_far us gone (u ∷ ts) e h = absurd (gone u h.0)

pub front_only : (text : List ℕ) (at : ℕ) (so_far : List Token) → IsFront text so_far at → ((u : Token) → IsNextToken text at u → ⊥) → (us : List Token) → SpellsFrom text 0 us → us ≡ so_far
front_only text at so_far f gone us s =
    let r : (ts : List Token) × ((us ≡ so_far ++ ts) × SpellsFrom text at ts) = f.only us s in
    ends_only text at so_far us gone r.0 r.1.0 r.1.1
