-- Loops that read one thing after another.
use Rattle.std.proofs.Common.{◌≡◌, List, [], ◌∷◌, ◌++◌, refl, sym, ap, ◌∙◌, subst, append_assoc}
use Rattle.std.proofs.lemmas.List.{append-nil}
use Rattle.sieve_syntax.specs.Chains.{Chain}

-- these things were read, and every reading of the whole, up to where it is done, begins with them
pub record IsSoFar {X L : Type 0} (one : X → List L → List L → Type 0) (done : List L → Type 0) (whole : List L) (so_far : List X) (rest : List L) : Type 0 where
  pub joins : Chain one so_far whole rest
  pub only : (xs : List X) (to : List L) → Chain one xs whole to → done to → (more : List X) × ((xs ≡ so_far ++ more) × Chain one more rest to)

-- one thing more at the end
pub chain_push : {X L : Type 0} (one : X → List L → List L → Type 0) (xs : List X) (x : X) (from middle to : List L) → Chain one xs from middle → one x middle to → Chain one (xs ++ x ∷ []) from to
chain_push one [] x from middle to same at = (to, (subst (λ l. one x l to) (sym same) at, refl))
chain_push one (y ∷ ys) x from middle to chain at = (chain.0, (chain.1.0, chain_push one ys x chain.0 middle to chain.1.1 at))

module _ {X L : Type 0} (one : X → List L → List L → Type 0) (done : List L → Type 0) (whole : List L) where
  -- before the first
  pub chain_begins : IsSoFar one done whole [] whole
  chain_begins = record { joins = refl; only = λ xs to chain _. (xs, (refl, chain)) }

  -- one more was read, which is the only one there, and the whole wasn't done
  pub chain_more : (so_far : List X) (rest : List L) (x : X) (next : List L) → IsSoFar one done whole so_far rest → one x rest next → ((y : X) (to : List L) → one y rest to → (y ≡ x) × (to ≡ next)) → (done rest → ⊥) → IsSoFar one done whole (so_far ++ x ∷ []) next
  chain_more so_far rest x next so at alone goes_on = record {
    joins = chain_push one so_far x whole rest next so.joins at;
    only = λ xs to chain is_done. let found = so.only xs to chain is_done in further xs to is_done found.0 found.1.0 found.1.1;
  }
    where
      further : (xs : List X) (to : List L) → done to → (more : List X) → xs ≡ so_far ++ more → Chain one more rest to → (others : List X) × ((xs ≡ (so_far ++ x ∷ []) ++ others) × Chain one others next to)
      further xs to is_done [] same chain = absurd (goes_on (subst done (sym chain) is_done))
      further xs to is_done (y ∷ ys) same chain =
          let it = alone y chain.0 chain.1.0 in
          (ys, (same ∙ ap (λ z. so_far ++ z ∷ ys) it.0 ∙ sym (append_assoc so_far (x ∷ []) ys), subst (λ l. Chain one ys l to) it.1 chain.1.1))

  -- where nothing more stands, what was read is all
  pub chain_ends : (so_far : List X) (rest : List L) → IsSoFar one done whole so_far rest → ((y : X) (to : List L) → one y rest to → ⊥) → (xs : List X) (to : List L) → Chain one xs whole to → done to → (xs ≡ so_far) × (to ≡ rest)
  chain_ends so_far rest so no_more xs to chain is_done = let found = so.only xs to chain is_done in last found.0 found.1.0 found.1.1
    where
      last : (more : List X) → xs ≡ so_far ++ more → Chain one more rest to → (xs ≡ so_far) × (to ≡ rest)
      last [] same at = (same ∙ append-nil so_far, sym at)
      last (y ∷ ys) same at = absurd (no_more y at.0 at.1.0)

  -- where neither more nor the end stands, there is no reading
  pub chain_fails : (so_far : List X) (rest : List L) → IsSoFar one done whole so_far rest → (done rest → ⊥) → ((y : X) (to : List L) → one y rest to → ⊥) → (xs : List X) (to : List L) → Chain one xs whole to → done to → ⊥
  chain_fails so_far rest so goes_on no_more xs to chain is_done = let found = so.only xs to chain is_done in last found.0 found.1.0 found.1.1
    where
      last : (more : List X) → xs ≡ so_far ++ more → Chain one more rest to → ⊥
      last [] same at = goes_on (subst done (sym at) is_done)
      last (y ∷ ys) same at = no_more y at.0 at.1.0
