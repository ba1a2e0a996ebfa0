-- The last token of a class.
use Prim.Native.Nat.{zero}
use Rattle.std.proofs.Common.{◌≡◌, ◌∙◌, ◌+◌, ◌<◌, ℕ, suc, Bool, true, false, cond, List, [], ◌∷◌, length, take, get_or, Option, Some, None, refl, ap, arith, add-one}
use Rattle.std.specs.Option.{option_map}
use Rattle.std.specs.Prelude.{IfSome}
use Rattle.sieve_lex.specs.declared.token.Token.{Token}
use Rattle.sieve_places.specs.Picks.{is_of_class, last_index, or_here}
use Rattle.sieve_places.specs.declared.pick.TokenClass.{TokenClass}

later_one : (b : Bool) (o : Option ℕ) (i : ℕ) (here : Bool) → or_here (option_map suc (cond b (Some i) o)) here ≡ cond b (Some (suc i)) (or_here (option_map suc o) here)
later_one true o i here = refl
later_one false o i here = refl

last_index-suc : (class : TokenClass) (ts : List Token) (i : ℕ) (d : Token) → i < length ts → last_index class (take (suc i) ts) ≡ cond (is_of_class class (get_or ts i d)) (Some i) (last_index class (take i ts))
last_index-suc class [] i d within = absurd (omega arith)
last_index-suc class (t ∷ ts) zero d within = refl
last_index-suc class (t ∷ ts) (suc i) d within =
    ap (λ o. or_here (option_map suc o) (is_of_class class t)) (last_index-suc class ts i d (omega arith)) ∙ later_one (is_of_class class (get_or ts i d)) (last_index class (take i ts)) i (is_of_class class t)

-- one token more
pub last_index-more : (class : TokenClass) (ts : List Token) (i : ℕ) (d : Token) → i < length ts → last_index class (take (i + 1) ts) ≡ cond (is_of_class class (get_or ts i d)) (Some i) (last_index class (take i ts))
last_index-more class ts i d within = ap (λ n. last_index class (take n ts)) (add-one i) ∙ last_index-suc class ts i d within

-- what is below a number is below the next one
pub below_next : (o : Option ℕ) (i : ℕ) → IfSome o (λ at. at < i) → IfSome o (λ at. at < i + 1)
below_next None i h = tt
below_next (Some at) i h = omega arith
