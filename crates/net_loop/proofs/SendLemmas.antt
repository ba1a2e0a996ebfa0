-- What is taken off where something was sent.
use Rattle.std.proofs.Common.{◌≡◌, ℕ, List, ◌++◌, take, drop, sym, ◌∙◌, ap, append_assoc}
use Rattle.std.proofs.lemmas.List.{take-append-drop}

-- the front of the first piece, and what is left of that with what waits behind it, are what waited
pub taken_front : (waits piece unsent after behind : List ℕ) (count : ℕ) → unsent ≡ piece → unsent ++ behind ≡ waits → after ≡ drop count unsent
    → waits ≡ take count piece ++ (after ++ behind)
taken_front waits piece unsent after behind count first all left =
    sym all ∙ ap (λ l. l ++ behind) (sym (take-append-drop count unsent)) ∙ append_assoc (take count unsent) (drop count unsent) behind
    ∙ ap (λ p. take count p ++ (drop count unsent ++ behind)) first ∙ ap (λ l. take count piece ++ (l ++ behind)) (sym left)
