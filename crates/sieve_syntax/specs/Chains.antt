-- Things one after another.
use Rattle.std.specs.Prelude.{◌≡◌, List, [], ◌∷◌}

-- `from` is these things in turn, and then `to`: `one x from to` says it of one of them
abbrev pub Chain : {X L : Type 0} → (X → List L → List L → Type 0) → List X → List L → List L → Type 0
Chain one [] from to = from ≡ to
Chain {X} {L} one (x ∷ more) from to = (middle : List L) × (one x from middle × Chain one more middle to)
