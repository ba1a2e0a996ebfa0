-- The body of a string of several lines, read from the left.
use Rattle.std.specs.Prelude.{ℕ, ◌==◌, cond, Option, Some, None, List, [], ◌∷◌}
use Rattle.octets.specs.Ascii.{is_blank}
use Rattle.sieve_lex.specs.declared.multiline.BodyState.{BodyState}
use Rattle.sieve_lex.specs.declared.multiline.BodyState.TheVariants.{Opening, Comment, OpeningReturn, Start, Dot, DotReturn, Inside, Return, Done, Broken}
use Rattle.sieve_lex.specs.Inside.{onto}

-- where the next octet is
abbrev pub body_state_after : BodyState → ℕ → BodyState
body_state_after Opening b = cond (is_blank b) Opening (cond (b == 35) Comment (cond (b == 13) OpeningReturn (cond (b == 10) Start Broken)))
body_state_after Comment b = cond (b == 10) Start Comment
body_state_after OpeningReturn b = cond (b == 10) Start Broken
body_state_after Start b = cond (b == 46) Dot (cond (b == 13) Return (cond (b == 10) Start Inside))
body_state_after Dot b = cond (b == 13) DotReturn (cond (b == 10) Done Inside)
body_state_after DotReturn b = cond (b == 10) Done Broken
body_state_after Inside b = cond (b == 13) Return (cond (b == 10) Start Inside)
body_state_after Return b = cond (b == 10) Start Broken
body_state_after Done b = Done
body_state_after Broken b = Broken

-- what the octet adds to the value: a leading dot waits for what follows it
abbrev pub emitted : BodyState → ℕ → List ℕ
emitted Start b = cond (b == 46) [] (cond (b == 13) [] (cond (b == 10) (13 ∷ (10 ∷ [])) (b ∷ [])))
emitted Dot b = cond (b == 13) [] (cond (b == 10) [] (cond (b == 46) (46 ∷ []) (46 ∷ (b ∷ []))))
emitted Inside b = cond (b == 13) [] (cond (b == 10) (13 ∷ (10 ∷ [])) (b ∷ []))
emitted Return b = cond (b == 10) (13 ∷ (10 ∷ [])) []
emitted _ b = []

-- what the string stands for and what follows it, from any position in it on
abbrev pub body_from : BodyState → List ℕ → Option (List ℕ × List ℕ)
body_from Opening [] = None
body_from Comment [] = None
body_from OpeningReturn [] = None
body_from Start [] = None
body_from Dot [] = Some ([], [])
body_from DotReturn [] = None
body_from Inside [] = None
body_from Return [] = None
body_from Opening (b ∷ s) = onto (emitted Opening b) (body_from (body_state_after Opening b) s)
body_from Comment (b ∷ s) = onto (emitted Comment b) (body_from (body_state_after Comment b) s)
body_from OpeningReturn (b ∷ s) = onto (emitted OpeningReturn b) (body_from (body_state_after OpeningReturn b) s)
body_from Start (b ∷ s) = onto (emitted Start b) (body_from (body_state_after Start b) s)
body_from Dot (b ∷ s) = onto (emitted Dot b) (body_from (body_state_after Dot b) s)
body_from DotReturn (b ∷ s) = onto (emitted DotReturn b) (body_from (body_state_after DotReturn b) s)
body_from Inside (b ∷ s) = onto (emitted Inside b) (body_from (body_state_after Inside b) s)
body_from Return (b ∷ s) = onto (emitted Return b) (body_from (body_state_after Return b) s)
body_from Done s = Some ([], s)
body_from Broken s = None
