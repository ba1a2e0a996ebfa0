-- White space, read from left to right.
use Rattle.std.specs.Prelude.{ℕ, Bool, false, ◌==◌, ◌||◌, ◌&&◌, cond, Option, Some, None, List, [], ◌∷◌, slice_index}
use Rattle.sieve_lex.specs.declared.space.SpaceState.{SpaceState}
use Rattle.sieve_lex.specs.declared.space.SpaceState.TheVariants.{Between, Comment, Opening, Inner, Star}
use Rattle.sieve_lex.specs.Class.{is_white}
use Rattle.sieve_lex.specs.Text.{is_line_feed}

-- the text begins with a white octet, `#` or `/*`
abbrev pub begins_space : List ℕ → Bool
begins_space [] = false
begins_space (b ∷ s) = is_white b || (b == 35 || (b == 47 && slice_index s 0 == 42))

-- where the next octet is
abbrev pub space_state_after : SpaceState → ℕ → SpaceState
space_state_after Between b = cond (b == 35) Comment (cond (b == 47) Opening Between)
space_state_after Comment b = cond (is_line_feed b) Between Comment
space_state_after Opening b = Inner
space_state_after Inner b = cond (b == 42) Star Inner
space_state_after Star b = cond (b == 47) Between (cond (b == 42) Star Inner)

-- what follows white space, from any position in it on: none if a comment in brackets is not closed
abbrev pub space_from : SpaceState → List ℕ → Option (List ℕ)
space_from Between [] = Some []
space_from Comment [] = Some []
space_from Opening [] = None
space_from Inner [] = None
space_from Star [] = None
space_from Between (b ∷ s) = cond (begins_space (b ∷ s)) (space_from (space_state_after Between b) s) (Some (b ∷ s))
space_from Comment (b ∷ s) = space_from (space_state_after Comment b) s
space_from Opening (b ∷ s) = space_from (space_state_after Opening b) s
space_from Inner (b ∷ s) = space_from (space_state_after Inner b) s
space_from Star (b ∷ s) = space_from (space_state_after Star b) s
