-- Words at faults, by example: right cases, and near misses.
use Rattle.std.proofs.Common.{◌≡◌, ℕ, List, [], ◌∷◌, codes, true, false, Some, None, refl}
use Rattle.sieve_lex.specs.declared.fault.FaultKind.TheVariants as kind
use Rattle.sieve_lex.specs.declared.token.Content.{Content}
use Rattle.sieve_lex.specs.declared.token.Content.TheVariants.{Identifier, Mark}
use Rattle.sieve_lex.specs.declared.token.Mark.TheVariants.{Semicolon}
use Rattle.sieve_lex.specs.declared.token.Token.{Token}
use Rattle.sieve_places.specs.Picks.{pick_at, picked}
use Rattle.sieve_places.specs.Places.{columns_of, place_shown, place_of_token, shown_word}
use Rattle.sieve_places.specs.Spread.{spread_text, token_on}

abbrev text : List ℕ
text = codes "keep; frob;"

abbrev at_word : Content → ℕ → ℕ → Token
at_word c from to = record { content = c; start = from; end = to; line = 1 }

abbrev frob : Token
frob = at_word (Identifier (codes "frob")) 6 10

abbrev tokens : List Token
tokens = at_word (Identifier (codes "keep")) 0 4 ∷ at_word (Mark Semicolon) 4 5 ∷ frob ∷ at_word (Mark Semicolon) 10 11 ∷ []

each_on_a_line : spread_text text tokens ≡ codes "\nkeep\n;\nfrob\n;"
each_on_a_line = refl

third : token_on text 4 tokens ≡ Some 2
third = refl

-- near misses: before the first one, and behind the last one
none_before : token_on text 1 tokens ≡ None
none_before = refl

none_behind : token_on text 6 tokens ≡ None
none_behind = refl

unknown_one : pick_at kind.UnknownCommand (at_word (Identifier (codes "keep")) 0 4 ∷ at_word (Mark Semicolon) 4 5 ∷ frob ∷ []) true ≡ Some (picked true 2)
unfolding pick_at
unknown_one = refl

-- near miss: the end may be what isn't expected
at_the_end : pick_at kind.Unexpected (frob ∷ []) false ≡ Some (picked false 0)
unfolding pick_at
at_the_end = refl

seventh : columns_of (codes "keep; ") ≡ 7
seventh = refl

after_an_end : columns_of (codes "keep;\n ") ≡ 2
after_an_end = refl

shown : place_shown (place_of_token text true frob) ≡ codes " \"frob\""
unfolding place_shown shown_word
shown = refl
