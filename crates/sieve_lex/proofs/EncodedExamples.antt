-- Encoded characters: each example of RFC 5228, 2.4.2.4, and near misses.
use Rattle.std.proofs.Common.{◌≡◌, [], ◌∷◌, ◌++◌, Some, None, refl}
use Rattle.std.specs.Prelude.{codes}
use Rattle.std.specs.Char.{encode_utf8}
use Rattle.sieve_lex.specs.Encoded.{decoded}

-- ---- the examples that stand there

sign : decoded (codes "$${hex:40}") ≡ Some (codes "$@")
sign = refl

blanks : decoded (codes "${hex: 40 }") ≡ Some (codes "@")
blanks = refl

capitals : decoded (codes "${HEX: 40}") ≡ Some (codes "@")
capitals = refl

not_closed : decoded (codes "${hex:40") ≡ Some (codes "${hex:40")
not_closed = refl

three_digits : decoded (codes "${hex:400}") ≡ Some (codes "${hex:400}")
three_digits = refl

once : decoded (codes "${hex:4${hex:30}}") ≡ Some (codes "${hex:40}")
once = refl

character : decoded (codes "${unicode:40}") ≡ Some (codes "@")
unfolding encode_utf8
character = refl

blank_before : decoded (codes "${ unicode:40}") ≡ Some (codes "${ unicode:40}")
blank_before = refl

any_case : (decoded (codes "${UNICODE:40}") ≡ Some (codes "@")) × ((decoded (codes "${UnICoDE:0000040}") ≡ Some (codes "@")) × (decoded (codes "${Unicode:40}") ≡ Some (codes "@")))
unfolding encode_utf8
any_case = (refl, (refl, refl))

no_digits : decoded (codes "${Unicode:Cool}") ≡ Some (codes "${Unicode:Cool}")
no_digits = refl

too_great : decoded (codes "${unicode:200000}") ≡ None
too_great = refl

surrogate : decoded (codes "${Unicode:DF01}") ≡ None
surrogate = refl

-- ---- near misses

-- the greatest character, and the next number; an error is one only where the sequence is one
greatest : (decoded (codes "${unicode:10FFFF}") ≡ Some (244 ∷ (143 ∷ (191 ∷ (191 ∷ []))))) × ((decoded (codes "${unicode:110000}") ≡ None) × (decoded (codes "${unicode:110000") ≡ Some (codes "${unicode:110000")))
unfolding encode_utf8
greatest = (refl, (refl, refl))

surrogates : (decoded (codes "${unicode:d7ff}") ≡ Some (237 ∷ (159 ∷ (191 ∷ [])))) × ((decoded (codes "${unicode:d800}") ≡ None) × ((decoded (codes "${unicode:dfff}") ≡ None) × (decoded (codes "${unicode:e000}") ≡ Some (238 ∷ (128 ∷ (128 ∷ []))))))
unfolding encode_utf8
surrogates = (refl, (refl, (refl, refl)))

-- each number must be one, and there must be one
each : (decoded (codes "${unicode:40 d800}") ≡ None) × ((decoded (codes "${hex:40 400}") ≡ Some (codes "${hex:40 400}")) × (decoded (codes "${hex: }${unicode:}") ≡ Some (codes "${hex: }${unicode:}")))
each = (refl, (refl, refl))

-- any octet, NUL among them; a line end parts numbers
octets : (decoded (codes "${hex:0 fF}") ≡ Some (0 ∷ (255 ∷ []))) × (decoded (codes "${hex:40" ++ (13 ∷ (10 ∷ codes "41}"))) ≡ Some (codes "@A"))
octets = (refl, refl)
