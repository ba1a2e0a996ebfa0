use Rattle.sieve_match.proofs.places.places_of.Given as goal

abbrev pub ghosts-places_uncounted : goal.ghosts-places_uncounted
ghosts-places_uncounted g a = record { name = a.blank.name; parts = a.blank.parts }
