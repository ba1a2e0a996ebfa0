use Rattle.sieve_match.proofs.places.contains_places.Given as goal

abbrev pub ghosts-contains_places_uncounted : goal.ghosts-contains_places_uncounted
ghosts-contains_places_uncounted a = record { name = a.blank.name; parts = a.blank.parts }
