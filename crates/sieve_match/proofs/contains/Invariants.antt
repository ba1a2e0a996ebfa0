use Rattle.sieve_match.proofs.contains.Given as goal

abbrev pub ghosts-contains_uncounted : goal.ghosts-contains_uncounted
ghosts-contains_uncounted g a = record { name = a.blank.name; parts = a.blank.parts }
