use Rattle.sieve_match.proofs.glob.matches.Given as goal

abbrev pub ghosts-matches_uncounted : goal.ghosts-matches_uncounted
ghosts-matches_uncounted g a = record { name = a.blank.name; parts = a.blank.parts }
