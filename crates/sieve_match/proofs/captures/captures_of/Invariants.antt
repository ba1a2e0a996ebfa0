use Rattle.sieve_match.proofs.captures.captures_of.Given as goal

abbrev pub ghosts-captures_uncounted : goal.ghosts-captures_uncounted
ghosts-captures_uncounted g a = record { name = a.blank.name; parts = a.blank.parts }
