use Rattle.sieve_exec.proofs.matching.matches_key.Goals as goal

pub returns-in-Octet : goal.returns-in-Octet
returns-in-Octet c = rw c.in-Octet.is c.matches_by_image.ensures

pub returns-in-AsciiCasemap : goal.returns-in-AsciiCasemap
returns-in-AsciiCasemap c = rw c.in-AsciiCasemap.is c.matches_by_image-in-AsciiCasemap.ensures
