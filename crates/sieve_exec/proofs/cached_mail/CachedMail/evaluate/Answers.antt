use Rattle.sieve_exec.proofs.cached_mail.CachedMail.evaluate.Goals as goal

pub returns-in-Header-clause-truth : goal.returns-in-Header-clause-truth
returns-in-Header-clause-truth c = rw c.in-Header.is c.header_holds.ensures.truth

pub returns-in-Address-clause-truth : goal.returns-in-Address-clause-truth
returns-in-Address-clause-truth c = rw c.in-Address.is c.address_holds.ensures.truth
