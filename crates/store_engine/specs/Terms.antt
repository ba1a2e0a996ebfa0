-- What a delivery is done under: what the host says of each one, and when it is.
use Rattle.sieve_exec.specs.declared.when.When.{When}
use Rattle.store_engine.specs.declared.terms.HostSettings.{HostSettings}
use Rattle.store_engine.specs.declared.terms.Terms.{Terms}
use Rattle.store_engine.specs.declared.terms.LentTerms.{LentTerms}

-- by a host, at a moment of its clock
abbrev pub terms : When → HostSettings → Terms
terms when host = record { when = when; host = host }

-- the terms that are lent
abbrev pub terms_of : LentTerms → Terms
terms_of lent = terms lent.when lent.host.now
