-- Where a Maildir is, by example, and near misses.
use Rattle.std.proofs.Common.{◌≡◌, true, false, [], ◌∷◌, codes, Some, None, refl}
use Rattle.maildir_homes.specs.Homes.{IsOneDomain, home, is_of_domain}
use Rattle.maildir_homes.specs.Templates.{tell_apart}
use Rattle.maildir_homes.specs.declared.homes.HomePart.TheVariants.{Local}
use Rattle.maildir_homes.specs.declared.homes.MailHomes.{MailHomes}

-- `/home/%n` with `--domain x.org`
abbrev of_x : MailHomes
of_x = record { dir = codes "/home"; parts = Local ∷ []; domain = Some (codes "x.org") }

of-x : home of_x (codes "alice@x.org") ≡ Some (codes "/home/alice")
of-x = refl

-- near misses: another domain, one in other case, and none
of-another : home of_x (codes "alice@y.org") ≡ None
of-another = refl

of-capitals : home of_x (codes "alice@X.org") ≡ None
of-capitals = refl

of-none : home of_x (codes "alice") ≡ None
of-none = refl

-- the local part tells users of one domain apart; near misses: of all, and of a domain that is empty, which a name without `@` has
alone-in-one : tell_apart (Some (codes "x.org")) (Local ∷ []) ≡ true
alone-in-one = refl

alone-in-all : tell_apart None (Local ∷ []) ≡ false
alone-in-all = refl

alone-in-empty : tell_apart (Some []) (Local ∷ []) ≡ false
alone-in-empty = refl

empty-is-not-one : IsOneDomain (Some []) → ⊥
empty-is-not-one one = one refl

both-without-domain : (is_of_domain (Some []) (codes "alice") ≡ true) × (is_of_domain (Some []) (codes "alice@") ≡ true)
both-without-domain = (refl, refl)
