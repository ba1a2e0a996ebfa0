-- Right cases of the definitions, and near misses.
use Rattle.std.proofs.Common.{codes, refl}
use Rattle.store_accounts.specs.declared.next.QueueKey.{QueueKey}
use Rattle.smtp_queue.specs.DueRows.{IsKeyAfter}

abbrev ann : QueueKey
ann = record { user = codes "ann"; id = 7 }

-- a later number of the same user, a later user; not the place itself, and no earlier user with a higher number
later_number : IsKeyAfter ann (record { user = codes "ann"; id = 8 })
later_number = refl

later_user : IsKeyAfter ann (record { user = codes "bob"; id = 1 })
later_user = refl

not_itself : IsKeyAfter ann ann → ⊥
not_itself is = let never = is in cc

not_earlier : IsKeyAfter ann (record { user = codes "abe"; id = 9 }) → ⊥
not_earlier is = let never = is in cc
