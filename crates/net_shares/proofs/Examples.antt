-- Right cases of the definitions, and near misses.
use Rattle.std.proofs.Common.{◌≡◌, ◌==◌, ℕ, Bool, true, false, List, [], ◌∷◌, filter, Option, Some, refl}
use Rattle.net_loop.specs.declared.outcome.Wake.{Wake}
use Rattle.net_loop.specs.declared.outcome.Wake.TheVariants.{Knock, Ready}
use Rattle.net_shares.specs.declared.time_account.TimeAccount.TheVariants.{Unauthenticated, Senders, User}
use Rattle.net_shares.specs.declared.share.Share.{Share}
use Rattle.net_shares.specs.Shares.{is_same_account, spent_in, with_spent, spent_by, with_share}
use Rattle.net_shares.specs.Graces.{earned_by, paid_by, may_wait}
use Rattle.net_shares.specs.Order.{all_wakes, early, next_late, served, waiting}

-- one that had 40 ms in the third slot and 20 in the one before
abbrev share : Share
share = record { account = User (97 ∷ []); slot = 3; spent = 40000; before = 20000 }

counts_both : spent_in 3 share ≡ 60000
counts_both = refl

counts_in_the_next : spent_in 4 share ≡ 40000
counts_in_the_next = refl

forgets_then : spent_in 5 share ≡ 0
forgets_then = refl

-- a slot later what it had in this one is what it had before
goes_on : spent_in 4 (with_spent 4 1000 share) ≡ 41000
goes_on = refl

of_that_account : spent_by (User (97 ∷ [])) 1999 (share ∷ []) ≡ 60000
of_that_account = refl

-- near misses: another account's, and that of all who aren't logged in
not_of_another : spent_by (User (98 ∷ [])) 1999 (share ∷ []) ≡ 0
not_of_another = refl

not_of_unauthenticated : spent_by Unauthenticated 1999 (share ∷ []) ≡ 0
not_of_unauthenticated = refl

not_the_same : is_same_account Unauthenticated Senders ≡ false
not_the_same = refl

-- of connections 1 to 3 the second had too much
abbrev second : Wake → Bool
second (Ready id) = id == 2
second (Knock kind) = false

goes_behind : early second (Ready 1 ∷ Ready 2 ∷ Ready 3 ∷ []) ≡ Ready 1 ∷ Ready 3 ∷ []
goes_behind = refl

waits_then : filter second (Ready 1 ∷ Ready 2 ∷ Ready 3 ∷ []) ≡ Ready 2 ∷ []
waits_then = refl

-- of two that had too much the first goes on, and the other waits
abbrev none_heavy : Wake → Bool
none_heavy wake = false

one_goes : next_late none_heavy (Ready 2 ∷ Ready 4 ∷ []) ≡ Some (Ready 2)
one_goes = refl

goes_alone : served [] (Some (Ready 2)) ≡ Ready 2 ∷ []
goes_alone = refl

the_other_waits : waiting [] (Some (Ready 2)) (Ready 2 ∷ Ready 4 ∷ []) ≡ Ready 4 ∷ []
the_other_waits = refl

-- if the first had far too much, the other goes; and the first, if there is none
the_other_goes : next_late second (Ready 2 ∷ Ready 4 ∷ []) ≡ Some (Ready 4)
the_other_goes = refl

all_heavy : next_late second (Ready 2 ∷ []) ≡ Some (Ready 2)
all_heavy = refl

-- near misses: where others go on, all of them keep waiting
others_go : served (Ready 1 ∷ []) (Some (Ready 2)) ≡ Ready 1 ∷ []
others_go = refl

keeps_waiting : waiting (Ready 1 ∷ []) (Some (Ready 2)) (Ready 2 ∷ []) ≡ Ready 2 ∷ []
keeps_waiting = refl

-- one of which a wait tells again is there once
told_once : all_wakes (Ready 2 ∷ []) (Ready 2 ∷ Ready 3 ∷ []) ≡ Ready 2 ∷ Ready 3 ∷ []
told_once = refl

-- an account that is known had more, and one that isn't is known from then on
abbrev another : Share
another = record { account = User (98 ∷ []); slot = 3; spent = 7; before = 0 }

more_of_the_second : with_share (User (98 ∷ [])) 3 5 (share ∷ another ∷ []) ≡ share ∷ record another { spent = 12 } ∷ []
more_of_the_second = refl

known_then : with_share Unauthenticated 3 5 (share ∷ []) ≡ share ∷ record { account = Unauthenticated; slot = 3; spent = 5; before = 0 } ∷ []
known_then = refl

-- a near miss: another account of a name that begins so had nothing
not_by_its_beginning : with_share (User (97 ∷ 98 ∷ [])) 3 5 (share ∷ []) ≡ share ∷ record { account = User (97 ∷ 98 ∷ []); slot = 3; spent = 5; before = 0 } ∷ []
not_by_its_beginning = refl

-- an act of 20 ms pays five waits of a millisecond, or one of five, and no more
pays_five : paid_by 5000 (earned_by 20000 (record { earned = 0 })) ≡ record { earned = 0 }
pays_five = refl

may_wait_then : may_wait 1999 (record { earned = 20000 }) ≡ true
may_wait_then = refl

-- near misses: two milliseconds after who used little was served, and where less is earned
not_later : may_wait 2000 (record { earned = 200000 }) ≡ false
not_later = refl

not_unpaid : may_wait 0 (record { earned = 19999 }) ≡ false
not_unpaid = refl

-- however long acts took, no more is kept than pays 50 ms
no_more : earned_by 1000000 (record { earned = 7 }) ≡ record { earned = 200000 }
no_more = refl
