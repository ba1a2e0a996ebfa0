-- How much time accounts used recently.
use Rattle.std.specs.Prelude.{ℕ, ◌+◌, ◌-◌, ◌/◌, ◌^◌, ◌==◌, min, nat_eq, nat_le, Bool, true, false, not, if◌then◌else◌, List, [], ◌∷◌, ◌++◌, length, filter, find, Option, Some, None, is_some}
use Rattle.std.specs.Cmp.Lexicographic.{pointwise}
use Rattle.net_shares.specs.declared.time_account.TimeAccount.{TimeAccount}
use Rattle.net_shares.specs.declared.time_account.TimeAccount.TheVariants.{Unauthenticated, Senders, User}
use Rattle.net_shares.specs.declared.share.Share.{Share}

abbrev pub is_same_account : TimeAccount → TimeAccount → Bool
is_same_account Unauthenticated Unauthenticated = true
is_same_account Senders Senders = true
is_same_account (User name) (User other) = pointwise nat_eq name other
is_same_account _ _ = false

-- the length of a slot in milliseconds, and how many accounts are known at most
abbrev pub slot_span : ℕ
slot_span = 500

abbrev pub max_accounts : ℕ
max_accounts = 1000

-- no sum is larger
abbrev pub most : ℕ
most = 2 ^ 64 - 1

-- what counts of a share in a slot: what was used in it and in the one before
abbrev pub spent_in : ℕ → Share → ℕ
spent_in slot share = if slot == share.slot then min (share.spent + share.before) most else (if (slot - 1) == share.slot then share.spent else 0)

-- a share with that many more microseconds, used in a slot
abbrev pub with_spent : ℕ → ℕ → Share → Share
with_spent slot micros share =
    if slot == share.slot
    then record share { spent = min (share.spent + micros) most }
    else record share { slot = slot; spent = micros; before = if (slot - 1) == share.slot then share.spent else 0 }

abbrev pub spent_of : Option Share → ℕ → ℕ
spent_of None slot = 0
spent_of (Some share) slot = spent_in slot share

-- of an account, at a moment in milliseconds
abbrev pub spent_by : TimeAccount → ℕ → List Share → ℕ
spent_by account now shares = spent_of (find (λ share. is_same_account share.account account) shares) (now / slot_span)

-- ---- an account had more

abbrev pub is_known : TimeAccount → List Share → Bool
is_known account shares = is_some (find (λ share. is_same_account share.account account) shares)

-- the first that passes is changed
abbrev pub change_first : {X : Type 0} → (X → Bool) → (X → X) → List X → List X
change_first which change [] = []
change_first which change (x ∷ xs) = if which x then change x ∷ xs else x ∷ change_first which change xs

-- a known account with that many more microseconds, in a slot
abbrev pub more_of : TimeAccount → ℕ → ℕ → List Share → List Share
more_of account slot micros shares = change_first (λ share. is_same_account share.account account) (with_spent slot micros) shares

-- if as many are known as may be, without those that used nothing recently
abbrev pub cleared : ℕ → List Share → List Share
cleared slot shares = if nat_le max_accounts (length shares) then filter (λ share. not (spent_in slot share == 0)) shares else shares

-- with an account that wasn't known, if there is room for it
abbrev pub with_new_share : TimeAccount → ℕ → ℕ → List Share → List Share
with_new_share account slot micros shares =
    if nat_le max_accounts (length shares) then shares else shares ++ record { account = account; slot = slot; spent = micros; before = 0 } ∷ []

-- with that many more microseconds of an account, in a slot
abbrev pub with_share : TimeAccount → ℕ → ℕ → List Share → List Share
with_share account slot micros shares =
    if is_known account shares then more_of account slot micros shares else with_new_share account slot micros (cleared slot shares)
