-- Who goes on, and who waits after the others.
use Rattle.std.specs.Prelude.{◌≡◌, ◌⊎◌, ℕ, ◌==◌, nat_lt, nat_eq, Bool, true, false, not, List, [], ◌∷◌, ◌++◌, filter, find, Option, Some, None}
use Rattle.std.specs.List.{list_any}
use Rattle.std.specs.Ordering.{nat_cmp}
use Rattle.std.specs.BTreeMap as tree
use Rattle.net_loop.specs.declared.outcome.Wake.{Wake}
use Rattle.net_loop.specs.declared.outcome.Wake.TheVariants.{Knock, Ready}
use Rattle.net_shares.specs.Shares.{spent_by}
use Rattle.net_shares.specs.declared.time_account.TimeAccount.{TimeAccount}
use Rattle.net_shares.specs.declared.share.Share.{Share}
use Rattle.net_shares.specs.declared.turns.Scheduler.{Scheduler}

-- the wake is of this connection
abbrev pub is_of : ℕ → Wake → Bool
is_of id (Ready other) = other == id
is_of id (Knock kind) = false

-- how many microseconds an account may have used recently
abbrev pub max_spent : ℕ
max_spent = 50000

abbrev pub spent_too_much : List Share → ℕ → Option TimeAccount → Bool
spent_too_much shares now None = false
spent_too_much shares now (Some account) = nat_lt max_spent (spent_by account now shares)

-- the wake is of a connection whose account used more
abbrev pub is_late_wake : List Share → tree.BTreeMap ℕ TimeAccount → ℕ → Wake → Bool
is_late_wake shares accounts now (Ready id) = spent_too_much shares now (tree.get nat_cmp accounts id)
is_late_wake shares accounts now (Knock kind) = false

abbrev pub late_in : Scheduler → ℕ → Wake → Bool
late_in turns now wake = is_late_wake turns.shares.entries.items turns.accounts now wake

-- the account of a connection used more
abbrev pub late_at : Scheduler → ℕ → ℕ → Bool
late_at turns now id = late_in turns now (Ready id)

-- how many microseconds an account may have used recently before it waits behind the others that used too much
abbrev pub max_late : ℕ
max_late = 200000

abbrev pub spent_far_too_much : List Share → ℕ → Option TimeAccount → Bool
spent_far_too_much shares now None = false
spent_far_too_much shares now (Some account) = nat_lt max_late (spent_by account now shares)

-- the wake is of a connection whose account used more than that
abbrev pub is_heavy_wake : List Share → tree.BTreeMap ℕ TimeAccount → ℕ → Wake → Bool
is_heavy_wake shares accounts now (Ready id) = spent_far_too_much shares now (tree.get nat_cmp accounts id)
is_heavy_wake shares accounts now (Knock kind) = false

abbrev pub heavy_in : Scheduler → ℕ → Wake → Bool
heavy_in turns now wake = is_heavy_wake turns.shares.entries.items turns.accounts now wake

abbrev pub same_wake : Wake → Wake → Bool
same_wake (Ready id) (Ready other) = nat_eq id other
same_wake (Knock kind) (Knock other) = nat_eq kind other
same_wake _ _ = false

-- whether one of these is the same wake
abbrev pub is_among : List Wake → Wake → Bool
is_among wakes wake = list_any (λ other. same_wake other wake) wakes

-- the new wakes that didn't wait
abbrev pub others : List Wake → List Wake → List Wake
others waited told = filter (λ wake. not (is_among waited wake)) told

-- those that waited, and those others, so each once
abbrev pub all_wakes : List Wake → List Wake → List Wake
all_wakes waited told = waited ++ others waited told

-- who goes on: of all, those whose account used little recently, in their order
abbrev pub early : (Wake → Bool) → List Wake → List Wake
early late all = filter (λ wake. not (late wake)) all

-- one that waits goes on: the first whose account didn't use much more than others may; if there is none, the first
abbrev pub this_or_first : Option Wake → List Wake → Option Wake
this_or_first (Some wake) waited = Some wake
this_or_first None [] = None
this_or_first None (wake ∷ waited) = Some wake

abbrev pub next_late : (Wake → Bool) → List Wake → Option Wake
next_late heavy waited = this_or_first (find (λ wake. not (heavy wake)) waited) waited

-- it does so only where nobody else goes on
abbrev pub served : List Wake → Option Wake → List Wake
served [] None = []
served [] (Some wake) = wake ∷ []
served (wake ∷ told) next = wake ∷ told

-- who keeps waiting then: the others
abbrev pub waiting : List Wake → Option Wake → List Wake → List Wake
waiting [] None waited = waited
waiting [] (Some wake) waited = filter (λ other. not (same_wake other wake)) waited
waiting (wake ∷ told) next waited = waited

-- if there is no memory to tell them apart, all go on, or only the new ones
abbrev pub Unordered : List Wake → List Wake → List Wake → List Wake → Type 0
Unordered waited told left ready =
    ((ready ≡ all_wakes waited told) × (left ≡ [])) ⊎ ((ready ≡ others waited told) × (left ≡ waited))

-- nobody is forgotten: each of all goes on or waits
pub record PutsOffLate (now : ℕ) (before : Scheduler) (told : List Wake) (after : Scheduler) (ready : List Wake) : Type 0 where
  pub go : ready ≡ early (late_in before now) (all_wakes before.put_off.items told)
  pub wait : after.put_off.items ≡ filter (late_in before now) (all_wakes before.put_off.items told)
  pub shares : after.shares ≡ before.shares
  pub accounts : after.accounts ≡ before.accounts

-- one that waits goes on only where nobody else does
pub record LetsOneGo (now : ℕ) (before : Scheduler) (told : List Wake) (after : Scheduler) (ready : List Wake) : Type 0 where
  pub go : ready ≡ served told (next_late (heavy_in before now) before.put_off.items)
  pub wait : after.put_off.items ≡ waiting told (next_late (heavy_in before now) before.put_off.items) before.put_off.items
