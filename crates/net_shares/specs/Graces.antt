-- For how long those whose account used much wait for the next command of one that was just served.
use Rattle.std.specs.Prelude.{ℕ, ◌+◌, ◌*◌, ◌-◌, ◌≤◌, ◌&&◌, min, nat_le, nat_lt, sum_by, Bool, List, [], ◌∷◌}
use Rattle.net_shares.specs.declared.grace.Grace.{Grace}

-- how many microseconds after the last act of an account that used little; a client on the same machine needs 100 to 1,000
abbrev pub grace_span : ℕ
grace_span = 2000

-- a microsecond of waiting is paid by four of acts of accounts that used much
abbrev pub grace_price : ℕ
grace_price = 4

-- no more is kept than pays 50 milliseconds of waiting
abbrev pub max_earned : ℕ
max_earned = 200000

-- at once it is waited for five milliseconds at most; what the system takes beyond that isn't counted
abbrev pub max_waited : ℕ
max_waited = 5000

-- acts of accounts that used much took that long
abbrev pub earned_by : ℕ → Grace → Grace
earned_by micros grace = record { earned = min (grace.earned + micros) max_earned }

-- that many microseconds were waited
abbrev pub paid_by : ℕ → Grace → Grace
paid_by micros grace = record { earned = grace.earned - grace_price * min micros max_waited }

-- one that used little was served that many microseconds ago, and a further wait is earned
abbrev pub may_wait : ℕ → Grace → Bool
may_wait passed grace = nat_lt passed grace_span && nat_le (grace_price * max_waited) grace.earned

-- ---- a life of it

-- acts of accounts that used much took so many microseconds, or so many were waited
pub data GraceStep : Type 0 where
  Acted : ℕ → GraceStep
  Waited : ℕ → GraceStep

abbrev pub grace_after : GraceStep → Grace → Grace
grace_after (Acted micros) grace = earned_by micros grace
grace_after (Waited micros) grace = paid_by micros grace

-- it is waited only where that is earned
abbrev pub IsEarned : GraceStep → Grace → Type 0
IsEarned (Acted micros) grace = Unit {0}
IsEarned (Waited micros) grace = grace_price * max_waited ≤ grace.earned

abbrev pub AreEarned : List GraceStep → Grace → Type 0
AreEarned [] grace = Unit {0}
AreEarned (step ∷ steps) grace = IsEarned step grace × AreEarned steps (grace_after step grace)

abbrev pub acted_for : GraceStep → ℕ
acted_for (Acted micros) = micros
acted_for (Waited micros) = 0

abbrev pub waited_for : GraceStep → ℕ
waited_for (Acted micros) = 0
waited_for (Waited micros) = min micros max_waited

-- whatever others do, four times what is waited is no more than what the acts took of those who are kept waiting, and what was earned
-- before
abbrev pub LateGetOn : Type 0
LateGetOn = (steps : List GraceStep) (grace : Grace) → AreEarned steps grace → grace_price * sum_by waited_for steps ≤ grace.earned + sum_by acted_for steps
