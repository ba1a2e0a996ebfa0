-- What is waited is paid by what was earned.
use Rattle.std.proofs.Common.{◌≡◌, ℕ, ◌+◌, ◌*◌, ◌-◌, ◌≤◌, min, sum_by, List, [], ◌∷◌, refl, arith}
use Rattle.std.proofs.lemmas.List.Sums.{sum_by-cons}
use Rattle.net_shares.specs.Graces.{GraceStep, Acted, Waited, LateGetOn, acted_for, waited_for, earned_by, paid_by}

-- no more is kept than was there and is added
kept : (earned micros waits acts waits_all acts_all : ℕ) → waits_all ≡ 0 + waits → acts_all ≡ micros + acts
    → 4 * waits ≤ min (earned + micros) 200000 + acts → 4 * waits_all ≤ earned + acts_all
kept earned micros waits acts waits_all acts_all waited acted within = omega (arith, waited, acted, within)

-- what is taken off for a wait was there
taken : (earned micros waits acts waits_all acts_all : ℕ) → waits_all ≡ min micros 5000 + waits → acts_all ≡ 0 + acts
    → 20000 ≤ earned → 4 * waits ≤ (earned - 4 * min micros 5000) + acts → 4 * waits_all ≤ earned + acts_all
taken earned micros waits acts waits_all acts_all waited acted enough within = omega (arith, waited, acted, enough, within)

pub late_get_on : LateGetOn
late_get_on [] grace are = omega (arith)
late_get_on (Acted micros ∷ steps) grace are =
    kept grace.earned micros _ _ _ _ (sum_by-cons waited_for (Acted micros) steps) (sum_by-cons acted_for (Acted micros) steps) (late_get_on steps (earned_by micros grace) are.1)
late_get_on (Waited micros ∷ steps) grace are =
    taken grace.earned micros _ _ _ _ (sum_by-cons waited_for (Waited micros) steps) (sum_by-cons acted_for (Waited micros) steps) are.0 (late_get_on steps (paid_by micros grace) are.1)
