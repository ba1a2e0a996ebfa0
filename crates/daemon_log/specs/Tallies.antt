-- What the line `status` says.
use Rattle.std.specs.Prelude.{◌≡◌, ℕ, ◌==◌, Bool, ◌&&◌, List, [], ◌∷◌, ◌++◌, codes, decimal}
use Rattle.daemon_log.specs.declared.tally.EventCounts.{EventCounts}
use Rattle.daemon_log.specs.Lines.{Pair, pair}

-- nothing was counted
abbrev pub is_no_count : EventCounts → Bool
is_no_count c = (c.delivered == 0) && (c.refused == 0) && (c.moved == 0) && (c.logins_failed == 0) && (c.commands == 0)

abbrev pub mail_pairs : EventCounts → List Pair
mail_pairs c = pair (codes "delivered") (decimal c.delivered) ∷ pair (codes "refused") (decimal c.refused) ∷ pair (codes "moved") (decimal c.moved) ∷ []

abbrev pub client_pairs : EventCounts → List Pair
client_pairs c = pair (codes "logins_failed") (decimal c.logins_failed) ∷ pair (codes "commands") (decimal c.commands) ∷ []

-- in microseconds
abbrev pub time_pairs : ℕ → ℕ → List Pair
time_pairs half most = pair (codes "p50_us") (decimal half) ∷ pair (codes "p99_us") (decimal most) ∷ []

-- each count, and the times
abbrev pub pairs_of : EventCounts → ℕ → ℕ → List Pair
pairs_of c half most = mail_pairs c ++ (client_pairs c ++ time_pairs half most)
