-- Sums over numbers, and over the entries of a map.
use Rattle.std.proofs.Common.{◌≡◌, ◌∙◌, ℕ, zero, suc, ◌+◌, ◌<◌, ◌≤◌, Bool, true, false, cond, List, [], ◌∷◌, Option, Some, None, refl, sym, subst, arith}
use Rattle.std.specs.Cmp.{eq_by_cmp_equiv, nat_cmp_total}
use Rattle.std.specs.Map.{lookup}
use Rattle.std.specs.Ordering.{nat_cmp}
use Rattle.std.specs.BTreeMap as tree
use Rattle.lmtp_dialogue.specs.Receivers.{held_by}
use Rattle.store_engine.specs.Hosts.{SessionMap}
use Rattle.lmtp_connections.specs.declared.connection.LmtpConnection.{LmtpConnection}
use Rattle.managesieve_sessions.specs.Clients.{Client}
use Rattle.net_loop.specs.Talk.{is_same_id}
use Rattle.net_loop.proofs.TalkLemmas.{one_number}
use Rattle.daemon_core.specs.Bounds.{unread_of, unread_in, held_in, held}
use Rattle.daemon_core.specs.DaemonRules.{client_state_at}
use Rattle.daemon_core.specs.Holding.{sum_below}
use Rattle.daemon_core.specs.MailRules.{lmtp_connection_at}
use Rattle.daemon_core.specs.ClientStates.{client_at}
use Rattle.daemon_core.specs.declared.mail.MailDaemon.{MailDaemon}
use Rattle.daemon_core.specs.declared.client_state.ClientState.{ClientState}

pub sums_less : (n : ℕ) (f g : ℕ → ℕ) → ((k : ℕ) → f k ≤ g k) → sum_below n f ≤ sum_below n g
sums_less zero f g less = omega arith
sums_less (suc n) f g less = omega (arith, less n, sums_less n f g less)

sum_plus : (n : ℕ) (f g : ℕ → ℕ) → sum_below n (λ k. f k + g k) ≡ sum_below n f + sum_below n g
sum_plus zero f g = refl
sum_plus (suc n) f g = omega (arith, sum_plus n f g)

pub sums_nothing : (n : ℕ) (f : ℕ → ℕ) → ((k : ℕ) → f k ≡ 0) → sum_below n f ≡ 0
sums_nothing zero f none = refl
sums_nothing (suc n) f none = omega (arith, none n, sums_nothing n f none)

-- so many at one number alone
abbrev only : ℕ → ℕ → ℕ → ℕ
only id more k = cond (is_same_id id k) more 0

none_before : (id n more : ℕ) → n < id → only id more n ≡ 0
none_before id n more less = by (is_same_id id n) refl
  where
    by : (b : Bool) → is_same_id id n ≡ b → cond b more 0 ≡ 0
    by true is = absurd (omega (arith, one_number id n is, less))
    by false is = refl

sum_before : (n id more : ℕ) → n ≤ id → sum_below n (only id more) ≡ 0
sum_before zero id more less = refl
sum_before (suc n) id more less = omega (arith, none_before id n more (omega (arith, less)), sum_before n id more (omega (arith, less)))

sum_only : (n id more : ℕ) → sum_below n (only id more) ≤ more
sum_only zero id more = omega arith
sum_only (suc n) id more = by (is_same_id id n) refl (sum_only n id more)
  where
    by : (b : Bool) → is_same_id id n ≡ b → sum_below n (only id more) ≤ more → cond b more 0 + sum_below n (only id more) ≤ more
    by true is less = omega (arith, sum_before n id more (omega (arith, one_number id n is)))
    by false is less = omega (arith, less)

-- at one number so many more
pub sums_one : (n : ℕ) (f g : ℕ → ℕ) (id more : ℕ) → ((k : ℕ) → is_same_id id k ≡ false → f k ≤ g k) → f id ≤ g id + more → sum_below n f ≤ sum_below n g + more
sums_one n f g id more others its =
    omega (arith, sums_less n f (λ k. g k + only id more k) (λ k. by k (is_same_id id k) refl), sum_plus n g (only id more), sum_only n id more)
  where
    by : (k : ℕ) (b : Bool) → is_same_id id k ≡ b → f k ≤ g k + cond b more 0
    by k true is = subst (λ j. f j ≤ g j + more) (one_number id k is) its
    by k false is = omega (arith, others k is)

pub same_turned : (n s : ℕ) → is_same_id n s ≡ is_same_id s n
same_turned n s = (eq_by_cmp_equiv nat_cmp_total).symm n s

-- ---- what connections hold, with what is their own

abbrev pub full_client : Option ClientState → Option Client → ℕ
full_client None o = 0
full_client (Some state) o = unread_of o

abbrev pub full_connection : Option LmtpConnection → ℕ
full_connection None = 0
full_connection (Some connection) = held_by connection.receiver

abbrev pub full_at : MailDaemon → ℕ → ℕ
full_at d id = full_client (client_state_at d.daemon id) (client_at d.daemon.clients.sessions id) + full_connection (lmtp_connection_at d id)

abbrev client_in : SessionMap → List (ℕ × ClientState) → ℕ → ℕ
client_in sessions entries id = full_client (lookup (tree.is_at (nat_cmp id)) entries) (client_at sessions id)

clients_sum : (n : ℕ) (sessions : SessionMap) (entries : List (ℕ × ClientState)) → sum_below n (client_in sessions entries) ≤ unread_in sessions entries
clients_sum n sessions [] = omega (arith, sums_nothing n (client_in sessions []) (λ k. refl))
clients_sum n sessions (it ∷ entries) =
    omega (arith, sums_one n (client_in sessions (it ∷ entries)) (client_in sessions entries) it.0 (unread_of (client_at sessions it.0)) others (its (lookup (tree.is_at (nat_cmp it.0)) (it ∷ entries))), clients_sum n sessions entries)
  where
    others : (k : ℕ) → is_same_id it.0 k ≡ false → client_in sessions (it ∷ entries) k ≤ client_in sessions entries k
    others k other =
        subst (λ b. full_client (cond b (Some it.1) (lookup (tree.is_at (nat_cmp k)) entries)) (client_at sessions k) ≤ client_in sessions entries k) (sym (same_turned k it.0 ∙ other)) (omega arith)

    its : (o : Option ClientState) → full_client o (client_at sessions it.0) ≤ client_in sessions entries it.0 + unread_of (client_at sessions it.0)
    its None = omega arith
    its (Some state) = omega arith

abbrev connection_in : List (ℕ × LmtpConnection) → ℕ → ℕ
connection_in entries id = full_connection (lookup (tree.is_at (nat_cmp id)) entries)

connections_sum : (n : ℕ) (entries : List (ℕ × LmtpConnection)) → sum_below n (connection_in entries) ≤ held_in entries
connections_sum n [] = omega (arith, sums_nothing n (connection_in []) (λ k. refl))
connections_sum n (it ∷ entries) =
    omega (arith, sums_one n (connection_in (it ∷ entries)) (connection_in entries) it.0 (held_by it.1.receiver) others its, connections_sum n entries)
  where
    others : (k : ℕ) → is_same_id it.0 k ≡ false → connection_in (it ∷ entries) k ≤ connection_in entries k
    others k other = subst (λ b. full_connection (cond b (Some it.1) (lookup (tree.is_at (nat_cmp k)) entries)) ≤ connection_in entries k) (sym (same_turned k it.0 ∙ other)) (omega arith)

    its : connection_in (it ∷ entries) it.0 ≤ connection_in entries it.0 + held_by it.1.receiver
    its = subst (λ b. full_connection (cond b (Some it.1) (lookup (tree.is_at (nat_cmp it.0)) entries)) ≤ connection_in entries it.0 + held_by it.1.receiver) (sym ((eq_by_cmp_equiv nat_cmp_total).refl it.0)) (omega arith)

-- all that is held is counted
pub full_sum : (n : ℕ) (d : MailDaemon) → sum_below n (full_at d) ≤ held d
full_sum n d =
    omega (arith, sum_plus n (client_in d.daemon.clients.sessions d.daemon.states.entries) (connection_in d.lmtp_connections.entries), clients_sum n d.daemon.clients.sessions d.daemon.states.entries, connections_sum n d.lmtp_connections.entries)
