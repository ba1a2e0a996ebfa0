-- Moves in turn, and what is true of them.
use Rattle.std.proofs.Common.{◌≡◌, ◌⊎◌, inl, inr, ℕ, List, [], ◌∷◌, ◌++◌, None, refl, sym, ◌∙◌, ◌+◌, length, length-append, ap, subst, append_assoc, append-nil, arith}
use Rattle.std.specs.Ordering.{nat_cmp}
use Rattle.std.specs.BTreeMap as tree
use Rattle.std.specs.Map.{lookup}
use Rattle.net_loop.specs.declared.act.Act.{Act}
use Rattle.net_loop.specs.declared.act.Act.TheVariants.{Ended}
use Rattle.net_loop.specs.declared.service.Service.{Service}
use Rattle.net_loop.specs.declared.turn.Turn.TheVariants.{Free, Leaving}
use Rattle.net_loop.specs.Moves.{Moment, LoopMoves}
use Rattle.net_loop.specs.Rules.{Rules}
use Rattle.net_loop.specs.Talk.{client_of, ClientTalks}
use Rattle.net_loop.specs.Turns.{TurnAllows, MayEnd}
use Rattle.net_loop.specs.Life.{Move, acts_of, PassesMoves, Lives, Fresh, Told, nothing_told, told_by_act, told_by_moves, told_since_start, OneConnection, ConcernsNone, Apart, CausedBy, Farewell, EndsRight}
use Rattle.net_loop.proofs.TalkLemmas.{Agrees, front, agrees_act, farewell, untouched}
use Rattle.net_loop.proofs.EndLemmas.{cause_of}

-- ---- moves in turn

pub none_passed : {M N R : Type 0} (rules : Rules M N R) (m : Moment M N R) → Lives rules m m
none_passed rules m = record { moves = []; grows = sym (append-nil m.seen); passes = refl }

one_more : {M N R : Type 0} (rules : Rules M N R) (m : Moment M N R) (moves : List (Move N)) (mid n : Moment M N R) (one : LoopMoves rules mid n) → PassesMoves rules m moves mid → PassesMoves rules m (moves ++ (record { act = one.act; said = one.said }) ∷ []) n
one_more rules m [] mid n one passes = subst (λ k. PassesMoves rules k ((record { act = one.act; said = one.said }) ∷ []) n) passes (n, one, refl, refl, refl)
one_more rules m (move ∷ moves) mid n one passes = (passes.0, passes.1, passes.2, passes.3, one_more rules passes.0 moves mid n one passes.4)

acts-append : {N : Type 0} (a b : List (Move N)) → acts_of (a ++ b) ≡ acts_of a ++ acts_of b
acts-append [] b = refl
acts-append (x ∷ a) b = ap (λ l. x.act ∷ l) (acts-append a b)

pub then_one : {M N R : Type 0} (rules : Rules M N R) (m mid n : Moment M N R) → Lives rules m mid → LoopMoves rules mid n → Lives rules m n
then_one rules m mid n lives one = record {
  moves = lives.moves ++ (record { act = one.act; said = one.said }) ∷ [];
  grows = one.grows ∙ ap (λ l. l ++ one.act ∷ []) lives.grows ∙ append_assoc m.seen (acts_of lives.moves) (one.act ∷ []) ∙ ap (λ l. m.seen ++ l) (sym (acts-append lives.moves ((record { act = one.act; said = one.said }) ∷ [])));
  passes = one_more rules m lives.moves mid n one lives.passes;
}

pub then_none : {M N R : Type 0} (rules : Rules M N R) (m mid n : Moment M N R) → Lives rules m mid → n ≡ mid → Lives rules m n
then_none rules m mid n lives is = subst (λ k. Lives rules m k) (sym is) lives

-- each adds one act
pub one_longer : {N : Type 0} (first mid last : List (Act N)) (count : ℕ) (act : Act N) → length mid ≡ length first + count → last ≡ mid ++ act ∷ [] → length last ≡ length first + (count + 1)
one_longer first mid last count act before grows = omega (arith, before, ap length grows ∙ length-append mid (act ∷ []))

-- some first moves, and the others
pub cut : {M N R : Type 0} (rules : Rules M N R) (m : Moment M N R) (some rest : List (Move N)) (n : Moment M N R) → PassesMoves rules m (some ++ rest) n → (mid : Moment M N R) × PassesMoves rules m some mid × PassesMoves rules mid rest n
cut rules m [] rest n passes = (m, refl, passes)
cut rules m (move ∷ some) rest n passes =
    let more = cut rules passes.0 some rest n passes.4 in
    (more.0, (passes.0, passes.1, passes.2, passes.3, more.1), more.2)

-- ---- what is true of one

pub talks_of : {M N R : Type 0} (rules : Rules M N R) (m n : Moment M N R) (one : LoopMoves rules m n) (move : Move N) (id : ℕ) → one.act ≡ move.act → one.said ≡ move.said
    → ClientTalks m.service.moment id (client_of m.service id) move.act move.said (client_of n.service id)
talks_of rules m n one move id act said =
    subst (λ w. ClientTalks m.service.moment id (client_of m.service id) move.act w (client_of n.service id)) said
    (subst (λ a. ClientTalks m.service.moment id (client_of m.service id) a one.said (client_of n.service id)) act (one.talks id))

pub turns_of : {M N R : Type 0} (rules : Rules M N R) (m n : Moment M N R) (one : LoopMoves rules m n) (move : Move N) → one.act ≡ move.act → one.said ≡ move.said
    → TurnAllows rules m.machine m.rest m.service move.act move.said n.machine n.rest n.service
turns_of rules m n one move act said =
    subst (λ w. TurnAllows rules m.machine m.rest m.service move.act w n.machine n.rest n.service) said
    (subst (λ a. TurnAllows rules m.machine m.rest m.service a one.said n.machine n.rest n.service) act one.turns)

-- ---- one connection

agrees_on : {M N R : Type 0} (rules : Rules M N R) (m : Moment M N R) (moves : List (Move N)) (n : Moment M N R) (id : ℕ) (t : Told) → PassesMoves rules m moves n → Agrees t (client_of m.service id) → Agrees (told_by_moves id t moves) (client_of n.service id)
agrees_on rules m [] n id t passes agrees = subst (λ (k : Moment _ _ _). Agrees t (client_of k.service id)) (sym passes) agrees
agrees_on rules m (move ∷ moves) n id t passes agrees =
    agrees_on rules passes.0 moves n id (told_by_act id t move.act move.said) passes.4
    (agrees_act rules m.machine passes.0.machine m.rest passes.0.rest m.service passes.0.service id t move.act move.said agrees (talks_of rules m passes.0 passes.1 move id passes.2 passes.3) (turns_of rules m passes.0 passes.1 move passes.2 passes.3))

pub nobody : (s : Service) → s.clients.entries ≡ [] → (id : ℕ) → client_of s id ≡ None
nobody s none id = ap (λ es. lookup (tree.is_at (nat_cmp id)) es) none

agrees_all : {M N R : Type 0} (rules : Rules M N R) (m : Moment M N R) (moves : List (Move N)) (n : Moment M N R) (id : ℕ) → Fresh m.service → PassesMoves rules m moves n → Agrees (told_since_start id moves) (client_of n.service id)
agrees_all rules m moves n id fresh passes = agrees_on rules m moves n id nothing_told passes (subst (λ o. Agrees nothing_told o) (sym (nobody m.service fresh.none id)) ([], refl))

pub one_connection : {M N R : Type 0} (rules : Rules M N R) → OneConnection rules
one_connection rules = λ m n some rest fresh passes id.
    let first = cut rules m some rest n passes in
    front (told_since_start id some) (client_of first.0.service id) (agrees_all rules m some first.0 id fresh first.1)

apart_on : {M N R : Type 0} (rules : Rules M N R) (m n : Moment M N R) (moves : List (Move N)) → PassesMoves rules m moves n → (id : ℕ) → ConcernsNone id moves → client_of n.service id ≡ client_of m.service id
apart_on rules m n [] passes id none = ap (λ (k : Moment _ _ _). client_of k.service id) passes
apart_on rules m n (move ∷ moves) passes id none =
    apart_on rules passes.0 n moves passes.4 id none.1
    ∙ untouched m.service.moment id (client_of m.service id) (client_of passes.0.service id) move.act move.said (talks_of rules m passes.0 passes.1 move id passes.2 passes.3) none.0

pub apart : {M N R : Type 0} (rules : Rules M N R) → Apart rules
apart rules = λ m n moves passes id none. apart_on rules m n moves passes id none

-- ---- ends

last_cause : {M N R : Type 0} (rules : Rules M N R) (id kind : ℕ) (m : Moment M N R) (move : Move N) (moves : List (Move N)) (n : Moment M N R) → PassesMoves rules m (move ∷ moves) n → n.service.turn ≡ Leaving id kind → CausedBy id (move ∷ moves)
last_cause rules id kind m move [] n passes leaving = record {
  first = [];
  cause = move;
  last = refl;
  is = cause_of rules m.machine passes.0.machine m.rest passes.0.rest m.service passes.0.service id kind move.act move.said (turns_of rules m passes.0 passes.1 move passes.2 passes.3) (ap (λ (k : Moment _ _ _). k.service.turn) (sym passes.4) ∙ leaving);
}
last_cause rules id kind m move (next ∷ moves) n passes leaving =
    let more = last_cause rules id kind passes.0 next moves n passes.4 leaving in
    record { first = move ∷ more.first; cause = more.cause; last = ap (λ l. move ∷ l) more.last; is = more.is }

caused : {M N R : Type 0} (rules : Rules M N R) (id kind : ℕ) (m : Moment M N R) (moves : List (Move N)) (n : Moment M N R) → m.service.turn ≡ Free → PassesMoves rules m moves n → n.service.turn ≡ Leaving id kind → CausedBy id moves
caused rules id kind m [] n free passes leaving = let at : n.service.turn ≡ m.service.turn = ap (λ (k : Moment _ _ _). k.service.turn) passes in let never : ⊥ = cc in absurd never
caused rules id kind m (move ∷ moves) n free passes leaving = last_cause rules id kind m move moves n passes leaving

end_by : {M N R : Type 0} (rules : Rules M N R) (m mid : Moment M N R) (before : List (Move N)) (id kind : ℕ) → Fresh m.service → PassesMoves rules m before mid → MayEnd rules mid.machine mid.service id kind → CausedBy id before ⊎ Farewell (told_since_start id before)
end_by rules m mid before id kind fresh passes (inl leaving) = inl (caused rules id kind m before mid fresh.free passes leaving)
end_by rules m mid before id kind fresh passes (inr w) = inr (farewell rules mid.machine mid.service.moment w.0 id (told_since_start id before) (client_of mid.service id) (agrees_all rules m before mid id fresh passes) w.1.task)

pub ends_right : {M N R : Type 0} (rules : Rules M N R) → EndsRight rules
ends_right {M = M} {N = N} {R = R} rules = λ m n before after end id fresh passes is.
    let parts = cut rules m before (end ∷ after) n passes in
    let last = parts.2 in
    let turns : TurnAllows rules parts.0.machine parts.0.rest parts.0.service (Ended id) end.said last.0.machine last.0.rest last.0.service =
    subst (λ (a : Act N). TurnAllows rules parts.0.machine parts.0.rest parts.0.service a end.said last.0.machine last.0.rest last.0.service) is (turns_of rules parts.0 last.0 last.1 end last.2 last.3) in
    end_by rules m parts.0 before id turns.2.0 fresh parts.1 turns.2.1
