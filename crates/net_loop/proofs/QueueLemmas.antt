-- Nothing that a wait told is forgotten.
use Rattle.std.proofs.Common.{◌≡◌, ℕ, List, [], ◌∷◌, ◌++◌, append-nil, sym, ◌∙◌, ap, subst}
use Rattle.net_loop.specs.declared.act.Act.{Act}
use Rattle.net_loop.specs.declared.act.Act.TheVariants.{Woke, Began}
use Rattle.net_loop.specs.declared.outcome.Wake.{Wake}
use Rattle.net_loop.specs.Moves.{Moment, ReadyAfter}
use Rattle.net_loop.specs.Rules.{Rules}
use Rattle.net_loop.specs.Turns.{TurnAllows}
use Rattle.net_loop.specs.Life.{acts_of, wakes_told, begun_in, NoneForgotten}

module _ {M N R : Type 0} (rules : Rules M N R) where
  -- one act, by what holds of those behind it
  behind : (m mid : Moment M N R) (act : Act N) (said : List ℕ) (acts : List (Act N)) (last : List Wake)
      → TurnAllows rules m.machine m.rest m.service act said mid.machine mid.rest mid.service → ReadyAfter m.service.ready.items act mid.service.ready.items
      → mid.service.ready.items ++ wakes_told acts ≡ begun_in acts ++ last → m.service.ready.items ++ wakes_told (act ∷ acts) ≡ begun_in (act ∷ acts) ++ last
  behind m mid (Woke within wakes) said acts last turns queues is =
      ap (λ ready. ready ++ (wakes ++ wakes_told acts)) turns.2.none ∙ (ap (λ ready. ready ++ wakes_told acts) (sym queues) ∙ is)
  behind m mid (Began wake) said acts last turns queues is = ap (λ ready. ready ++ wakes_told acts) queues ∙ ap (λ more. wake ∷ more) is
  behind m mid _ said acts last turns queues is = ap (λ ready. ready ++ wakes_told acts) (sym queues) ∙ is

  pub none_forgotten : NoneForgotten rules
  none_forgotten m n [] passes = append-nil m.service.ready.items ∙ ap (λ (k : Moment M N R). k.service.ready.items) (sym passes)
  none_forgotten m n (move ∷ moves) passes =
      let mid = passes.0 in
      let one = passes.1 in
      subst (λ act. m.service.ready.items ++ wakes_told (act ∷ acts_of moves) ≡ begun_in (act ∷ acts_of moves) ++ n.service.ready.items) passes.2
      (behind m mid one.act one.said (acts_of moves) n.service.ready.items one.turns one.queues (none_forgotten mid n moves passes.4))
