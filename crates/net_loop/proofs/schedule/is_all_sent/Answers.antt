use Rattle.std.proofs.Common.{◌≡◌, ℕ, Bool, true, false, List, [], ◌∷◌, ◌++◌, refl}
use Rattle.net_loop.proofs.schedule.is_all_sent.Goals as goal

none_before : (unsent behind : List ℕ) → unsent ++ behind ≡ [] → unsent ≡ []
none_before [] behind is = refl
none_before (x ∷ unsent) behind is = let never : ⊥ = cc in absurd never

not_both : (b : Bool) → b ≡ false → b ≡ true → ⊥
not_both true f t = cc
not_both false f t = cc

pub returns-else-is_empty : goal.returns-else-is_empty
returns-else-is_empty c = (
  λ is. absurd (not_both c.is_empty.result c.if-is_empty.false is),
  λ none. c.is_empty.ensures.1 (none_before c.args.client.now.unsent c.args.client.now.behind none),
)
