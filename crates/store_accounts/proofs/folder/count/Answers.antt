use Rattle.std.proofs.Common.{◌≡◌, ◌∙◌, ◌++◌, ◌+◌, ◌∷◌, [], ap, sym, nat_eq, true, false, rules}
use Rattle.std.specs.Cmp.Lexicographic.{pointwise}
use Rattle.store_accounts.specs.Tally.{counted}
use Rattle.store_accounts.proofs.TallyLemmas.{counted_last_same, counted_last_other, tested_same, tested_other}
use Rattle.store_accounts.proofs.folder.count.Goals as goal

pub returns-then-eq-clause-counted : goal.returns-then-eq-clause-counted
returns-then-eq-clause-counted c =
    let was : c.args.folders.now.items ≡ c.pop.new.self.items ++ c.in-Some.last ∷ [] = search rules in
    let tested : pointwise nat_eq c.in-Some.last.name c.args.name ≡ true = search rules in
    let now : c.push-then-eq.new.self.items ≡ c.pop.new.self.items ++ record { name = c.args.name; count = c.in-Some.last.count + 1 } ∷ [] = search rules in
    now ∙ sym (ap (λ l. counted l c.args.name) was ∙ counted_last_same c.pop.new.self.items c.in-Some.last c.args.name (tested_same c.in-Some.last.name c.args.name tested))

pub returns-clause-counted : goal.returns-clause-counted
returns-clause-counted c =
    let was : c.args.folders.now.items ≡ c.pop.new.self.items ++ c.in-Some.last ∷ [] = search rules in
    let tested : pointwise nat_eq c.in-Some.last.name c.args.name ≡ false = search rules in
    let now : c.push-3.new.self.items ≡ (c.pop.new.self.items ++ c.in-Some.last ∷ []) ++ record { name = c.args.name; count = 1 } ∷ [] = search rules in
    now ∙ sym (ap (λ l. counted l c.args.name) was ∙ counted_last_other c.pop.new.self.items c.in-Some.last c.args.name (tested_other c.in-Some.last.name c.args.name tested))
