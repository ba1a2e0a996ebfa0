use Rattle.std.proofs.Common.{◌≡◌, ◌∷◌, ◌++◌, ◌∙◌, [], true, false, sym, ap, subst, rules}
use Rattle.test_daemon.specs.Shelves.{IsLet, LetsOthers}
use Rattle.test_daemon.proofs.ShelfLemmas.{lets_then, lets_still}
use Rattle.test_daemon.proofs.fake_access.change_other.Goals as goal

pub returns-then-is_err-clause-lets : goal.returns-then-is_err-clause-lets
returns-then-is_err-clause-lets g c = λ s lets. subst (λ others. LetsOthers g.S.Shelf.view others s c.args.shelf.now) (sym c.reserve.ensures.items) lets

pub returns-then-let_other-clause-lets : goal.returns-then-let_other-clause-lets
returns-then-let_other-clause-lets g c = λ s lets.
    let others : c.push_reserved.new.self.items ≡ c.args.others.now.items ++ c.args.event ∷ [] = c.push_reserved.ensures.items ∙ ap (λ items. items ++ c.args.event ∷ []) c.reserve.ensures.items in
    let let_one : IsLet g.S.Shelf.view c.args.event true c.args.shelf.now c.let_other.new.self = search rules in
    subst (λ items. LetsOthers g.S.Shelf.view items s c.let_other.new.self) (sym others)
    (lets_then g.S.Shelf.view c.args.others.now.items c.args.event s c.args.shelf.now c.let_other.new.self c.requires lets let_one)

pub returns-else-let_other-clause-lets : goal.returns-else-let_other-clause-lets
returns-else-let_other-clause-lets g c = λ s lets.
    let let_one : IsLet g.S.Shelf.view c.args.event false c.args.shelf.now c.let_other.new.self = search rules in
    subst (λ others. LetsOthers g.S.Shelf.view others s c.let_other.new.self) (sym c.reserve.ensures.items)
    (lets_still g.S.Shelf.view c.args.others.now.items s c.args.shelf.now c.let_other.new.self lets let_one)
