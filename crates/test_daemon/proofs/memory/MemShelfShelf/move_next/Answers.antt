-- Messages move on, and the sink has them.
use Rattle.std.proofs.Common.{◌≡◌, ◌++◌, ◌∙◌, ap, refl, subst}
use Rattle.sqlite.proofs.Callers.{memory_is_clean}
use Rattle.maildir_moves.specs.Moving.{LeftAmong}
use Rattle.test_daemon.proofs.memory.MemShelfShelf.move_next.Goals as goal

pub returns-clause-moves : goal.returns-clause-moves
returns-clause-moves c = λ w has.
    let it = c.move_next.ensures.moves (memory_is_clean c.move_next.new.store) w has in
    (it.0, it.1, it.2.shown, it.2.left)

pub returns-clause-keeps : goal.returns-clause-keeps
returns-clause-keeps c = λ mails had.
    let more = c.move_next.ensures.carries.grows refl in
    let is : c.move_next.new.sink.messages ≡ mails ++ more.0 = more.1 ∙ ap (λ l. l ++ more.0) had.told in
    let relies = c.move_next.ensures.carries.relies had.relies in
    (more.0, record { told = is; relies = relies.0 }, subst (LeftAmong c.move_next.result) is (c.move_next.ensures.told had.relies refl), relies.1)
