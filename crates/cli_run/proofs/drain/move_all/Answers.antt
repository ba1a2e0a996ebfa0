-- Each turn moves one message more, or is the last.
use Rattle.std.proofs.Common.{◌≡◌, true, false, is_ok, Ok, Err, arith, ◌∙◌, ap, subst, sym, rules}
use Rattle.sqlite.specs.Held.{state}
use Rattle.cli_run.specs.Draining.{GrowsBy, AnyMoved, MovesMail}
use Rattle.cli_run.proofs.MoveLemmas.{none_moved, one_more, no_more, stops, most_moved}
use Rattle.cli_run.proofs.drain.move_all.Goals as goal

pub loop-moved-init : goal.loop-moved-init
loop-moved-init g c = record {
  moves = none_moved c.args.user.now c.args.folder.now g.T.MailSink.tells (g.T.MailSink.kept c.args.sink.now) (state g.S.Store c.args.store.now);
  stays = λ path at. at;
}

pub loop-moved-preserved : goal.loop-moved-preserved
loop-moved-preserved g c =
    let is : c.move_first.result ≡ Ok true = c.in_ok-move_first.was ∙ ap Ok c.if-not-branch.false in
    record {
      moves = one_more c.args.user.now c.args.folder.now g.T.MailSink.tells (g.T.MailSink.kept c.args.sink.now) (g.T.MailSink.kept c.loop-moved.sink) (g.T.MailSink.kept c.move_first.new.sink) c.loop-moved.moved
          (state g.S.Store c.args.store.now) (state g.S.Store c.loop-moved.store) (state g.S.Store c.move_first.new.store) c.loop-moved.invariant.moves c.move_first.result is c.move_first.ensures.moves;
      stays = λ path at. c.move_first.ensures.stays path (c.loop-moved.invariant.stays path at);
    }

pub returns-then-not-branch-clause-moves : goal.returns-then-not-branch-clause-moves
returns-then-not-branch-clause-moves g c =
    let is : c.move_first.result ≡ Ok false = c.in_ok-move_first.was ∙ ap Ok c.if-not-branch.true in
    no_more c.args.user.now c.args.folder.now g.T.MailSink.tells (g.T.MailSink.kept c.args.sink.now) (g.T.MailSink.kept c.loop-moved.sink) (g.T.MailSink.kept c.move_first.new.sink) c.loop-moved.moved
    (state g.S.Store c.args.store.now) (state g.S.Store c.loop-moved.store) (state g.S.Store c.move_first.new.store) c.loop-moved.invariant.moves c.move_first.result c.args.most is c.loop-moved-test.true c.move_first.ensures.moves

pub returns-in_err-move_first-clause-moves : goal.returns-in_err-move_first-clause-moves
returns-in_err-move_first-clause-moves g c =
    let fault = c.in_err-move_first.field-0.0 in
    let Grew = GrowsBy c.args.user.now c.args.folder.now g.T.MailSink.tells (g.T.MailSink.kept c.args.sink.now) (g.T.MailSink.kept c.move_first.new.sink) in
    let is : c.from_residual.result ≡ Err fault = search rules in
    subst (λ r. MovesMail c.args.user.now c.args.folder.now Grew (is_ok r) (AnyMoved c.args.user.now c.args.folder.now Grew c.args.most r) (state g.S.Store c.args.store.now) (state g.S.Store c.move_first.new.store)) (sym is)
    (stops c.args.user.now c.args.folder.now g.T.MailSink.tells (g.T.MailSink.kept c.args.sink.now) (g.T.MailSink.kept c.loop-moved.sink) (g.T.MailSink.kept c.move_first.new.sink) c.loop-moved.moved
    (state g.S.Store c.args.store.now) (state g.S.Store c.loop-moved.store) (state g.S.Store c.move_first.new.store) c.loop-moved.invariant.moves c.move_first.result fault fault c.args.most c.in_err-move_first.was c.loop-moved-test.true c.move_first.ensures.moves)

pub returns-clause-moves : goal.returns-clause-moves
returns-clause-moves g c =
    let Grew = GrowsBy c.args.user.now c.args.folder.now g.T.MailSink.tells (g.T.MailSink.kept c.args.sink.now) (g.T.MailSink.kept c.loop-moved.sink) in
    most_moved c.args.user.now c.args.folder.now Grew c.args.most c.loop-moved.moved (state g.S.Store c.args.store.now) (state g.S.Store c.loop-moved.store) (omega arith) c.loop-moved.invariant.moves
