use Rattle.std.proofs.Common.{◌∙◌, sym}
use Rattle.sqlite.specs.Held.{state}
use Rattle.maildir_moves.proofs.CarryLemmas.{takes}
use Rattle.maildir_moves.proofs.MoveLemmas.{still_reads}
use Rattle.maildir_moves.proofs.StepLemmas.{step_begin, step_out}
use Rattle.maildir_moves.proofs.TurnLemmas.{chosen_anew, trying}
use Rattle.maildir_moves.proofs.route.take_or_choose.Goals as goal

pub returns-in-Some-clause-steps : goal.returns-in-Some-clause-steps
returns-in-Some-clause-steps g c =
    step_out c.args.now c.args.route.now c.take_out.result c.take_out.new.route (state g.S.Store c.args.store.now) (state g.S.Store c.take_out.new.store) c.in-Some.at c.requires (sym c.due.ensures ∙ c.in-Some.is) c.take_out.ensures.takes

pub returns-in-Some-clause-turns : goal.returns-in-Some-clause-turns
returns-in-Some-clause-turns g c =
    trying c.args.now c.args.route.now c.take_out.result c.take_out.new.route (state g.S.Store c.args.store.now) (state g.S.Store c.take_out.new.store) c.in-Some.at c.requires (sym c.due.ensures ∙ c.in-Some.is) c.take_out.ensures.order

pub returns-in-Some-clause-sinks : goal.returns-in-Some-clause-sinks
returns-in-Some-clause-sinks g c =
    takes g.T.MailSink.tells g.T.MailSink.kept g.T.MailSink.unsettled g.T.MailSink.is_at g.T.MailSink.has_put g.T.MailSink.keeps_at c.args.route.now.load c.in-Some.at c.take_out.result c.take_out.new.route.load
    (state g.S.Store c.args.store.now) (state g.S.Store c.take_out.new.store) c.args.sink.now c.requires c.take_out.ensures.takes

pub returns-in-None-clause-moves : goal.returns-in-None-clause-moves
returns-in-None-clause-moves g c = still_reads c.choose.result (state g.S.Store c.args.store.now) (state g.S.Store c.choose.new.store) c.choose.ensures.still c.choose.ensures.reads

pub returns-in-None-clause-clean : goal.returns-in-None-clause-clean
returns-in-None-clause-clean g c = λ clean. (c.choose.ensures.reads clean).0

pub returns-in-None-clause-steps : goal.returns-in-None-clause-steps
returns-in-None-clause-steps g c =
    step_begin c.args.now c.args.route.now c.choose.result c.choose.new.route (state g.S.Store c.args.store.now) (state g.S.Store c.choose.new.store) c.requires (sym c.due.ensures ∙ c.in-None.is) c.choose.ensures.begins

pub returns-in-None-clause-turns : goal.returns-in-None-clause-turns
returns-in-None-clause-turns g c =
    chosen_anew c.args.now c.args.route.now c.choose.result c.choose.new.route (state g.S.Store c.args.store.now) (state g.S.Store c.choose.new.store) c.requires (sym c.due.ensures ∙ c.in-None.is) c.choose.ensures.turns
