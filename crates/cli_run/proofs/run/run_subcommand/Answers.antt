-- A run tries a script, or does what a word does; its status is that of how it ended.
use Rattle.std.proofs.Common.{Ok, refl, sym, ◌∙◌, subst}
use Rattle.cli_run.specs.Draining.{HasRefused, sink_mails}
use Rattle.cli_run.specs.Faults.{cause_of, text_said}
use Rattle.cli_run.specs.Serving.{HasDenied, HasGiven}
use Rattle.cli_run.specs.Subcommands.{DoesSubcommand, run_reached, run_streams, surroundings}
use Rattle.cli_run.specs.Transitions.{from_to}
use Rattle.cli_run.proofs.RunLemmas.{ran, tried}
use Rattle.cli_run.proofs.StatusLemmas.{done_so}
use Rattle.cli_run.proofs.run.run_subcommand.Goals as goal

pub returns-in_default : goal.returns-in_default
returns-in_default g c =
    let told = c.conclude.ensures in
    let around = surroundings (HasDenied g.K.Keeper.refuses g.K.Keeper.will_wait) (HasRefused g.T.MailSink.refuses) c.args.clock c.args.random c.args.host in
    let end = run_reached (HasGiven g.K.Keeper.gives g.K.Keeper.will_wait) (g.T.MailSink.is_at c.act-done.new.sink) (cause_of (g.K.Keeper.said c.conclude.new.keeper) (text_said (g.T.MailSink.said c.act-done.new.sink))) in
    let input = from_to (g.R.Read.remaining c.args.input.now) (g.R.Read.remaining c.act-done.new.input) in
    let output = from_to (g.W.Write.contents c.args.output.now) (g.W.Write.contents c.act-done.new.output) in
    let errors = from_to (g.E.Write.contents c.args.errors.now) (g.E.Write.contents c.conclude.new.errors) in
    let sink = sink_mails g.T.MailSink.tells (g.T.MailSink.kept c.args.sink.now) (g.T.MailSink.kept c.act-done.new.sink) in
    let held = g.K.Keeper.holds c.args.keeper.now in
    let asked = c.args.asked in
    record {
      unread = λ is. c.act-done.ensures.unread (sym told.status ∙ is);
      reads = λ is. done_so c.act-done.result _ c.act-done.ensures.reads (sym told.status ∙ is);
      back = λ h. told.kept ∙ c.act-done.ensures.back h;
      runs = λ tells.
          ran around end (run_streams input output errors) sink c.conclude.result (from_to held (g.K.Keeper.holds c.conclude.new.keeper)) asked c.in_default.not-Try (record {
            ending = c.act-done.result;
            ended = told.status;
            unclosed = g.K.Keeper.unclosed c.act-done.new.keeper;
            told = told.told;
            did = subst (λ now. DoesSubcommand around input sink output asked c.act-done.result (from_to held now)) (sym (told.same tells)) (c.act-done.ensures.does tells);
            reached = c.act-done.ensures.reaches;
          });
      asked = λ h. told.asked;
    }

pub returns-in-Try-clause-runs : goal.returns-in-Try-clause-runs
returns-in-Try-clause-runs g c tells =
    let around = surroundings (HasDenied g.K.Keeper.refuses g.K.Keeper.will_wait) (HasRefused g.T.MailSink.refuses) c.args.clock c.args.random c.args.host in
    let end = run_reached (HasGiven g.K.Keeper.gives g.K.Keeper.will_wait) (g.T.MailSink.is_at c.args.sink.now) (cause_of (g.K.Keeper.said c.args.keeper.now) (text_said (g.T.MailSink.said c.args.sink.now))) in
    let input = from_to (g.R.Read.remaining c.args.input.now) (g.R.Read.remaining c.try_script.new.input) in
    let output = from_to (g.W.Write.contents c.args.output.now) (g.W.Write.contents c.try_script.new.output) in
    let errors = from_to (g.E.Write.contents c.args.errors.now) (g.E.Write.contents c.try_script.new.errors) in
    let kept = g.T.MailSink.kept c.args.sink.now in
    let held = g.K.Keeper.holds c.args.keeper.now in
    tried around end (run_streams input output errors) (sink_mails g.T.MailSink.tells kept kept) c.try_script.result (from_to held held) c.args.asked c.in-Try.asked c.in-Try.is (c.try_script.ensures.runs, ((λ told. refl), refl))
