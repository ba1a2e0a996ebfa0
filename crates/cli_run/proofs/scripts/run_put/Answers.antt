-- All was read, the script was put to the machine, and what came of that is told.
use Rattle.std.proofs.Common.{◌≡◌, Err, ap, ◌∙◌, subst, sym, rules}
use Rattle.store_engine.specs.declared.answer.Answer.TheVariants.{Stored}
use Rattle.store_engine.specs.declared.event.Event.TheVariants.{DoUpkeep}
use Rattle.store_engine.specs.declared.upkeep.Upkeep.TheVariants.{StoreScript}
use Rattle.cli_run.specs.Faults.{memory}
use Rattle.cli_run.specs.Serving.{HasDenied}
use Rattle.cli_run.specs.Streams.{InputFailed, ReadsAll}
use Rattle.cli_run.specs.Subcommands.{IsPutEvent, DeniedAtEnd, TellsVerdict}
use Rattle.cli_run.proofs.PutLemmas.{put_as_event, put_told}
use Rattle.cli_run.proofs.WordLemmas.{event_hindered, event_unmade, put_at_end, no_memory, unread}
use Rattle.cli_run.proofs.scripts.run_put.Goals as goal

pub returns-in_err-octets-clause-does : goal.returns-in_err-octets-clause-does
returns-in_err-octets-clause-does g c tells =
    let asked = c.args.asked in
    let Denied = DeniedAtEnd (HasDenied g.K.Keeper.refuses g.K.Keeper.will_wait asked.location) (g.R.Read.remaining c.read_all.new.input) in
    let Own = IsPutEvent asked.user.now asked.script.now asked.activate (g.R.Read.remaining c.args.input.now) in
    let out = g.W.Write.contents c.args.output.now in
    let held = g.K.Keeper.holds c.args.keeper.now in
    let fault = c.in_err-octets.field-0.0 in
    put_as_event Denied Own out out held held c.from_residual.result
    (event_hindered InputFailed ⊥ Denied Own out held fault c.from_residual.result (search rules) (unread InputFailed ⊥ Denied fault c.in_err-octets.ensures.err (λ is. c.in_err-octets.ensures.failed is)))

pub returns-in_err-name-clause-does : goal.returns-in_err-name-clause-does
returns-in_err-name-clause-does g c tells =
    let asked = c.args.asked in
    let Denied = DeniedAtEnd (HasDenied g.K.Keeper.refuses g.K.Keeper.will_wait asked.location) (g.R.Read.remaining c.read_all.new.input) in
    let Own = IsPutEvent asked.user.now asked.script.now asked.activate (g.R.Read.remaining c.args.input.now) in
    let out = g.W.Write.contents c.args.output.now in
    let held = g.K.Keeper.holds c.args.keeper.now in
    put_as_event Denied Own out out held held c.from_residual-in_err-name.result
    (event_hindered InputFailed ⊥ Denied Own out held memory c.from_residual-in_err-name.result (search rules) (no_memory InputFailed ⊥ Denied))

pub returns-in_err-verdict-clause-does : goal.returns-in_err-verdict-clause-does
returns-in_err-verdict-clause-does g c tells =
    let asked = c.args.asked in
    let Kept = HasDenied g.K.Keeper.refuses g.K.Keeper.will_wait asked.location in
    let left = g.R.Read.remaining c.read_all.new.input in
    let given = g.R.Read.remaining c.args.input.now in
    let Own = IsPutEvent asked.user.now asked.script.now asked.activate given in
    let out = g.W.Write.contents c.args.output.now in
    let held = g.K.Keeper.holds c.args.keeper.now in
    let new = g.K.Keeper.holds c.store_script.new.keeper in
    let fault = c.in_err-verdict.field-0.0 in
    let text = c.from_vec.result in
    let act = StoreScript c.in_ok-name.name text asked.activate in
    let event = DoUpkeep c.as_bytes-2.result.now act in
    let whom : c.as_bytes-2.result.now ≡ asked.user.now = search rules in
    let named : c.in_ok-name.name ≡ asked.script.now = search rules in
    let read : text ≡ c.in_ok-octets.octets.items = search rules in
    let same : event ≡ DoUpkeep asked.user.now (StoreScript asked.script.now text asked.activate) = ap (λ u. DoUpkeep u act) whom ∙ ap (λ n. DoUpkeep asked.user.now (StoreScript n text asked.activate)) named in
    let own : Own event = record { text = text; read = subst (ReadsAll given) (sym read) c.in_ok-octets.ensures.ok; same = same } in
    put_as_event (DeniedAtEnd Kept left) Own out out held new c.from_residual-in_err-verdict.result
    (event_unmade InputFailed ⊥ (DeniedAtEnd Kept left) Own {X = Unit {0}} event own (λ done. Stored) held new out (λ no. no) fault c.from_residual-in_err-verdict.result (search rules)
    (put_at_end {X = Unit {0}} Kept left c.in_ok-octets.ensures.end event (λ done. Stored) (Err fault) held new (c.in_err-verdict.ensures.puts tells)))

pub returns-clause-does : goal.returns-clause-does
returns-clause-does g c tells =
    let asked = c.args.asked in
    let Kept = HasDenied g.K.Keeper.refuses g.K.Keeper.will_wait asked.location in
    let left = g.R.Read.remaining c.read_all.new.input in
    let given = g.R.Read.remaining c.args.input.now in
    let Own = IsPutEvent asked.user.now asked.script.now asked.activate given in
    let old = g.W.Write.contents c.args.output.now in
    let out = g.W.Write.contents c.tell_verdict.new.output in
    let held = g.K.Keeper.holds c.args.keeper.now in
    let new = g.K.Keeper.holds c.store_script.new.keeper in
    let text = c.from_vec.result in
    let name = c.in_ok-name.name in
    let act = StoreScript name text asked.activate in
    let event = DoUpkeep c.as_bytes-2.result.now act in
    let whom : c.as_bytes-2.result.now ≡ asked.user.now = search rules in
    let named : name ≡ asked.script.now = search rules in
    let read : text ≡ c.in_ok-octets.octets.items = search rules in
    let same : event ≡ DoUpkeep asked.user.now (StoreScript asked.script.now text asked.activate) = ap (λ u. DoUpkeep u act) whom ∙ ap (λ n. DoUpkeep asked.user.now (StoreScript n text asked.activate)) named in
    let own : Own event = record { text = text; read = subst (ReadsAll given) (sym read) c.in_ok-octets.ensures.ok; same = same } in
    let line : c.as_bytes-3.result.now ≡ name = c.as_bytes-3.ensures.value ∙ sym named in
    put_told (DeniedAtEnd Kept left) Own old out held new Kept c.as_bytes-2.result.now name text asked.activate own c.in_ok-verdict.verdict (c.in_ok-verdict.ensures.puts tells) c.tell_verdict.result
    (subst (λ n. TellsVerdict n c.in_ok-verdict.verdict old out c.tell_verdict.result) line c.tell_verdict.ensures.tells)
