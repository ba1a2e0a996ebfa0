-- One part after another.
use Rattle.std.proofs.Common.{◌≡◌, ◌+◌, length, Ok, Err, subst, arith, rules}
use Rattle.sqlite.specs.Held.{state}
use Rattle.cli_run.specs.Exports.{PutsParts}
use Rattle.cli_run.proofs.PartLemmas.{no_parts, parts_stopped, parts_then}
use Rattle.cli_run.proofs.export.put_parts.Goals as goal
use Rattle.cli_run.specs.Transitions.{from_to}

pub loop-at-init : goal.loop-at-init
loop-at-init g c = no_parts c.args.contents.now c.args.writer.now (g.W.Write.contents c.args.output.now) (state g.S.Store c.args.store.now) c.requires.live

pub loop-at-preserved : goal.loop-at-preserved
loop-at-preserved g c =
    let out = g.W.Write.contents in
    let at = c.loop-at.at in
    let late = subst (PutsParts c.args.contents.now at (at + 1) (from_to c.loop-at.writer c.put_part.new.writer) (from_to (out c.loop-at.output) (out c.put_part.new.output)) (from_to (state g.S.Store c.loop-at.store) (state g.S.Store c.put_part.new.store))) c.in_ok-put_part.was c.put_part.ensures in
    parts_then c.args.contents.now 0 at (at + 1) c.args.writer.now c.loop-at.writer c.put_part.new.writer (out c.args.output.now) (out c.loop-at.output) (out c.put_part.new.output)
    (state g.S.Store c.args.store.now) (state g.S.Store c.loop-at.store) (state g.S.Store c.put_part.new.store) c.loop-at.invariant (Ok tt) late

pub returns-in_err-put_part : goal.returns-in_err-put_part
returns-in_err-put_part g c =
    let out = g.W.Write.contents in
    let at = c.loop-at.at in
    parts_stopped c.args.contents.now 0 at (at + 1) c.args.writer.now c.loop-at.writer c.put_part.new.writer (out c.args.output.now) (out c.loop-at.output) (out c.put_part.new.output)
    (state g.S.Store c.args.store.now) (state g.S.Store c.loop-at.store) (state g.S.Store c.put_part.new.store) c.loop-at.invariant c.put_part.result c.put_part.ensures
    (length c.args.contents.now.places) c.in_err-put_part.field-0.0 c.in_err-put_part.was c.from_residual.result (search rules)

pub returns : goal.returns
returns g c =
    let out = g.W.Write.contents in
    let all : c.loop-at.at ≡ length c.args.contents.now.places = omega arith in
    subst (λ n. PutsParts c.args.contents.now 0 n (from_to c.args.writer.now c.loop-at.writer) (from_to (out c.args.output.now) (out c.loop-at.output)) (from_to (state g.S.Store c.args.store.now) (state g.S.Store c.loop-at.store)) (Ok tt)) all c.loop-at.invariant
