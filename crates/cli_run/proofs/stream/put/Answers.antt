-- A front is written so far, and then more of it, or no more.
use Rattle.std.proofs.Common.{◌≡◌, ◌+◌, drop, ap, ◌∙◌, refl, arith}
use Rattle.std.proofs.lemmas.List.{drop-drop}
use Rattle.cli_run.proofs.StreamLemmas.{nothing_written, one_turn, text_on, turns_as}
use Rattle.cli_run.specs.Streams.{WriteTakes, turns_end}
use Rattle.cli_run.specs.Streams.InTurn.{none_yet}
use Rattle.cli_run.proofs.stream.put.Goals as goal

pub loop-init : goal.loop-init
loop-init g c = record { written = (0, refl, nothing_written (g.W.Write.contents c.args.output.now)); writes = none_yet }

pub loop-preserved : goal.loop-preserved
loop-preserved g c =
    let (at, split, before) = c.loop.invariant.written in
    let n = c.in_ok-written.written in
    record {
      written = (at + n, c.split_at.ensures.back ∙ ap (drop n) split ∙ drop-drop n at c.args.text.now, text_on _ _ _ c.args.text.now c.loop.rest.now at n split before c.in_ok-written.ensures.ok);
      writes = one_turn _ _ c.loop.counter c.loop.output c.write_some.new.output c.loop.invariant.writes c.in_ok-written.ensures.takes;
    }

pub returns : goal.returns
returns g c =
    let contents = g.W.Write.contents in
    let all : c.loop.counter ≡ 18446744073709551615 = omega arith in
    (refl, ((c.loop.invariant.written.0, c.loop.invariant.written.2), turns_end (contents c.loop.output) (WriteTakes contents) c.args.output.now c.loop.output (turns_as _ _ _ _ _ all c.loop.invariant.writes)))
