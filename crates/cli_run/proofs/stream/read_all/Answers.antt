-- What is filled is what was read so far, and each read went on.
use Rattle.std.proofs.Common.{◌≡◌, ◌+◌, ◌≤◌, length, take, drop, unwrap_or, ap, subst, ◌∙◌, IfSome, rules, arith}
use Rattle.std.proofs.lemmas.List.{with_items_is, places}
use Rattle.std.specs.Io.KnownBytes.{Consumes}
use Rattle.cli_run.specs.Streams.{ReadGoesOn, reads_end}
use Rattle.cli_run.specs.Streams.InTurn.{none_yet}
use Rattle.cli_run.proofs.StreamLemmas.{filled_on, nothing_read, one_turn, turns_as}
use Rattle.cli_run.proofs.stream.read_all.Goals as goal

pub loop-init : goal.loop-init
loop-init g c = record { filled = omega arith; read = nothing_read (g.R.Read.remaining c.args.input.now); reads = none_yet }

pub loop-preserved : goal.loop-preserved
loop-preserved g c =
    let filled = c.loop.filled in
    let room = c.read_at.new.room in
    let more = c.in-Some.more in
    let read = c.in_ok-more.ensures in
    let old = c.loop.input in
    let new = c.read_at.new.input in
    let came : unwrap_or c.in_ok-more.field-0 0 ≡ more = ap (λ o. unwrap_or o 0) c.in-Some.is in
    let goes : ReadGoesOn g.R.Read.remaining old new = subst (λ o. IfSome o (λ count. ReadGoesOn g.R.Read.remaining old new)) c.in-Some.is read.goes in
    let whole : length room ≡ c.make_room.new.octets.len = search (rules, places) in
    let fits : filled + more ≤ length room = subst (λ n. filled + n ≤ length room) came read.fits in
    let front = read.front ∙ ap (take filled) c.as_mut_slice.ensures.value ∙ c.make_room.ensures.front in
    rw (with_items_is c.make_room.new.octets room whole) (record {
      filled = omega (arith, fits, whole);
      read = filled_on _ _ _ c.loop.octets.items room filled more front c.loop.invariant.read (subst (λ n. Consumes (g.R.Read.remaining old) (g.R.Read.remaining new) (take n (drop filled room))) came read.read);
      reads = one_turn _ _ c.loop.counter old new c.loop.invariant.reads goes;
    })

pub returns-clause-failed : goal.returns-clause-failed
returns-clause-failed g c is =
    let remaining = g.R.Read.remaining in
    let all : c.loop.counter ≡ 40000000 = omega arith in
    (remaining c.loop.input, reads_end remaining c.args.input.now c.loop.input (turns_as _ _ _ _ _ all c.loop.invariant.reads))
