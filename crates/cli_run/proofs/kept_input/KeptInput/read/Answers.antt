-- What is kept stands for what was read so far, and for one piece more.
use Rattle.std.proofs.Common.{◌≡◌, ℕ, ◌+◌, ◌*◌, ◌≤◌, [], ◌++◌, Ok, length, take, drop, unwrap_or, vec_len, refl, sym, ap, subst, ◌∙◌, append-nil, IfSome, rules, arith}
use Rattle.std.proofs.lemmas.List.{with_items_is, places}
use Rattle.std.specs.Io.KnownBytes.{Consumes}
use Rattle.cli_run.specs.KeptInputs.{KeepsInput}
use Rattle.cli_run.specs.Streams.{ReadGoesOn, reads_end}
use Rattle.cli_run.specs.Streams.InTurn.{none_yet}
use Rattle.cli_run.proofs.FrontLemmas.{all_read, within_more}
use Rattle.cli_run.proofs.StreamLemmas.{nothing_read, one_turn, read_on, turns_as}
use Rattle.cli_run.proofs.kept_input.KeptInput.read.Goals as goal

pub loop-init : goal.loop-init
loop-init g c = record {
  kept = omega arith;
  room = omega (arith, c.new.ensures.len);
  small = (omega arith, tt);
  read = ([], nothing_read (g.R.Read.remaining c.args.input.now), refl);
  reads = none_yet;
}

pub returns-in-None-clause-ok : goal.returns-in-None-clause-ok
returns-in-None-clause-ok g c =
    let remaining = g.R.Read.remaining in
    let kept = c.loop.front.kept in
    let room = c.read_at.new.room in
    let old = c.loop.input in
    let new = c.read_at.new.input in
    let (came, before, keeps) = c.loop.invariant.read in
    let nothing : Consumes (remaining old) (remaining new) [] = subst (λ o. Consumes (remaining old) (remaining new) (take (unwrap_or o 0) (drop kept room))) c.in-None.is c.in_ok-more.ensures.read in
    let read : Consumes (remaining c.args.input.now) (remaining new) came = subst (Consumes (remaining c.args.input.now) (remaining new)) (append-nil came) (read_on _ _ _ came [] before nothing) in
    let front : take kept room ≡ take kept c.loop.front.octets.items = c.in_ok-more.ensures.front ∙ ap (take kept) c.as_mut_slice.ensures.value ∙ c.make_room.ensures.front in
    let whole : length room ≡ c.make_room.new.octets.len = search (rules, places) in
    let is_room = with_items_is c.make_room.new.octets room whole in
    let left = c.end.new.self in
    all_read (remaining c.args.input.now) (remaining new) came (λ text. KeepsInput text left.octets.items left.count) read (c.in_ok-more.ensures.end (ap Ok c.in-None.is))
    (subst (λ n. KeepsInput came left.octets.items n) (sym c.end.ensures.same) (subst (λ t. KeepsInput came t c.loop.front.count) (sym (c.end.ensures.kept ∙ ap (take kept) is_room ∙ front)) keeps))

pub loop-preserved : goal.loop-preserved
loop-preserved g c =
    let remaining = g.R.Read.remaining in
    let kept = c.loop.front.kept in
    let room = c.read_at.new.room in
    let more = c.in-Some.more in
    let read = c.in_ok-more.ensures in
    let old = c.loop.input in
    let new = c.read_at.new.input in
    let after = c.take.new.self in
    let (came, before, keeps) = c.loop.invariant.read in
    let is : unwrap_or c.in_ok-more.field-0 0 ≡ more = ap (λ o. unwrap_or o 0) c.in-Some.is in
    let goes : ReadGoesOn remaining old new = subst (λ o. IfSome o (λ count. ReadGoesOn remaining old new)) c.in-Some.is read.goes in
    let whole : length room ≡ c.make_room.new.octets.len = search (rules, places) in
    let fits : kept + more ≤ length room = subst (λ n. kept + n ≤ length room) is read.fits in
    let most : vec_len c.make_room.new.octets ≤ kept + 262144 = c.in_ok-make_room.ensures.most c.loop.invariant.room in
    let front : take kept room ≡ take kept c.loop.front.octets.items = read.front ∙ ap (take kept) c.as_mut_slice.ensures.value ∙ c.make_room.ensures.front in
    let piece : Consumes (remaining old) (remaining new) (take more (drop kept room)) = subst (λ n. Consumes (remaining old) (remaining new) (take n (drop kept room))) is read.read in
    let is_room = with_items_is c.make_room.new.octets room whole in
    let taken = subst (λ xs. KeepsInput came (take kept xs) c.loop.front.count → KeepsInput (came ++ take more (drop kept xs)) (take after.kept after.octets.items) after.count)
    is_room (c.take.ensures.keeps came) in
    let next = taken (subst (λ t. KeepsInput came t c.loop.front.count) (sym front) keeps) in
    let size : vec_len after.octets ≡ c.make_room.new.octets.len = ap vec_len c.take.ensures.same in
    record {
      kept = omega (arith, fits, whole, size, c.take.ensures.most);
      room = omega (arith, most, size, c.take.ensures.least);
      small = within_more (c.loop.counter * 524288 + 2 * more) ((c.loop.counter + 1) * 524288) after.kept after.count (omega (arith, fits, whole, most)) (c.take.ensures.within (c.loop.counter * 524288) c.loop.invariant.small);
      read = (came ++ take more (drop kept room), read_on _ _ _ came (take more (drop kept room)) before piece, next);
      reads = one_turn _ _ c.loop.counter old new c.loop.invariant.reads goes;
    }

pub returns-clause-failed : goal.returns-clause-failed
returns-clause-failed g c is =
    let remaining = g.R.Read.remaining in
    let all : c.loop.counter ≡ 40000000 = omega arith in
    (remaining c.loop.input, reads_end remaining c.args.input.now c.loop.input (turns_as _ _ _ _ _ all c.loop.invariant.reads))
