-- Each line is that of the next wait, and none is left at the end.
use Rattle.std.proofs.Common.{◌==◌, length, sym, ◌∙◌, ap}
use Rattle.std.proofs.lemmas.Bool.{true≢false}
use Rattle.std.specs.BTreeMap.{insert_entry}
use Rattle.smtp_queue.specs.Waits.{row_key_cmp}
use Rattle.smtp_queue.proofs.TextLemmas.{line_on, line_lost, lines_end}
use Rattle.smtp_queue.proofs.waits_file.lines_of.Goals as goal

pub returns-in_default-parts_of : goal.returns-in_default-parts_of
returns-in_default-parts_of c own book is =
    absurd (line_lost own c.loop-line.waits.map.entries c.loop-line.rest.now c.in-Some.line.front.now c.in-Some.line.rest.now (c.loop-line.invariant own book is) c.in-Some.ensures.found c.parts_of.result c.parts_of.ensures c.in_default-parts_of.is)

pub loop-line-preserved : goal.loop-line-preserved
loop-line-preserved c own book is =
    line_on own c.loop-line.waits.map.entries c.loop-line.rest.now c.in-Some.line.front.now c.in-Some.line.rest.now (c.loop-line.invariant own book is) c.in-Some.ensures.found book.sorted c.in-Some-parts_of.parts c.in-Some-parts_of.ensures
    c.in_ok-place.place c.in_ok-place.ensures c.put.new.self.map.entries (c.in_ok-put.ensures.entries ∙ ap (insert_entry row_key_cmp c.loop-line.waits.map.entries c.in_ok-place.place) c.wait.ensures)

pub returns-then-not-is_empty : goal.returns-then-not-is_empty
returns-then-not-is_empty c own book is =
    let end = lines_end own c.loop-line.waits.map.entries c.loop-line.rest.now (c.loop-line.invariant own book is) c.in_default.ensures.none in
    absurd (true≢false (sym (ap (λ rest. length rest == 0) end.0) ∙ sym c.is_empty.ensures ∙ c.if-not-is_empty.true))

pub returns : goal.returns
returns c own book is = sym (lines_end own c.loop-line.waits.map.entries c.loop-line.rest.now (c.loop-line.invariant own book is) c.in_default.ensures.none).1
