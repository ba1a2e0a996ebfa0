-- The part was read, and its line put, as far as that went.
use Rattle.std.proofs.Common.{◌≡◌, ◌+◌, ◌++◌, ℕ, List, rules}
use Rattle.store_export.specs.Reading.{IsNextPart}
use Rattle.store_text.specs.Text.{part_line}
use Rattle.store_text.specs.Writing.{line_octets}
use Rattle.sqlite.specs.Held.{state}
use Rattle.cli_run.proofs.PartLemmas.{part_put, part_unput, part_unread}
use Rattle.cli_run.proofs.export.put_part.Goals as goal

pub returns-in_err-part : goal.returns-in_err-part
returns-in_err-part g c =
    let old = state g.S.Store c.args.store.now in
    part_unread c.args.contents.now c.args.at (c.args.at + 1) c.args.writer.now c.args.writer.now (g.W.Write.contents c.args.output.now) old (state g.S.Store c.read_part.new.store)
    c.args.contents.now.head.owner.name (λ p a. IsNextPart c.args.contents.now c.args.at p old.now a) c.read_part.result c.in_err-part.field-0.0 c.in_err-part.was c.read_part.ensures c.from_residual.result (search rules)

pub returns-in_err-line : goal.returns-in_err-line
returns-in_err-line g c =
    let old = state g.S.Store c.args.store.now in
    part_unput c.args.contents.now c.args.at (c.args.at + 1) c.args.writer.now c.part.new.self (g.W.Write.contents c.args.output.now) old (state g.S.Store c.read_part.new.store)
    c.args.contents.now.head.owner.name (λ p a. IsNextPart c.args.contents.now c.args.at p old.now a) c.read_part.result c.in_ok-part.part c.in_ok-part.was c.read_part.ensures c.from_residual-in_err-line.result (search rules)

pub returns : goal.returns
returns g c =
    part_put c.args.contents.now c.args.at c.args.writer.now c.part.new.self (g.W.Write.contents c.args.output.now) (g.W.Write.contents c.put_pieces.new.output) (state g.S.Store c.args.store.now) (state g.S.Store c.read_part.new.store)
    c.read_part.result c.in_ok-part.part c.in_ok-part.was c.read_part.ensures (line_octets c.in_ok-line.line) c.in_ok-line.ensures.line c.in_ok-line.ensures.written c.put_pieces.result c.put_pieces.ensures
