-- Three texts in turn.
use Rattle.std.proofs.Common.{[], ◌∷◌, ◌++◌, Ok, Err, append_assoc, sym, subst, rules}
use Rattle.cli_run.specs.Faults.{IsTextPut}
use Rattle.cli_run.proofs.StreamLemmas.{put_then, put_cut}
use Rattle.cli_run.proofs.stream.put_line.Goals as goal

pub returns-in_err-put : goal.returns-in_err-put
returns-in_err-put g c =
    let old = g.W.Write.contents c.args.output.now in
    let new = g.W.Write.contents c.put.new.output in
    subst (IsTextPut c.from_residual.result old new) (sym (append_assoc c.args.word.now c.args.what.now (10 ∷ []))) (put_cut old new c.args.word.now (c.args.what.now ++ 10 ∷ []) c.in_err-put.field-0.0 c.from_residual.result (search rules) c.in_err-put.ensures)

pub returns-in_err-put-2 : goal.returns-in_err-put-2
returns-in_err-put-2 g c =
    let old = g.W.Write.contents c.args.output.now in
    let mid = g.W.Write.contents c.put.new.output in
    let new = g.W.Write.contents c.put-2.new.output in
    let fault = c.in_err-put-2.field-0.0 in
    put_cut old new (c.args.word.now ++ c.args.what.now) (10 ∷ []) fault c.from_residual-in_err-put-2.result (search rules) (put_then old mid new c.args.word.now c.args.what.now (Err fault) c.in_ok-put.ensures c.in_err-put-2.ensures)

pub returns : goal.returns
returns g c =
    let old = g.W.Write.contents c.args.output.now in
    let mid = g.W.Write.contents c.put.new.output in
    let last = g.W.Write.contents c.put-2.new.output in
    let new = g.W.Write.contents c.put-3.new.output in
    put_then old last new (c.args.word.now ++ c.args.what.now) (10 ∷ []) c.put-3.result (put_then old mid last c.args.word.now c.args.what.now (Ok tt) c.in_ok-put.ensures c.in_ok-put-2.ensures) c.put-3.ensures
