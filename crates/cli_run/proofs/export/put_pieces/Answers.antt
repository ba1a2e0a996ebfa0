-- Three texts in turn.
use Rattle.std.proofs.Common.{◌≡◌, ◌++◌, Ok, Err, subst, rules}
use Rattle.cli_run.specs.Faults.{IsTextPut}
use Rattle.cli_run.proofs.StreamLemmas.{put_cut, put_then}
use Rattle.cli_run.proofs.export.put_pieces.Goals as goal

pub returns-in_err-put : goal.returns-in_err-put
returns-in_err-put g c =
    let old = g.W.Write.contents c.args.output.now in
    let new = g.W.Write.contents c.put.new.output in
    let line = c.args.line.now in
    let is : c.as_slice.result.now ≡ line.front = search rules in
    subst (λ t. IsTextPut c.from_residual.result old new (t ++ (line.last.now ++ line.back))) is
    (put_cut old new c.as_slice.result.now (line.last.now ++ line.back) c.in_err-put.field-0.0 c.from_residual.result (search rules) c.in_err-put.ensures)

pub returns-in_err-put-2 : goal.returns-in_err-put-2
returns-in_err-put-2 g c =
    let old = g.W.Write.contents c.args.output.now in
    let mid = g.W.Write.contents c.put.new.output in
    let new = g.W.Write.contents c.put-2.new.output in
    let line = c.args.line.now in
    let is : c.as_slice.result.now ≡ line.front = search rules in
    let fault = c.in_err-put-2.field-0.0 in
    let r = c.from_residual-in_err-put-2.result in
    put_then old mid new line.front (line.last.now ++ line.back) r (subst (IsTextPut (Ok tt) old mid) is c.in_ok-put.ensures)
    (put_cut mid new line.last.now line.back fault r (search rules) c.in_err-put-2.ensures)

pub returns : goal.returns
returns g c =
    let old = g.W.Write.contents c.args.output.now in
    let mid = g.W.Write.contents c.put.new.output in
    let last = g.W.Write.contents c.put-2.new.output in
    let new = g.W.Write.contents c.put-3.new.output in
    let line = c.args.line.now in
    let is : c.as_slice.result.now ≡ line.front = search rules in
    let end : c.as_slice-2.result.now ≡ line.back = search rules in
    put_then old mid new line.front (line.last.now ++ line.back) c.put-3.result (subst (IsTextPut (Ok tt) old mid) is c.in_ok-put.ensures)
    (put_then mid last new line.last.now line.back c.put-3.result c.in_ok-put-2.ensures (subst (IsTextPut c.put-3.result last new) end c.put-3.ensures))
