-- The account was listed, and its text put, as far as that went.
use Rattle.std.proofs.Common.{◌≡◌, ◌++◌, ◌∙◌, List, ℕ, length, Ok, Err, OnOk, refl, subst, rules}
use Rattle.std.specs.List.{flat_map}
use Rattle.store_text.specs.Text.{account_body, head_text, part_line, sum_line}
use Rattle.store_text.specs.Writing.{HasWritten}
use Rattle.sqlite.specs.Held.{state}
use Rattle.cli_run.specs.Faults.{IsPrinted, IsTextPut}
use Rattle.cli_run.proofs.ExportLemmas.{text_printed, text_stopped, text_uncut, text_unended, text_unread}
use Rattle.cli_run.proofs.export.print_text.Goals as goal

pub returns-in_err-contents : goal.returns-in_err-contents
returns-in_err-contents g c =
    text_unread c.args.user.now (state g.S.Store c.args.store.now) (state g.S.Store c.list_contents.new.store) c.list_contents.result c.list_contents.ensures.reads c.in_err-contents.field-0.0 c.in_err-contents.was
    (g.W.Write.contents c.args.output.now) c.from_residual.result (search rules)

pub returns-in_err-put : goal.returns-in_err-put
returns-in_err-put g c =
    let old = g.W.Write.contents c.args.output.now in
    let new = g.W.Write.contents c.put.new.output in
    let head = c.in_ok-contents.contents.head in
    let fault = c.in_err-put.field-0.0 in
    let text : c.as_slice.result.now ≡ c.in_ok-writer.head = search rules in
    text_uncut c.args.user.now (state g.S.Store c.args.store.now) (state g.S.Store c.list_contents.new.store) c.list_contents.result c.list_contents.ensures.reads c.in_ok-contents.contents c.in_ok-contents.was c.in_ok-contents.ensures.named
    old new fault (subst (IsTextPut (Err fault) old new) (text ∙ c.in_ok-writer.ensures.0) c.in_err-put.ensures) c.from_residual-in_err-put.result (search rules)

pub returns-in_err-put_parts : goal.returns-in_err-put_parts
returns-in_err-put_parts g c =
    let contents = c.in_ok-contents.contents in
    let o0 = g.W.Write.contents c.args.output.now in
    let o1 = g.W.Write.contents c.put.new.output in
    let text : c.as_slice.result.now ≡ c.in_ok-writer.head = search rules in
    text_stopped c.args.user.now (state g.S.Store c.args.store.now) (state g.S.Store c.list_contents.new.store) c.list_contents.result c.list_contents.ensures.reads contents c.in_ok-contents.was c.in_ok-contents.ensures.named
    (state g.S.Store c.put_parts.new.store) (length contents.places) c.in_ok-writer.writer c.put_parts.new.writer o0 o1 (g.W.Write.contents c.put_parts.new.output)
    (subst (IsTextPut (Ok tt) o0 o1) (text ∙ c.in_ok-writer.ensures.0) c.in_ok-put.ensures) c.put_parts.result c.put_parts.ensures c.in_err-put_parts.field-0.0 c.in_err-put_parts.was c.from_residual-in_err-put_parts.result (search rules)

pub returns-in_err-end : goal.returns-in_err-end
returns-in_err-end g c =
    let contents = c.in_ok-contents.contents in
    let o0 = g.W.Write.contents c.args.output.now in
    let o1 = g.W.Write.contents c.put.new.output in
    let text : c.as_slice.result.now ≡ c.in_ok-writer.head = search rules in
    text_unended c.args.user.now (state g.S.Store c.args.store.now) (state g.S.Store c.list_contents.new.store) c.list_contents.result c.list_contents.ensures.reads contents c.in_ok-contents.was c.in_ok-contents.ensures.named
    (state g.S.Store c.put_parts.new.store) (length contents.places) c.in_ok-writer.writer c.put_parts.new.writer o0 o1 (g.W.Write.contents c.put_parts.new.output)
    (subst (IsTextPut (Ok tt) o0 o1) (text ∙ c.in_ok-writer.ensures.0) c.in_ok-put.ensures) c.put_parts.result c.put_parts.ensures c.in_ok-put_parts.was c.from_residual-in_err-end.result (search rules)

pub returns : goal.returns
returns g c =
    let contents = c.in_ok-contents.contents in
    let o0 = g.W.Write.contents c.args.output.now in
    let o1 = g.W.Write.contents c.put.new.output in
    let o2 = g.W.Write.contents c.put_parts.new.output in
    let o3 = g.W.Write.contents c.write_all.new.output in
    let w1 = c.in_ok-writer.writer in
    let w2 = c.put_parts.new.writer in
    let parts = c.put_parts.ensures.parts in
    let text : c.as_slice.result.now ≡ c.in_ok-writer.head = search rules in
    let last : c.as_slice-2.result.now ≡ c.in_ok-end.end = search rules in
    let hashed = subst (λ o. OnOk o ((front : List ℕ) → HasWritten w1 front → HasWritten w2 (front ++ flat_map part_line parts))) c.in_ok-put_parts.was c.put_parts.ensures.hashed in
    let sum = c.in_ok-end.ensures (account_body contents.head parts) (hashed (head_text contents.head) (subst (HasWritten w1) c.in_ok-writer.ensures.0 c.in_ok-writer.ensures.1)) in
    text_printed c.args.user.now (state g.S.Store c.args.store.now) (state g.S.Store c.list_contents.new.store) c.list_contents.result c.list_contents.ensures.reads contents c.in_ok-contents.was c.in_ok-contents.ensures.named
    (state g.S.Store c.put_parts.new.store) (length contents.places) w1 w2 o0 o1 o2 (subst (IsTextPut (Ok tt) o0 o1) (text ∙ c.in_ok-writer.ensures.0) c.in_ok-put.ensures) c.put_parts.result c.put_parts.ensures c.in_ok-put_parts.was refl
    o3 c.write_all.result (subst (IsPrinted c.write_all.result o2 o3) (last ∙ sum) c.write_all.ensures)
