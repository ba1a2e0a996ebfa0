use Rattle.std.proofs.Common.{◌≡◌, length, sym, ap, ◌∙◌}
use Rattle.sieve_syntax.specs.View.{commands_view, branches_view}
use Rattle.sieve_code.specs.Instructions.{instructions_of}
use Rattle.sieve_code.specs.Layout.{branches_code, commands_code}
use Rattle.sieve_code.proofs.LayoutLemmas.{commands_last, branches_last, branch_written, length-seen}
use Rattle.sieve_code.proofs.emit.+commands.Goals as goal

pub emit_commands-loop-command-preserved : goal.emit_commands-loop-command-preserved
emit_commands-loop-command-preserved t c =
    let rows = instructions_of c.loop-command.rows.items in
    let left = c.next.new.self.iter.rest.now in
    ap (commands_code (commands_view left)) c.in_ok-emit_command.ensures
    ∙ sym (commands_last left c.in-Some.command.now rows)
    ∙ ap (λ commands. commands_code (commands_view commands) rows) (sym c.in-Some.ensures.steps)
    ∙ c.loop-command.invariant

pub emit_branches-loop-branch-preserved : goal.emit_branches-loop-branch-preserved
emit_branches-loop-branch-preserved t c =
    let rows = instructions_of c.loop-branch.rows.items in
    let left = c.next.new.self.iter.rest.now in
    let branch = c.in-Some.branch.now in
    let end = c.len-end.result in
    let next : c.len-next.result ≡ length rows = c.len-next.ensures ∙ c.loop-branch.rows.ok.0 ∙ sym (length-seen c.loop-branch.rows.items) in
    ap (branches_code (branches_view left) end) (branch_written branch _ end _ rows _ _ _ _ c.in_ok-put.ensures c.as_slice.ensures.value c.in_ok-emit_commands.ensures next c.in_ok-put-2.ensures c.in_ok-emit_test.ensures)
    ∙ sym (branches_last left branch end rows)
    ∙ ap (λ branches. branches_code (branches_view branches) end rows) (sym c.in-Some.ensures.steps)
    ∙ c.loop-branch.invariant
