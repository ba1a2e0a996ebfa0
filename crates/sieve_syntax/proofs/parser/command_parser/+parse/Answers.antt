use Rattle.std.proofs.Common.{◌≡◌, ap, sym, ◌∙◌, ◌++◌, ◌∷◌, [], map, append_assoc, arith, rules, ◌-◌}
use Rattle.std.proofs.Common.{refl}
use Rattle.std.proofs.lemmas.List.{map-append, append-nil}
use Rattle.std.proofs.lemmas.Result.{err_from_is_err_and}
use Rattle.sieve_syntax.specs.Capabilities.{granted_by}
use Rattle.sieve_syntax.specs.Tree.{yes}
use Rattle.sieve_syntax.specs.View.{branch_view, command_view, commands_view}
use Rattle.sieve_syntax.specs.Steps.{TakesCommand, IsStop}
use Rattle.sieve_syntax.proofs.Chains.{chain_more}
use Rattle.sieve_syntax.proofs.FaultLemmas.{fault_on}
use Rattle.sieve_syntax.proofs.ViewLemmas.{view-If, view-Branch, push-branch, push-else}
use Rattle.sieve_syntax.proofs.BlockLemmas.{commands_stop, commands_end, reads_longer, block_no_inside, block_no_close, block_found, if_no_first, if_no_elsifs, if_no_else, if_only, if_takes, branch_no_test, branch_no_block, branch_found, elsifs_end, elsifs_fail, elsifs_more, elsif_shorter, else_fails, else_only, else_none}
use Rattle.sieve_syntax.proofs.parser.command_parser.+parse.Goals as goal
use Rattle.sieve_syntax.proofs.parser.command_parser.+parse.Goals.{read_else-then-take_else+in_ok-block+in_ok-push, read_else-else-take_else}

pub read_branch-returns-in_err-test : goal.read_branch-returns-in_err-test
read_branch-returns-in_err-test t c =
    let h = c.in_err-test.ensures in
    let p = err_from_is_err_and c.from_residual.result c.from_residual.ensures.1 in
    rw (p.1, p.2) (fault_on _ _ _ (branch_no_test (granted_by c.args.granted.now) c.args.room _) h)

pub read_branch-returns-in_err-block : goal.read_branch-returns-in_err-block
read_branch-returns-in_err-block t c =
    let h = c.in_ok-test.ensures in
    let e = c.in_err-block.ensures in
    let p = err_from_is_err_and c.from_residual-in_err-block.result c.from_residual-in_err-block.ensures.1 in
    rw (p.1, p.2) (fault_on _ _ _ (branch_no_block (granted_by c.args.granted.now) c.args.room _ _ _ h.1) e)

pub read_branch-returns : goal.read_branch-returns
read_branch-returns t c =
    let h = c.in_ok-test.ensures in
    let e = c.in_ok-block.ensures in
    rw view-Branch (branch_found (granted_by c.args.granted.now) c.args.room _ _ _ h.1 h.0 _ _ e)

pub read_else-returns-in_err-block : goal.read_else-returns-in_err-block
read_else-returns-in_err-block t c =
    let opens = rw c.if-take_else.true at c.take_else.ensures in
    let e = c.in_err-block.ensures in
    let p = err_from_is_err_and c.from_residual.result c.from_residual.ensures.1 in
    rw (p.1, p.2) (fault_on _ _ _ (else_fails (granted_by c.args.granted.now) c.args.room _ _ opens) e)

pub read_else-returns : goal.read_else-returns
read_else-returns t c =
    elim c.if-take_else.branch [
      | read_else-then-take_else+in_ok-block+in_ok-push w ↦
          let opens = rw w.if-take_else.true at c.take_else.ensures in
          let added = push-else c.args.branches.items _ w.in_ok-block.block w.in_ok-push.ensures.items in
          rw (w.branches-is, w.reader-is) (
            ((yes, commands_view w.in_ok-block.block.items) ∷ [], (added, (_, (opens, (refl, w.in_ok-block.ensures.0))))),
            λ last to takes.
                let found = else_only (granted_by c.args.granted.now) c.args.room _ _ opens (commands_view w.in_ok-block.block.items) _ w.in_ok-block.ensures.1 last to takes in
                (added ∙ ap (λ l. map branch_view c.args.branches.items ++ l) (sym found.0), found.1),
          )
      | read_else-else-take_else w ↦
          let kept = rw w.if-take_else.false at c.take_else.ensures in
          let none = sym (append-nil (map branch_view c.args.branches.items)) in
          rw (w.branches-is, w.reader-is) (
            ([], (none, (sym kept.1, kept.0 c.requires))),
            λ last to takes.
                let found = else_none (granted_by c.args.granted.now) c.args.room _ (kept.0 c.requires) last to takes in
                (none ∙ ap (λ l. map branch_view c.args.branches.items ++ l) (sym found.0), found.1 ∙ sym kept.1),
          )
    ]

pub read_elsifs-returns-in_err-read_branch : goal.read_elsifs-returns-in_err-read_branch
read_elsifs-returns-in_err-read_branch t c =
    let l = c.elsifs in
    let opens = rw c.elsifs-test.true at c.take_elsif.ensures in
    let e = c.in_err-read_branch.ensures in
    let p = err_from_is_err_and c.from_residual.result c.from_residual.ensures.1 in
    rw (p.1, p.2) (fault_on _ _ _ (elsifs_fail (granted_by c.args.granted.now) c.args.room _ l.invariant.0 l.reader l.invariant.1.1 _ opens) e)

pub read_elsifs-elsifs-smaller : goal.read_elsifs-elsifs-smaller
read_elsifs-elsifs-smaller t c =
    let l = c.elsifs in
    let opens = rw c.elsifs-test.true at c.take_elsif.ensures in
    elsif_shorter (granted_by c.args.granted.now) c.args.room _ l.invariant.0 l.reader l.invariant.1.1 _ opens _ _ c.in_ok-read_branch.ensures.0

pub read_elsifs-elsifs-preserved : goal.read_elsifs-elsifs-preserved
read_elsifs-elsifs-preserved t c =
    let l = c.elsifs in
    let opens = rw c.elsifs-test.true at c.take_elsif.ensures in
    let found = c.in_ok-read_branch.ensures in
    let made = branch_view c.in_ok-read_branch.field-0 in
    let started : map branch_view l.branches.items ≡ map branch_view c.args.branches.items ++ l.invariant.0 = l.invariant.1.0 in (
      l.invariant.0 ++ made ∷ [],
      (
        push-branch l.branches.items _ c.in_ok-read_branch.field-0 c.in_ok-push.ensures.items ∙ ap (λ bs. bs ++ made ∷ []) started ∙ append_assoc (map branch_view c.args.branches.items) l.invariant.0 (made ∷ []),
        elsifs_more (granted_by c.args.granted.now) c.args.room _ l.invariant.0 l.reader l.invariant.1.1 _ opens made _ found,
      ),
    )

pub read_elsifs-returns : goal.read_elsifs-returns
read_elsifs-returns t c =
    let l = c.elsifs in
    let ended = rw c.elsifs-test.false at c.take_elsif.ensures in (
      (l.invariant.0, (l.invariant.1.0, rw ended.1 (l.invariant.1.1.joins, ended.0))),
      λ each to takes.
          let found = elsifs_end (granted_by c.args.granted.now) c.args.room _ l.invariant.0 l.reader l.invariant.1.1 ended.0 each to takes in
          (l.invariant.1.0 ∙ ap (λ bs. map branch_view c.args.branches.items ++ bs) (sym found.0), found.1 ∙ sym ended.1),
    )

pub read_if-returns-in_err-first : goal.read_if-returns-in_err-first
read_if-returns-in_err-first t c =
    let e = c.in_err-first.ensures in
    let p = err_from_is_err_and c.from_residual.result c.from_residual.ensures.1 in
    rw (p.1, p.2) (fault_on _ _ _ (if_no_first (granted_by c.args.granted.now) c.args.room _) e)

pub read_if-returns-in_err-branches : goal.read_if-returns-in_err-branches
read_if-returns-in_err-branches t c =
    let e = c.in_err-branches.ensures in
    let p = err_from_is_err_and c.from_residual-in_err-branches.result c.from_residual-in_err-branches.ensures.1 in
    rw (p.1, p.2) (fault_on _ _ _ (if_no_elsifs (granted_by c.args.granted.now) c.args.room _ _ _ c.in_ok-first.ensures) e)

pub read_if-returns-in_err-branches-2 : goal.read_if-returns-in_err-branches-2
read_if-returns-in_err-branches-2 t c =
    let one = c.in_ok-one.ensures.items in
    let only = rw one at c.in_ok-branches.ensures.1 in
    let e = c.in_err-branches-2.ensures in
    let p = err_from_is_err_and c.from_residual-in_err-branches-2.result c.from_residual-in_err-branches-2.ensures.1 in
    rw (p.1, p.2) (fault_on _ _ _ (if_no_else (granted_by c.args.granted.now) c.args.room _ _ _ c.in_ok-first.ensures _ _ only) e)

pub read_if-returns : goal.read_if-returns
read_if-returns t c =
    let one = c.in_ok-one.ensures.items in
    let only = rw one at c.in_ok-branches.ensures.1 in
    let each = rw one at c.in_ok-branches.ensures.0 in
    let last = c.in_ok-branches-2.ensures.0 in
    let alone = c.in_ok-branches-2.ensures.1 in
    rw view-If (
      if_takes (granted_by c.args.granted.now) c.args.room _ _ _ c.in_ok-first.ensures _ _ only _ _ alone each.0 last.0 each.1.0 each.1.1 last.1.0 last.1.1,
      if_only (granted_by c.args.granted.now) c.args.room _ _ _ c.in_ok-first.ensures _ _ only _ _ alone,
    )

pub read_block-returns-in_err-block : goal.read_block-returns-in_err-block
read_block-returns-in_err-block t c =
    let e = c.in_err-block.ensures in
    let p = err_from_is_err_and c.from_residual-in_err-block.result c.from_residual-in_err-block.ensures.1 in
    rw (p.1, p.2) (fault_on _ _ _ (block_no_inside (granted_by c.args.granted.now) c.args.room _ (omega arith) _ _ c.in_ok-read_mark.ensures.found) e)

pub read_block-returns-in_err-read_mark-2 : goal.read_block-returns-in_err-read_mark-2
read_block-returns-in_err-read_mark-2 t c =
    let only = rw c.in_ok-none.ensures at c.in_ok-block.ensures.1 in
    let e = c.in_err-read_mark-2.ensures.fault in
    let p = err_from_is_err_and c.from_residual-in_err-read_mark-2.result c.from_residual-in_err-read_mark-2.ensures.1 in
    rw (p.1, p.2) (fault_on _ _ _ (block_no_close (granted_by c.args.granted.now) c.args.room (c.args.room - 1) (omega arith) _ _ c.in_ok-read_mark.ensures.found _ _ only) e)

pub read_block-returns : goal.read_block-returns
read_block-returns t c =
    let only = rw c.in_ok-none.ensures at c.in_ok-block.ensures.1 in
    let found = rw c.in_ok-none.ensures at c.in_ok-block.ensures.0 in
    let all = rw (← found.1.0) at found.1.1 in
    block_found (granted_by c.args.granted.now) c.args.room (c.args.room - 1) (omega arith) _ _ c.in_ok-read_mark.ensures.found _ _ only all _ c.in_ok-read_mark-2.ensures.found

pub read_commands-returns-in_err-read_command : goal.read_commands-returns-in_err-read_command
read_commands-returns-in_err-read_command t c =
    let l = c.commands in
    let e = c.in_err-read_command.ensures in
    let p = err_from_is_err_and c.from_residual.result c.from_residual.ensures.1 in
    rw (p.1, p.2) (fault_on _ _ _ (commands_stop (granted_by c.args.granted.now) c.args.room _ l.invariant.0 l.reader l.invariant.1.1 (λ stops. let no = c.commands-test.ensures.1 stops in cc)) e)

pub read_commands-commands-smaller : goal.read_commands-commands-smaller
read_commands-commands-smaller t c = reads_longer _ _ _ c.in_ok-read_command.ensures.0.0

pub read_commands-commands-preserved : goal.read_commands-commands-preserved
read_commands-commands-preserved t c =
    let l = c.commands in
    let made = c.in_ok-read_command.field-0 in
    let found = c.in_ok-read_command.ensures in
    let started : map command_view l.commands.items ≡ map command_view c.args.commands.items ++ l.invariant.0 = l.invariant.1.0 in (
      l.invariant.0 ++ command_view made ∷ [],
      (
        ap (map command_view) c.in_ok-push.ensures.items ∙ map-append command_view l.commands.items (made ∷ []) ∙ ap (λ trees. trees ++ command_view made ∷ []) started ∙ append_assoc (map command_view c.args.commands.items) l.invariant.0 (command_view made ∷ []),
        chain_more (TakesCommand (granted_by c.args.granted.now) c.args.room) IsStop _ l.invariant.0 l.reader (command_view made) _ l.invariant.1.1 found.0 found.1 (λ stops. let no = c.commands-test.ensures.1 stops in cc),
      ),
    )

pub read_commands-returns : goal.read_commands-returns
read_commands-returns t c =
    let l = c.commands in
    let stops = c.commands-test.ensures.0 (search rules) in (
      (l.invariant.0, (l.invariant.1.0, (l.invariant.1.1.joins, stops))),
      λ more to all.
          let found = commands_end (granted_by c.args.granted.now) c.args.room _ l.invariant.0 l.reader l.invariant.1.1 stops more to all in
          (l.invariant.1.0 ∙ ap (λ trees. map command_view c.args.commands.items ++ trees) (sym found.0), found.1),
    )
