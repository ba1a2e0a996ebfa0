-- The commands or branches that are left, in front of what is written, make the whole code.
use Rattle.std.proofs.Common.{◌≡◌}
use Rattle.sieve_syntax.specs.View.{commands_view, branches_view}
use Rattle.sieve_syntax.specs.Tree.{choose}
use Rattle.sieve_code.specs.Instructions.{instructions_of}
use Rattle.sieve_code.specs.Layout.{command_code, branches_code, commands_code}
use Rattle.sieve_code.proofs.emit.+commands.Given as goal

abbrev pub invariant-emit_branches-loop-branch : goal.invariant-emit_branches-loop-branch
invariant-emit_branches-loop-branch l =
    branches_code (branches_view l.branch-iterator.iter.rest.now) l.end (instructions_of l.rows.items) ≡ command_code (choose (branches_view l.branches)) (instructions_of l.fn.rows.items)

abbrev pub invariant-emit_commands-loop-command : goal.invariant-emit_commands-loop-command
invariant-emit_commands-loop-command l =
    commands_code (commands_view l.command-iterator.iter.rest.now) (instructions_of l.rows.items) ≡ commands_code (commands_view l.commands) (instructions_of l.fn.rows.items)
