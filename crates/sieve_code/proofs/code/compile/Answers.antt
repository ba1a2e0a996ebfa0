use Rattle.std.proofs.Common.{◌≡◌, [], map, ap, ◌∙◌}
use Rattle.sieve_syntax.specs.View.{script_tree}
use Rattle.sieve_code.specs.Instructions.{instructions_of, instr_view}
use Rattle.sieve_code.specs.Layout.{commands_code, code_in_order}
use Rattle.sieve_code.proofs.Forward.{turned_forward, turned_is_code}
use Rattle.sieve_code.proofs.Sizes.{turned_short}
use Rattle.sieve_code.proofs.code.compile.Goals as goal

-- what is written is the code of the tree, turned round
written : (c : goal.In_ok-reversed_code) → map instr_view c.in_ok-reversed_code.field-0.items ≡ code_in_order (commands_code (script_tree c.args.script.now) [])
written c =
    c.in_ok-reversed_code.ensures
    ∙ ap (λ rows. code_in_order (instructions_of rows)) c.as_slice.ensures.value
    ∙ ap code_in_order (c.in_ok-emit_commands.ensures ∙ ap (λ tree. commands_code tree (instructions_of c.new-rows.result.items)) c.commands.ensures
    ∙ ap (λ rows. commands_code (script_tree c.args.script.now) (instructions_of rows)) c.new-rows.ensures.items)

pub invariant_of-result : goal.invariant_of-result
invariant_of-result c = turned_forward (script_tree c.args.script.now) _ (written c)

pub returns : goal.returns
returns c = record {
  is_code = turned_is_code (script_tree c.args.script.now) _ (written c.before);
  short = turned_short (script_tree c.args.script.now) _ (written c.before);
}
