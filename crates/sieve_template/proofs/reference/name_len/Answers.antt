use Rattle.std.proofs.Common.{sym, ◌∙◌, arith}
use Rattle.std.proofs.lemmas.List.Sums.{prefix_len-drop_yes, prefix_len-drop_no, prefix_len-drop_all}
use Rattle.sieve_template.specs.Templates.{is_variable_octet}
use Rattle.sieve_template.proofs.reference.name_len.Goals as goal

pub returns-then-not-is_variable_octet-clause-length : goal.returns-then-not-is_variable_octet-clause-length
returns-then-not-is_variable_octet-clause-length c =
    omega (
      arith,
      c.loop-count.invariant.run,
      prefix_len-drop_no is_variable_octet c.args.text.now c.loop-count.count 0 c.loop-count-test.true (sym c.is_variable_octet.ensures ∙ c.if-not-is_variable_octet.true),
    )

pub loop-count-preserved : goal.loop-count-preserved
loop-count-preserved c = record {
  within = omega (arith, c.loop-count-test.true);
  run = omega (
    arith,
    c.loop-count.invariant.run,
    prefix_len-drop_yes is_variable_octet c.args.text.now c.loop-count.count 0 c.loop-count-test.true (sym c.is_variable_octet.ensures ∙ c.if-not-is_variable_octet.false),
  );
}

pub returns-clause-length : goal.returns-clause-length
returns-clause-length c = omega (arith, c.loop-count.invariant.run, prefix_len-drop_all is_variable_octet c.args.text.now c.loop-count.count c.loop-count-test.false)
