use Rattle.std.proofs.Common.{arith}
use Rattle.std.proofs.lemmas.List.Sums.{prefix_len-le-length}
use Rattle.cli_run.specs.Promise.{is_in_line}
use Rattle.cli_run.proofs.values.first_input_line.Goals as goal

pub split_at-requires : goal.split_at-requires
split_at-requires c = omega (arith, c.line_len-len.ensures, prefix_len-le-length is_in_line c.args.text.now)
