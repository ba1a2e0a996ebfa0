use Rattle.std.proofs.Common.{◌≡◌, ◌≤◌, ◌-◌, ◌++◌, not, vec_len}
use Rattle.std.specs.List.{list_any}
use Rattle.mail_parts.specs.Parts.{parts_of, is_cut}
use Rattle.mail_parts.specs.Walks.{parts_pending}
use Rattle.mail_parts.specs.declared.limits.TheConstants.{MAX_PARTS}
use Rattle.mail_parts.proofs.walk.read_parts.Given as goal

abbrev pub invariant-loop-next : goal.invariant-loop-next
invariant-loop-next l = record {
  within : vec_len l.parts ≤ MAX_PARTS;
  flag : l.complete ≡ not (list_any is_cut l.parts.items);
  all : l.parts.items ++ parts_pending l.pending.items ≡ parts_of l.message;
}

abbrev pub decreases-loop-next : goal.decreases-loop-next
decreases-loop-next l = MAX_PARTS - vec_len l.parts
