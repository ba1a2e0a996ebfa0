use Rattle.std.proofs.Common.{◌≡◌, map}
use Rattle.maildir_homes.specs.Templates as templates
use Rattle.maildir_homes.proofs.template.parts_of.Given as goal

abbrev pub invariant-loop-name : goal.invariant-loop-name
invariant-loop-name l = l.parts ≡ map templates.home_part_named (map (λ n. n.now) l.yielded)
