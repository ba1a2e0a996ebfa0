-- The scripts of the texts so far are added.
use Rattle.std.proofs.Common.{◌≡◌, ◌++◌, map, take}
use Rattle.sieve_plan.specs.Sequences.{scripts_of}
use Rattle.sieve_plan.specs.Turns.{script_in}
use Rattle.sieve_plan.proofs.scripts.add_scripts.Given as goal

abbrev pub invariant-loop-text : goal.invariant-loop-text
invariant-loop-text l = map script_in l.scripts.items ≡ map script_in l.initial.scripts.items ++ scripts_of l.whose (take l.text-index l.texts)
