use Rattle.std.proofs.Common.{◌≡◌, map, length}
use Rattle.std.specs.Char.{to_ascii_uppercase}
use Rattle.managesieve_protocol.specs.Machine.{command_named}
use Rattle.managesieve_protocol.proofs.command_name.find_named.Given as goal

abbrev pub invariant-loop-verb : goal.invariant-loop-verb
invariant-loop-verb l = command_named l.rest (map to_ascii_uppercase l.name) ≡ command_named l.verbs (map to_ascii_uppercase l.name)

abbrev pub decreases-loop-verb : goal.decreases-loop-verb
decreases-loop-verb l = length l.rest
