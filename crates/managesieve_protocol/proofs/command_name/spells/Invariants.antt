use Rattle.std.proofs.Common.{◌≡◌, map, length}
use Rattle.std.specs.Char.{to_ascii_uppercase}
use Rattle.managesieve_protocol.specs.Machine.{same_word}
use Rattle.managesieve_protocol.proofs.command_name.spells.Given as goal

abbrev pub invariant-loop-letter : goal.invariant-loop-letter
invariant-loop-letter l = same_word l.wanted (map to_ascii_uppercase l.unread) ≡ same_word l.word (map to_ascii_uppercase l.name)

abbrev pub decreases-loop-letter : goal.decreases-loop-letter
decreases-loop-letter l = length l.unread
