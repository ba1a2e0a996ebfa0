use Rattle.std.proofs.Common.{◌≡◌, ◌+◌, length}
use Rattle.managesieve_protocol.specs.Shown as s
use Rattle.managesieve_protocol.proofs.state.spelling_length.Given as goal

abbrev pub invariant-loop-letter : goal.invariant-loop-letter
invariant-loop-letter l = record {
  counted : l.count + length l.rest ≡ length l.octets;
  spelled : l.count + length l.wanted ≡ length l.letters;
  same : l.count + s.letters_matched l.wanted l.rest ≡ s.letters_matched l.letters l.octets;
}

abbrev pub decreases-loop-letter : goal.decreases-loop-letter
decreases-loop-letter l = length l.wanted
