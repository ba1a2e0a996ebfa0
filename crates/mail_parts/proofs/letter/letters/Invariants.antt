use Rattle.std.proofs.Common.{◌≡◌, ◌≤◌, ◌++◌, drop}
use Rattle.mail_parts.specs.Letters.{mode_depth, letters_from, letters_of}
use Rattle.mail_parts.proofs.letter.letters.Given as goal

abbrev pub invariant-loop-octet : goal.invariant-loop-octet
invariant-loop-octet l = record {
  depth : mode_depth l.mode ≤ l.octet-index;
  left : l.found.items ++ letters_from l.mode (drop l.octet-index l.body) ≡ letters_of l.body;
}
