-- The set has the image of no text so far.
use Rattle.std.proofs.Common.{◌≡◌, false, take}
use Rattle.std.specs.List.{list_any}
use Rattle.std.specs.Ordering.{nat_cmp}
use Rattle.std.specs.Cmp.Lexicographic.{slice_cmp}
use Rattle.std.specs.BTreeSet.{contains}
use Rattle.sieve_exec.specs.Images.{text_image}
use Rattle.sieve_exec.proofs.header.some_is_image.Given as goal

abbrev pub invariant-loop-text : goal.invariant-loop-text
invariant-loop-text l = list_any (λ text. contains (slice_cmp nat_cmp) l.images (text_image l.collation text)) (take l.text-index l.texts) ≡ false
