-- The set has the image of the part of no address so far.
use Rattle.std.proofs.Common.{◌≡◌, false, take}
use Rattle.std.specs.List.{list_any}
use Rattle.std.specs.Ordering.{nat_cmp}
use Rattle.std.specs.Cmp.Lexicographic.{slice_cmp}
use Rattle.std.specs.BTreeSet.{contains}
use Rattle.sieve_exec.specs.Images.{text_image}
use Rattle.sieve_exec.specs.Parts.{address_part_of}
use Rattle.sieve_exec.specs.Ready.{some_passes}
use Rattle.sieve_exec.proofs.address.some_is_image.Given as goal

abbrev pub invariant-loop-one : goal.invariant-loop-one
invariant-loop-one l = list_any (λ one. some_passes (λ text. contains (slice_cmp nat_cmp) l.images (text_image l.collation text)) (address_part_of l.part one)) (take l.one-index l.found) ≡ false
