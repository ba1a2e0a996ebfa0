-- The set has the images of the texts so far.
use Rattle.std.proofs.Common.{take}
use Rattle.sieve_exec.specs.Images.{AreImages}
use Rattle.sieve_exec.proofs.images.images_of.Given as goal

abbrev pub invariant-loop-text : goal.invariant-loop-text
invariant-loop-text l = AreImages l.collation (take l.text-index l.texts) l.images
