-- Of the texts so far the set has the images, and the list the first with each.
use Rattle.std.proofs.Common.{take}
use Rattle.sieve_exec.specs.Images.{AreImages, AnswerFor, AreApart}
use Rattle.sieve_exec.proofs.images.distinct.Given as goal

abbrev pub invariant-loop-text : goal.invariant-loop-text
invariant-loop-text l = record {
  images : AreImages l.collation (take l.text-index l.texts) l.images;
  answer : AnswerFor l.collation (take l.text-index l.texts) l.first;
  once : AreApart l.collation l.first;
}
