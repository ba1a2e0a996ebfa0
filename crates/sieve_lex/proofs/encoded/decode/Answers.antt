use Rattle.std.proofs.Common.{sym, ap, ◌∙◌, arith}
use Rattle.std.proofs.lemmas.List.{length-drop}
use Rattle.sieve_lex.specs.Encoded.{sequence_at}
use Rattle.sieve_lex.proofs.EncodedLemmas.{plain_at, other_at, sequence_here, without_dollar}
use Rattle.sieve_lex.proofs.encoded.decode.Goals as goal

pub returns-in_default : goal.returns-in_default
returns-in_default c = rw c.in_ok-from_slice.ensures (sym (without_dollar c.args.text.now c.in_default.ensures))

pub loop-at-preserved-then-text-at-ne36 : goal.loop-at-preserved-then-text-at-ne36
loop-at-preserved-then-text-at-ne36 c = record {
  within = omega (arith, c.loop-at-test.true);
  so = other_at c.args.text.now c.loop-at.at c.loop-at.value _ _ c.loop-at-test.true c.loop-at.invariant.so c.if-text-at-ne36.true c.in_ok-push.ensures.ok;
}

pub loop-at-preserved-in-Absent : goal.loop-at-preserved-in-Absent
loop-at-preserved-in-Absent c =
    let found = ap sequence_at (sym c.split_at.ensures.back) ∙ sym c.in_ok-sequence_at.ensures.found ∙ c.in-Absent.is in
    record {
      within = omega (arith, c.loop-at-test.true);
      so = plain_at c.args.text.now c.loop-at.at c.loop-at.value _ _ c.loop-at-test.true c.loop-at.invariant.so found c.in_ok-push-in-Absent.ensures.ok;
    }

pub loop-at-preserved : goal.loop-at-preserved
loop-at-preserved c =
    let found = ap sequence_at (sym c.split_at.ensures.back) ∙ sym c.in_ok-sequence_at.ensures.found ∙ c.in-Present.is in
    let within = rw (c.in-Present.is, c.split_at.ensures.back) at c.in_ok-sequence_at.ensures.within in
    record {
      within = omega (arith, within.0, within.1, length-drop c.loop-at.at c.args.text.now, c.loop-at-test.true);
      so = sequence_here c.args.text.now c.loop-at.at c.loop-at.value _ _ c.loop-at-test.true c.loop-at.invariant.so c.in-Present.octets c.in-Present.len within.0 found (rw c.as_slice.ensures at c.in_ok-extend_from_slice-in-Present.ensures.ok);
    }
