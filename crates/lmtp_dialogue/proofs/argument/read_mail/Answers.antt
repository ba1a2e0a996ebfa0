use Rattle.std.proofs.Common.{arith}
use Rattle.lmtp_dialogue.specs.Arguments.{from_word, TakesSender}
use Rattle.lmtp_dialogue.proofs.ArgumentLemmas.{no_addressed, not_taken}
use Rattle.lmtp_dialogue.proofs.argument.read_mail.Goals as goal

pub returns-in_default-read_path : goal.returns-in_default-read_path
returns-in_default-read_path c = (
  (c.in-Some.text.now, c.in-Some.ensures.found),
  no_addressed from_word TakesSender c.args.argument.now c.in-Some.text.now c.in-Some.ensures.found c.in_default-read_path.ensures.none,
)

pub returns-then-path-gt-MAX_ADDRESS : goal.returns-then-path-gt-MAX_ADDRESS
returns-then-path-gt-MAX_ADDRESS c = (
  (c.in-Some.text.now, c.in-Some.ensures.found),
  not_taken from_word TakesSender c.args.argument.now c.in-Some.text.now c.in-Some-read_path.path.address.now c.in-Some-read_path.path.rest.now
      c.in-Some.ensures.found c.in-Some-read_path.ensures.found (λ takes. omega (arith, takes, c.if-path-gt-MAX_ADDRESS.true)),
)
