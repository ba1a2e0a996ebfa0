use Rattle.lmtp_dialogue.specs.Arguments.{to_word, TakesRecipient}
use Rattle.lmtp_dialogue.proofs.ArgumentLemmas.{no_addressed, not_taken}
use Rattle.lmtp_dialogue.proofs.argument.read_recipient.Goals as goal

pub returns-in_default-read_path : goal.returns-in_default-read_path
returns-in_default-read_path c = (
  (c.in-Some.text.now, c.in-Some.ensures.found),
  no_addressed to_word TakesRecipient c.args.argument.now c.in-Some.text.now c.in-Some.ensures.found c.in_default-read_path.ensures.none,
)

pub returns-then-not-takes_recipient : goal.returns-then-not-takes_recipient
returns-then-not-takes_recipient c = (
  (c.in-Some.text.now, c.in-Some.ensures.found),
  not_taken to_word TakesRecipient c.args.argument.now c.in-Some.text.now c.in-Some-read_path.path.address.now c.in-Some-read_path.path.rest.now
      c.in-Some.ensures.found c.in-Some-read_path.ensures.found (λ takes. absurd (cc (c.if-not-takes_recipient.ensures.1 takes))),
)
