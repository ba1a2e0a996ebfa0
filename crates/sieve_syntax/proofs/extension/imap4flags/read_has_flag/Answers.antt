use Rattle.sieve_syntax.proofs.TableLemmas.{call_finds}
use Rattle.sieve_syntax.proofs.extension.imap4flags.read_has_flag.Goals as goal

pub returns : goal.returns
returns c = let h = c.in_ok-tag_values.ensures in call_finds _ _ _ _ _ h.only h.found _ (rw c.as_slice.ensures.value at c.has_flag_from.ensures)
