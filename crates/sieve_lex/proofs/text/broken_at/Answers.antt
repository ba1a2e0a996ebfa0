use Rattle.std.proofs.Common.{sym, ◌∙◌}
use Rattle.std.proofs.lemmas.Str.{IsUtf8-from_ascii}
use Rattle.sieve_lex.proofs.OctetLemmas.{ascii_is}
use Rattle.sieve_lex.proofs.text.broken_at.Goals as goal

pub returns-then-is_ascii : goal.returns-then-is_ascii
returns-then-is_ascii c = IsUtf8-from_ascii c.args.text.now (ascii_is c.args.text.now (sym c.is_ascii.ensures ∙ c.if-is_ascii.true))
