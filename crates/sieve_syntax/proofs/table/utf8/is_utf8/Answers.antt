use Rattle.std.proofs.Common.{refl, sym, ◌∙◌}
use Rattle.std.proofs.lemmas.Str.{IsUtf8-from_ascii}
use Rattle.sieve_lex.proofs.OctetLemmas.{ascii_is}
use Rattle.sieve_syntax.proofs.table.utf8.is_utf8.Goals as goal

pub returns-then-is_ascii : goal.returns-then-is_ascii
returns-then-is_ascii c = (λ _. IsUtf8-from_ascii c.args.text.now (ascii_is c.args.text.now (sym c.is_ascii.ensures ∙ c.if-is_ascii.true)), λ _. refl)
