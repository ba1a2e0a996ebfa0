-- The octets that a name or a string says.
use Rattle.std.specs.Prelude.{ℕ, List}
use Rattle.sieve_lex.specs.declared.said.Source.{Source}
use Rattle.sieve_lex.specs.declared.said.Source.TheVariants as S

-- these octets
abbrev pub octets_at : Source → List ℕ
octets_at (S.Text octets) = octets.now
octets_at (S.Apart octets) = octets
