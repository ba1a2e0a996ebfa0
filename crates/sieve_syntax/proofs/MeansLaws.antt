-- A text means one tree at most.
use Rattle.std.proofs.Common.{◌≡◌, ℕ, List, subst}
use Rattle.sieve_lex.proofs.TokenLaws.{tokens_only}
use Rattle.sieve_lex.specs.Contents.{contents_of}
use Rattle.sieve_syntax.specs.Capabilities.{Capabilities, all_capabilities}
use Rattle.sieve_syntax.specs.Languages.{read_in}
use Rattle.sieve_syntax.specs.Means.{MeansIn, Means}
use Rattle.sieve_syntax.specs.Grammar.{ReadsScript}
use Rattle.sieve_syntax.specs.Tree.{Commands}
use Rattle.sieve_syntax.proofs.ReadingLaws.{reads_same}

-- whatever is offered
pub means_one : (offered : Capabilities) (text : List ℕ) (a b : Commands) → MeansIn offered text a → MeansIn offered text b → a ≡ b
means_one offered text a b one two =
    let same = tokens_only text one.tokens two.tokens one.spelled two.spelled in
    reads_same a b (read_in offered (contents_of two.tokens)) (subst (λ ts. ReadsScript a (read_in offered (contents_of ts))) same one.read) two.read

pub means_only : (text : List ℕ) (a b : Commands) → Means text a → Means text b → a ≡ b
means_only text a b one two = means_one all_capabilities text a b one two
