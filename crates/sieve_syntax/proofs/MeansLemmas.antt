-- What a text means, told by its packed tokens.
use Rattle.std.proofs.Common.{◌≡◌, List, subst, sym, ℕ}
use Rattle.sieve_lex.specs.declared.fault.ScriptError.{ScriptError}
use Rattle.sieve_lex.specs.declared.fault.ScriptError.TheVariants.{Memory, Fault}
use Rattle.sieve_lex.specs.declared.token.Content.{Content}
use Rattle.sieve_lex.specs.declared.token.Token.{Token}
use Rattle.sieve_lex.specs.Finding.{OnFault}
use Rattle.sieve_lex.specs.Spelling.{SpellsTokens}
use Rattle.sieve_lex.specs.Contents.{contents_of}
use Rattle.sieve_syntax.specs.Extension.EncodedCharacter.{as_read}
use Rattle.sieve_syntax.specs.Lexemes.{lexemes_of}
use Rattle.sieve_syntax.specs.Tree.{Commands}
use Rattle.sieve_syntax.specs.Grammar.{ReadsScript}
use Rattle.sieve_syntax.specs.Valid.{IsValid}
use Rattle.sieve_syntax.specs.Means.{Means}
use Rattle.sieve_syntax.proofs.LanguageLemmas.{all_lexemes}

-- what is read of the packed tokens is what the text means
pub packed_means : (text : List ℕ) (contents : List Content) (tree : Commands) → (ts : List Token) × (SpellsTokens text ts × (contents ≡ contents_of ts)) → ReadsScript tree (as_read (lexemes_of contents)) × IsValid tree → Means text tree
packed_means text contents tree spelled read = record {
  tokens = spelled.0;
  spelled = spelled.1.0;
  read = subst (λ l. ReadsScript tree (as_read l)) (sym (all_lexemes (contents_of spelled.0))) (subst (λ x. ReadsScript tree (as_read (lexemes_of x))) spelled.1.1 read.0);
  valid = read.1;
}

-- what the text means is read of the packed tokens
pub means_packed : (text : List ℕ) (contents : List Content) (tree : Commands) → ((us : List Token) → SpellsTokens text us → contents_of us ≡ contents) → Means text tree → ReadsScript tree (as_read (lexemes_of contents))
means_packed text contents tree only means =
    let read : ReadsScript tree (as_read (lexemes_of (contents_of means.tokens))) = subst (λ l. ReadsScript tree (as_read l)) (all_lexemes (contents_of means.tokens)) means.read in
    subst (λ x. ReadsScript tree (as_read (lexemes_of x))) (only means.tokens means.spelled) read

-- what holds, holds at a fault
pub fault_any : (e : ScriptError) (P : Type 0) → P → OnFault e P
fault_any Memory P p = tt
fault_any (Fault _) P p = p
