use Rattle.std.proofs.Common.{◌∙◌, sym, rules}
use Rattle.std.proofs.lemmas.Iterator.{YieldsList-from_slice}
use Rattle.std.proofs.lemmas.Iterator.Search.{any_from_yields_List}
use Rattle.sieve_exec.specs.Extension.Imap4flags.{words_of}
use Rattle.sieve_exec.specs.Matches.{matches_some, matches_key}
use Rattle.sieve_exec.proofs.WordLemmas.{any_joined}
use Rattle.sieve_exec.proofs.extension.imap4flags.matches_some_word.Goals as goal

pub returns : goal.returns
returns c =
    let test = c.args.test.now in
    any_from_yields_List (λ text. matches_some test.comparator test.matching (words_of text) c.args.flag.now) _ _ c.any.result c.any.ensures.ran
    (YieldsList-from_slice c.args.texts.now (cc))
    (λ x r q k. search rules)
    ∙ sym (any_joined (λ word. matches_key test.comparator test.matching word c.args.flag.now) words_of c.args.texts.now)
