use Rattle.std.proofs.Common.{◌&&◌, ◌∙◌, sym, rules}
use Rattle.std.proofs.lemmas.Iterator.Search.{any_from_yields_List}
use Rattle.std.proofs.lemmas.Iterator.Splits.{YieldsList-from_slice_split}
use Rattle.octets.specs.Ascii.{is_blank}
use Rattle.mail_flags.specs.Flags.{between_blanks}
use Rattle.sieve_exec.specs.Mails.{is_some_of}
use Rattle.sieve_exec.specs.Matches.{matches_key}
use Rattle.sieve_exec.proofs.WordLemmas.{any_kept}
use Rattle.sieve_exec.proofs.extension.imap4flags.matches_words.Goals as goal

pub returns : goal.returns
returns c =
    let test = c.args.test.now in
    any_from_yields_List (λ word. is_some_of word && matches_key test.comparator test.matching word c.args.flag.now) _ _ c.any.result c.any.ensures.ran
    (YieldsList-from_slice_split _ is_blank c.args.text.now c.split.ensures.rest c.split.ensures.done c.split.ensures.closure (λ x r q k. search rules))
    (λ x r q k. search rules)
    ∙ sym (any_kept (λ word. matches_key test.comparator test.matching word c.args.flag.now) is_some_of (between_blanks c.args.text.now))
