-- `imap4flags`: the test of the flags that are set, `hasflag` (RFC 5232, 4).
use Rattle.std.specs.Prelude.{ℕ, ◌+◌, Bool, true, false, cond, length, decimal, List, sum_by, MatchBool}
use Rattle.std.specs.List.{filter, flat_map, list_any, Any}
use Rattle.mail_flags.specs.Flags.{between_blanks}
use Rattle.sieve_syntax.specs.declared.extension.imap4flags.HasFlag.{HasFlag}
use Rattle.sieve_syntax.specs.declared.tree.checks.Matching.{Matching}
use Rattle.sieve_syntax.specs.declared.tree.checks.Matching.TheVariants.{Is, Contains}
use Rattle.sieve_exec.specs.Mails.{is_some_of}
use Rattle.sieve_exec.specs.Matches.{MatchesSome, matches_some, count_matches}
use Rattle.sieve_exec.specs.Sizes.{texts_size, tried_work}
use Rattle.sieve_exec.specs.Extension.Relational.{is_count}

-- the words of a text: what is between its blanks and isn't empty
abbrev pub words_of : List ℕ → List (List ℕ)
words_of text = filter is_some_of (between_blanks text)

-- whether the texts of a test name words, each of which is a key
abbrev pub asks_words : Matching → Bool
asks_words Is = true
asks_words Contains = true
asks_words _ = false

-- the keys of a test: for `:is` and `:contains` the words of all its texts, so that "b A" is ["b", "A"]; for others the texts
abbrev pub flag_keys : Matching → List (List ℕ) → List (List ℕ)
flag_keys matching texts = cond (asks_words matching) (flat_map words_of texts) texts

-- some flag of these matches a key, or their number does in decimal, if values are counted. The flags are looked at one by one
abbrev pub FlagHolds : (flags : List (List ℕ)) → HasFlag → Type 0
FlagHolds flags test =
    MatchBool (is_count test.matching)
    (MatchesSome test.comparator test.matching test.keys (decimal (length flags)))
    (Any (MatchesSome test.comparator test.matching (flag_keys test.matching test.keys)) flags)

-- whether some flag matches a key of `hasflag`
abbrev pub some_flag_matches : List (List ℕ) → HasFlag → Bool
some_flag_matches flags test = list_any (matches_some test.comparator test.matching (flag_keys test.matching test.keys)) flags

-- whether `hasflag` holds of these flags
abbrev pub flag_holds : List (List ℕ) → HasFlag → Bool
flag_holds flags test =
    cond (is_count test.matching)
    (count_matches test.comparator test.matching test.keys (length flags))
    (some_flag_matches flags test)

-- the work of `hasflag`: a key may have a word at every octet
abbrev pub flags_work : (flags : List (List ℕ)) → HasFlag → ℕ
flags_work flags test = texts_size flags + texts_size test.keys + sum_by (tried_work (texts_size flags)) test.keys
