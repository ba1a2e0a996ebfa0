-- `hasflag` is true exactly where it holds.
use Rattle.std.proofs.Common.{decimal, length, ℕ, List}
use Rattle.std.specs.Bool.{Decides}
use Rattle.sieve_syntax.specs.declared.extension.imap4flags.HasFlag.{HasFlag}
use Rattle.sieve_exec.specs.Extension.Relational.{is_count}
use Rattle.sieve_exec.specs.Extension.Imap4flags.{flag_keys, FlagHolds, flag_holds}
use Rattle.sieve_exec.proofs.Decisions.{any_decides, counts_decides}
use Rattle.sieve_exec.proofs.MatchLemmas.{matches_some_decides}

pub flag_decides : (flags : List (List ℕ)) (test : HasFlag) → Decides (flag_holds flags test) (FlagHolds flags test)
flag_decides flags test =
    counts_decides (is_count test.matching) _ _ _ _
    (matches_some_decides test.comparator test.matching test.keys (decimal (length flags)))
    (any_decides _ _ (matches_some_decides test.comparator test.matching (flag_keys test.matching test.keys)) flags)
