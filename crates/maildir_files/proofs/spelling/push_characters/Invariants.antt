use Rattle.std.proofs.Common.{string_bytes}
use Rattle.maildir_files.proofs.PieceLemmas.{IsOnTheWay}
use Rattle.maildir_files.proofs.spelling.push_characters.Given as goal

abbrev pub invariant-loop-character : goal.invariant-loop-character
invariant-loop-character l = IsOnTheWay l.separator (string_bytes l.initial.directory) (string_bytes l.directory) l.run.items l.yielded l.begins
