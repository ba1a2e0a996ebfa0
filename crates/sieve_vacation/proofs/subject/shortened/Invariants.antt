use Rattle.std.proofs.Common.{◌≡◌, ◌≤◌, length, take}
use Rattle.std.specs.Prelude.{string_bytes, encode_utf8_all}
use Rattle.std.specs.Str.{chars}
use Rattle.sieve_vacation.proofs.subject.shortened.Given as goal

abbrev pub invariant-loop-character : goal.invariant-loop-character
invariant-loop-character l =
    (l.count ≡ length l.yielded) × (l.count ≤ 256) × (string_bytes l.short ≡ encode_utf8_all (take l.count (chars l.text)))
