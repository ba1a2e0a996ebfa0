-- The letters of flags are ASCII.
use Rattle.std.proofs.Common.{lit<, ◌<◌, ℕ, zero, suc, List, [], ◌∷◌, map, filter}
use Rattle.std.proofs.lemmas.Str.{IsUtf8-from_ascii}
use Rattle.std.specs.Str.{IsAscii, IsUtf8}
use Rattle.mail_flags.specs.declared.system.SystemFlag.{SystemFlag}
use Rattle.mail_flags.specs.declared.system.SystemFlag.TheVariants.{Draft, Flagged, Answered, Seen, Deleted}
use Rattle.mail_flags.specs.System.{all_system, flag_name_of, flag_letter_of}
use Rattle.mail_flags.specs.Flags.{has, letters}

small : (one : SystemFlag) → flag_letter_of one < 128
small Draft = lit< tt
small Flagged = lit< tt
small Answered = lit< tt
small Seen = lit< tt
small Deleted = lit< tt

letters_ascii : (found : List SystemFlag) → IsAscii (map flag_letter_of found)
letters_ascii [] i = lit< tt
letters_ascii (one ∷ more) zero = small one
letters_ascii (one ∷ more) (suc i) = letters_ascii more i

pub letters_utf8 : (flags : List (List ℕ)) → IsUtf8 (letters flags)
letters_utf8 flags = IsUtf8-from_ascii (letters flags) (letters_ascii (filter (λ system. has flags (flag_name_of system)) all_system))
