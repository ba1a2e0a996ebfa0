-- The system flags that a user may set (RFC 3501, 2.3.2), and their letters in a Maildir.
use Rattle.std.specs.Prelude.{ℕ, List, [], ◌∷◌, codes}
use Rattle.mail_flags.specs.declared.system.SystemFlag.{SystemFlag}
use Rattle.mail_flags.specs.declared.system.SystemFlag.TheVariants.{Draft, Flagged, Answered, Seen, Deleted}

-- all of them, in the order of their letters
abbrev pub all_system : List SystemFlag
all_system = Draft ∷ Flagged ∷ Answered ∷ Seen ∷ Deleted ∷ []

-- its name
abbrev pub flag_name_of : SystemFlag → List ℕ
flag_name_of Draft = codes "\\Draft"
flag_name_of Flagged = codes "\\Flagged"
flag_name_of Answered = codes "\\Answered"
flag_name_of Seen = codes "\\Seen"
flag_name_of Deleted = codes "\\Deleted"

-- its letter: D, F, R, S, T
abbrev pub flag_letter_of : SystemFlag → ℕ
flag_letter_of Draft = 68
flag_letter_of Flagged = 70
flag_letter_of Answered = 82
flag_letter_of Seen = 83
flag_letter_of Deleted = 84
