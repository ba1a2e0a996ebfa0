-- Command lines (RFC 5321, sections 2.4 and 4.1.1; RFC 2033, section 4).
use Rattle.std.specs.Prelude.{◌≡◌, ◌⊎◌, ℕ, ◌==◌, not, Bool, true, List, [], ◌∷◌, ◌++◌, map, codes}
use Rattle.std.specs.Char.{to_ascii_lowercase}
use Rattle.std.specs.List.{list_all}
use Rattle.octets.specs.Ascii.{trimmed}
use Rattle.lmtp_dialogue.specs.declared.verb.LmtpVerb.{LmtpVerb}
use Rattle.lmtp_dialogue.specs.declared.verb.LmtpVerb.TheVariants.{Lhlo, Mail, Rcpt, Data, Rset, Noop, Vrfy, Help, Quit, Helo, Ehlo}

abbrev pub verb_word : LmtpVerb → List ℕ
verb_word Lhlo = codes "LHLO"
verb_word Mail = codes "MAIL"
verb_word Rcpt = codes "RCPT"
verb_word Data = codes "DATA"
verb_word Rset = codes "RSET"
verb_word Noop = codes "NOOP"
verb_word Vrfy = codes "VRFY"
verb_word Help = codes "HELP"
verb_word Quit = codes "QUIT"
verb_word Helo = codes "HELO"
verb_word Ehlo = codes "EHLO"

-- a word, its letters in upper or lower case
abbrev pub IsSameWord : List ℕ → List ℕ → Type 0
IsSameWord word text = map to_ascii_lowercase text ≡ map to_ascii_lowercase word

abbrev pub is_unspaced : ℕ → Bool
is_unspaced octet = not (octet == 32)

-- nothing after a command's word, or SP and what it is about, without blanks at its ends
abbrev pub HasArgument : List ℕ → List ℕ → Type 0
HasArgument tail argument = ((tail ≡ []) × (argument ≡ [])) ⊎ ((rest : List ℕ) × (tail ≡ 32 ∷ rest) × (argument ≡ trimmed rest))

-- a line: its first word, and what it is about
pub record Splits (line word argument : List ℕ) : Type 0 where
  pub tail : List ℕ
  pub written : line ≡ word ++ tail
  pub unspaced : list_all is_unspaced word ≡ true
  pub argues : HasArgument tail argument

-- a line that begins with a command's word, in upper or lower case, and what follows it, without blanks at its ends
pub record IsCommandLine (line : List ℕ) (verb : LmtpVerb) (argument : List ℕ) : Type 0 where
  pub word : List ℕ
  pub is : IsSameWord (verb_word verb) word
  pub splits : Splits line word argument

-- what follows the word, if SP comes first or nothing does
abbrev pub argument_in : List ℕ → List ℕ
argument_in [] = []
argument_in (octet ∷ rest) = trimmed rest
