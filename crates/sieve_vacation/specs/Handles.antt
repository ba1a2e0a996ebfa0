-- What identifies a response (RFC 5230, 4.2), and the key under which it is remembered.
use Rattle.std.specs.Prelude.{ℕ, ◌<◌, ◌^◌, ◌/◌, ◌%◌, Bool, cond, List, [], ◌∷◌, ◌++◌, length, Option, None, Some, option_map}
use Rattle.sieve_syntax.specs.declared.extension.vacation.VacationArgs.{VacationArgs}
use Rattle.sieve_syntax.specs.declared.extension.vacation.ReplyFrom.{ReplyFrom}

-- a response is identified by the name that `:handle` gives it; without a name by the subject, the text of `:from`, `:mime` and the reason together
pub data Handle : Type 0 where
  Named : List ℕ → Handle
  Same : Option (List ℕ) → Option (List ℕ) → Bool → List ℕ → Handle

-- the text of `:from`, as it was written
abbrev pub from_text : Option ReplyFrom → Option (List ℕ)
from_text from = option_map (λ one. one.text) from

-- the handle, given the name, if there is one, and the rest
abbrev pub handle_with : Option (List ℕ) → Option (List ℕ) → Option (List ℕ) → Bool → List ℕ → Handle
handle_with (Some name) subject from mime reason = Named name
handle_with None subject from mime reason = Same subject from mime reason

-- the handle of a response
abbrev pub handle_of : VacationArgs → Handle
handle_of args = handle_with args.handle args.subject (from_text args.from) args.mime args.reason

-- a number below 2^32 as four octets, the most significant one first
abbrev pub four_octets : ℕ → List ℕ
four_octets n = n / 16777216 % 256 ∷ (n / 65536 % 256 ∷ (n / 256 % 256 ∷ (n % 256 ∷ [])))

-- octet 0 if there is no text; otherwise octet 1, its length and its octets
abbrev pub key_part_of : Option (List ℕ) → List ℕ
key_part_of None = 0 ∷ []
key_part_of (Some text) = 1 ∷ (four_octets (length text) ++ text)

-- octet 1 and the name; or octet 2, the subject, the text of `:from`, an octet for `:mime` and the reason
abbrev pub handle_key_of : Handle → List ℕ
handle_key_of (Named name) = 1 ∷ name
handle_key_of (Same subject from mime reason) = 2 ∷ (key_part_of subject ++ (key_part_of from ++ (cond mime 1 0 ∷ reason)))

-- no text, or a text of less than 2^32 octets, whose length fits in four octets
abbrev pub IsShort : Option (List ℕ) → Type 0
IsShort None = Unit {0}
IsShort (Some text) = length text < 2 ^ 32

-- subject and from are short; name and reason end the key and may have any length
abbrev pub HasShortTexts : Handle → Type 0
HasShortTexts (Named name) = Unit {0}
HasShortTexts (Same subject from mime reason) = IsShort subject × IsShort from
