-- The names of files that keep messages.
use Rattle.std.specs.Prelude.{◌≡◌, ℕ, List, [], ◌∷◌, length, ◌++◌, codes, decimal, string_bytes}
use Rattle.std.specs.Int.{w64, to_be_bytes}
use Rattle.sha2.specs.Sha256.{sha256}
use Rattle.hex.specs.Hex.{encode_lower}
use Rattle.maildir_files.specs.declared.file_place.FilePlace.{FilePlace}
use Rattle.maildir_files.specs.declared.file_place.Subdirectory.{Subdirectory}
use Rattle.maildir_files.specs.declared.file_place.Subdirectory.TheVariants.{New, Cur}

-- a text after its length, in eight octets, the highest first
abbrev pub with_length : List ℕ → List ℕ
with_length text = to_be_bytes w64 (length text) ++ text

-- a user, a folder and a message as one text
abbrev pub digested_text : List ℕ → List ℕ → List ℕ → List ℕ
digested_text user folder message = with_length user ++ with_length folder ++ message

-- the number in decimal, a dot, and the digest of user, folder and message in hexadecimal digits
abbrev pub file_name : List ℕ → List ℕ → ℕ → List ℕ → List ℕ
file_name user folder number message = decimal number ++ (codes "." ++ encode_lower (sha256 (digested_text user folder message)))

-- the directory of a file whose message has these letters: `new`, or `cur` if there are some
abbrev pub subdirectory_by : List ℕ → Subdirectory
subdirectory_by [] = New
subdirectory_by (letter ∷ more) = Cur

-- what a file of that name is called where it is: in `cur` with the letters after its name
abbrev pub name_by : List ℕ → List ℕ → List ℕ
name_by name [] = name
name_by name (letter ∷ more) = name ++ (codes ":2," ++ letter ∷ more)

-- where the file of that name is in a Maildir, by its message's letters
pub record IsPlaceBy (name letters : List ℕ) (place : FilePlace) : Type 0 where
  pub subdirectory : place.subdirectory ≡ subdirectory_by letters
  pub called : string_bytes place.name ≡ name_by name letters
