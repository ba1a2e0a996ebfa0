-- The text of an account.
use Rattle.std.specs.Prelude.{◌≡◌, ◌<◌, ◌^◌, ℕ, Bool, true, List, ◌++◌, None}
use Rattle.std.specs.List.{flat_map, AllByRecursion, list_all}
use Rattle.sha2.specs.Sha256.{sha256}
use Rattle.hex.specs.Hex.{encode_lower}
use Rattle.store_text.specs.Netstring.{line, same_text, AreFields}
use Rattle.store_text.specs.Fields.{version_fields, owner_fields, numbers_fields, part_fields, sum_fields}
use Rattle.store_text.specs.Order.{are_numbers, fits, are_chained, has_active}
use Rattle.store_text.specs.declared.head.AccountHead.{AccountHead}
use Rattle.store_text.specs.declared.part.Part.{Part}

-- ---- an account that has a text

-- a database can hold the numbers, and memory can hold the fields
pub record IsHead (head : AccountHead) : Type 0 where
  pub rounds : head.numbers.rounds < 2 ^ 32
  pub counters : are_numbers head.numbers ≡ true
  pub small : AreFields (owner_fields head.owner)

-- the head is one, the numbers of each part were given, the parts are in their order, the active script is one of them, and memory can
-- hold the fields
pub record IsAccount (head : AccountHead) (parts : List Part) : Type 0 where
  pub once : IsHead head
  pub given : list_all (fits head.numbers) parts ≡ true
  pub chained : are_chained None parts ≡ true
  pub active : has_active head.owner.active parts ≡ true
  pub small : AllByRecursion (λ p. AreFields (part_fields p)) parts

-- ---- its spelling

-- a part as a line
abbrev pub part_line : Part → List ℕ
part_line part = line (part_fields part)

-- the version, and what the account has once
abbrev pub head_text : AccountHead → List ℕ
head_text head = line version_fields ++ (line (owner_fields head.owner) ++ line (numbers_fields head.numbers))

-- and its parts
abbrev pub account_body : AccountHead → List Part → List ℕ
account_body head parts = head_text head ++ flat_map part_line parts

-- the SHA-256 of all before it, in hexadecimal
abbrev pub sum_line : List ℕ → List ℕ
sum_line body = line (sum_fields (encode_lower (sha256 body)))

abbrev pub account_text : AccountHead → List Part → List ℕ
account_text head parts = account_body head parts ++ sum_line (account_body head parts)

-- whether this is that SHA-256
abbrev pub has_sum : List ℕ → List ℕ → Bool
has_sum sum body = same_text sum (encode_lower (sha256 body))

-- the text is that of this account
pub record IsAccountText (text : List ℕ) (head : AccountHead) (parts : List Part) : Type 0 where
  pub account : IsAccount head parts
  pub spelled : text ≡ account_text head parts
