-- The fields of a line: what an account has once, one of its parts, and the sum at the end.
use Rattle.std.specs.Prelude.{Bool, false, ◌&&◌, ℕ, ◌^◌, List, [], ◌∷◌, codes, decimal, cond, nat_lt, Option, Some, None, option_and_then, option_map, option_to_list}
use Rattle.store_text.specs.Netstring.{same_text, decimal_in}
use Rattle.store_text.specs.declared.head.AccountOwner.{AccountOwner}
use Rattle.store_text.specs.declared.head.Numbers.{Numbers}
use Rattle.store_text.specs.declared.part.LetterKind.{LetterKind}
use Rattle.store_text.specs.declared.part.LetterKind.TheVariants.{Redirect, Answer}
use Rattle.store_text.specs.declared.part.Part.{Part}
use Rattle.store_text.specs.declared.part.Part.TheVariants.{Script, Reply, Mail, Copy, Letter, Notice}

-- ---- what is written

-- the first line: what the text is, and its version
abbrev pub version_fields : List (List ℕ)
version_fields = codes "sieved-account" ∷ codes "1" ∷ []

-- a name that isn't there has no field
abbrev pub owner_fields : AccountOwner → List (List ℕ)
owner_fields o = codes "account" ∷ o.name ∷ o.address ∷ o.salt ∷ o.digest ∷ option_to_list o.active

abbrev pub numbers_fields : Numbers → List (List ℕ)
numbers_fields n = codes "numbers" ∷ decimal n.rounds ∷ decimal n.next_copy ∷ decimal n.next_out ∷ decimal n.next_notice ∷ []

abbrev pub letter_word : LetterKind → List ℕ
letter_word Redirect = codes "redirect"
letter_word Answer = codes "answer"

-- if there are none, no field is written
abbrev pub flags_fields : List ℕ → List (List ℕ)
flags_fields [] = []
flags_fields (octet ∷ flags) = (octet ∷ flags) ∷ []

abbrev pub part_fields : Part → List (List ℕ)
part_fields (Script name text) = codes "script" ∷ name ∷ text ∷ []
part_fields (Reply handle sender moment) = codes "reply" ∷ handle ∷ sender ∷ decimal moment ∷ []
part_fields (Mail number folder message flags) = codes "mail" ∷ decimal number ∷ folder ∷ message ∷ flags_fields flags
part_fields (Copy number folder first flags) = codes "copy" ∷ decimal number ∷ folder ∷ decimal first ∷ flags_fields flags
part_fields (Letter id kind sender target message) = letter_word kind ∷ decimal id ∷ sender ∷ target ∷ message ∷ []
part_fields (Notice number moment text) = codes "notice" ∷ decimal number ∷ decimal moment ∷ text ∷ []

-- the last line
abbrev pub sum_fields : List ℕ → List (List ℕ)
sum_fields sum = codes "sum" ∷ sum ∷ []

-- ---- what is read

abbrev pub owner_by : List ℕ → List ℕ → List ℕ → List ℕ → Option (List ℕ) → AccountOwner
owner_by name address salt digest active = record { name = name; address = address; salt = salt; digest = digest; active = active }

unfoldable pub owner_with : List ℕ → List ℕ → List ℕ → List ℕ → List ℕ → Option (List ℕ) → Option AccountOwner
owner_with word name address salt digest active = cond (same_text word (codes "account")) (Some (owner_by name address salt digest active)) None

unfoldable pub owner_at : List (List ℕ) → Option AccountOwner
owner_at [] = None
owner_at (word ∷ []) = None
owner_at (word ∷ a ∷ []) = None
owner_at (word ∷ a ∷ b ∷ []) = None
owner_at (word ∷ a ∷ b ∷ c ∷ []) = None
owner_at (word ∷ a ∷ b ∷ c ∷ d ∷ []) = owner_with word a b c d None
owner_at (word ∷ a ∷ b ∷ c ∷ d ∷ e ∷ []) = owner_with word a b c d (Some e)
owner_at (word ∷ a ∷ b ∷ c ∷ d ∷ e ∷ f ∷ more) = None

-- a number below 2^32
unfoldable pub rounds_in : List ℕ → Option ℕ
rounds_in text = option_and_then (λ n. cond (nat_lt n (2 ^ 32)) (Some n) None) (decimal_in text)

abbrev pub numbers_by : ℕ → ℕ → ℕ → ℕ → Numbers
numbers_by rounds copy out notice = record { rounds = rounds; next_copy = copy; next_out = out; next_notice = notice }

unfoldable pub counters_at : ℕ → List ℕ → List ℕ → List ℕ → Option Numbers
counters_at rounds copy out notice = option_and_then (λ c. option_and_then (λ o. option_map (λ n. numbers_by rounds c o n) (decimal_in notice)) (decimal_in out)) (decimal_in copy)

unfoldable pub numbers_at : List (List ℕ) → Option Numbers
numbers_at [] = None
numbers_at (word ∷ []) = None
numbers_at (word ∷ a ∷ []) = None
numbers_at (word ∷ a ∷ b ∷ []) = None
numbers_at (word ∷ a ∷ b ∷ c ∷ []) = None
numbers_at (word ∷ a ∷ b ∷ c ∷ d ∷ []) = cond (same_text word (codes "numbers")) (option_and_then (λ r. counters_at r b c d) (rounds_in a)) None
numbers_at (word ∷ a ∷ b ∷ c ∷ d ∷ e ∷ more) = None

unfoldable pub script_at : List ℕ → List ℕ → List ℕ → Option Part
script_at word name text = cond (same_text word (codes "script")) (Some (Script name text)) None

unfoldable pub reply_at : List ℕ → List ℕ → List ℕ → Option Part
reply_at handle sender moment = option_map (λ n. Reply handle sender n) (decimal_in moment)

unfoldable pub mail_at : List ℕ → List ℕ → List ℕ → List ℕ → Option Part
mail_at number folder message flags = option_map (λ n. Mail n folder message flags) (decimal_in number)

unfoldable pub copy_at : List ℕ → List ℕ → List ℕ → List ℕ → Option Part
copy_at number folder first flags = option_and_then (λ n. option_map (λ m. Copy n folder m flags) (decimal_in first)) (decimal_in number)

unfoldable pub notice_at : List ℕ → List ℕ → List ℕ → Option Part
notice_at number moment text = option_and_then (λ n. option_map (λ m. Notice n m text) (decimal_in moment)) (decimal_in number)

unfoldable pub four_at : List ℕ → List ℕ → List ℕ → List ℕ → Option Part
four_at word a b c =
    cond (same_text word (codes "mail")) (mail_at a b c [])
    (cond (same_text word (codes "copy")) (copy_at a b c [])
    (cond (same_text word (codes "reply")) (reply_at a b c)
    (cond (same_text word (codes "notice")) (notice_at a b c) None)))

unfoldable pub kind_at : List ℕ → Option LetterKind
kind_at word = cond (same_text word (codes "redirect")) (Some Redirect) (cond (same_text word (codes "answer")) (Some Answer) None)

unfoldable pub letter_at : List ℕ → List ℕ → List ℕ → List ℕ → List ℕ → Option Part
letter_at word id sender target message = option_and_then (λ kind. option_map (λ n. Letter n kind sender target message) (decimal_in id)) (kind_at word)

-- a field of flags that is there isn't empty
abbrev pub where_flags : List ℕ → Option Part → Option Part
where_flags [] part = None
where_flags (octet ∷ flags) part = part

unfoldable pub five_at : List ℕ → List ℕ → List ℕ → List ℕ → List ℕ → Option Part
five_at word a b c d =
    cond (same_text word (codes "mail")) (where_flags d (mail_at a b c d))
    (cond (same_text word (codes "copy")) (where_flags d (copy_at a b c d)) (letter_at word a b c d))

-- the part in the fields, if they are one's
unfoldable pub part_at : List (List ℕ) → Option Part
part_at [] = None
part_at (word ∷ []) = None
part_at (word ∷ a ∷ []) = None
part_at (word ∷ a ∷ b ∷ []) = script_at word a b
part_at (word ∷ a ∷ b ∷ c ∷ []) = four_at word a b c
part_at (word ∷ a ∷ b ∷ c ∷ d ∷ []) = five_at word a b c d
part_at (word ∷ a ∷ b ∷ c ∷ d ∷ e ∷ more) = None

-- the sum in the fields, if they are one's
unfoldable pub sum_at : List (List ℕ) → Option (List ℕ)
sum_at [] = None
sum_at (word ∷ []) = None
sum_at (word ∷ a ∷ []) = cond (same_text word (codes "sum")) (Some a) None
sum_at (word ∷ a ∷ b ∷ more) = None

-- whether the fields are those of the first line
unfoldable pub is_version : List (List ℕ) → Bool
is_version [] = false
is_version (word ∷ []) = false
is_version (word ∷ a ∷ []) = same_text word (codes "sieved-account") && same_text a (codes "1")
is_version (word ∷ a ∷ b ∷ more) = false
