-- The names under which the account of a recipient is looked for.
use Rattle.std.specs.Prelude.{◌≡◌, ◌≢◌, ◌⊎◌, ℕ, ◌==◌, ◌≤◌, cond, not, if◌then◌else◌, nat_eq, List, [], ◌∷◌, ◌++◌, length, take}
use Rattle.std.specs.Cmp.Lexicographic.{pointwise}
use Rattle.std.specs.List.{All, list_any, prefix_len}
use Rattle.octets.specs.Ascii.{lowered}
use Rattle.lmtp_dialogue.specs.Paths.{IsPathAddress}
use Rattle.lmtp_dialogue.specs.declared.name.Names.{Names}
use Rattle.lmtp_dialogue.specs.declared.name.Names.TheVariants.{Local, Whole}
use Rattle.lmtp_dialogue.specs.declared.path.Quoting.{Quoting}
use Rattle.lmtp_dialogue.specs.declared.path.Quoting.TheVariants.{Outside, Inside, Escaped}

-- ---- the parts of an address (RFC 5321, section 4.1.2)

-- an `@` outside quotation marks, with what comes before it and after it
abbrev pub HasAt : List ℕ → List ℕ → List ℕ → Type 0
HasAt address front back = IsPathAddress front × (address ≡ front ++ 64 ∷ back)

-- there is none, and the address is the local part; or the last one comes after it
abbrev pub SplitsAddress : List ℕ → List ℕ → List ℕ → Type 0
SplitsAddress address local tail =
    ((local ≡ address) × (tail ≡ []) × ((front back : List ℕ) → HasAt address front back → ⊥))
    ⊎ ((domain : List ℕ) × (tail ≡ 64 ∷ domain) × HasAt address local domain × ((front back : List ℕ) → HasAt address front back → length front ≤ length local))

-- what a local part means: its octets without quotation marks, and without the backslashes between them
abbrev pub unquoted_local : Quoting → List ℕ → List ℕ
unquoted_local quoting [] = []
unquoted_local Outside (octet ∷ rest) = if octet == 34 then unquoted_local Inside rest else octet ∷ unquoted_local Outside rest
unquoted_local Inside (octet ∷ rest) =
    if octet == 34 then unquoted_local Outside rest else (if octet == 92 then unquoted_local Escaped rest else octet ∷ unquoted_local Inside rest)
unquoted_local Escaped (octet ∷ rest) = octet ∷ unquoted_local Inside rest

-- ---- the forms of a name

-- what comes before the first `+`, if anything does (subaddressing: RFC 5233)
abbrev pub bare_length : List ℕ → ℕ
bare_length text = prefix_len (λ octet. not (octet == 43)) text

abbrev pub without_detail : List ℕ → List ℕ
without_detail text = if bare_length text == 0 then text else take (bare_length text) text

-- one form more, unless it is there
abbrev pub with_form : List (List ℕ) → List ℕ → List (List ℕ)
with_form forms form = cond (list_any (λ there. pointwise nat_eq there form) forms) forms (forms ++ form ∷ [])

-- as it is, in lower case, without the detail, and both
abbrev pub forms_of : List ℕ → List ℕ → List (List ℕ)
forms_of name bare = with_form (with_form (with_form (name ∷ []) (lowered name)) bare) (lowered bare)

-- by the local part, or by the address as it is written
abbrev pub local_forms : List ℕ → List (List ℕ)
local_forms local = let text = unquoted_local Outside local in forms_of text (without_detail text)

abbrev pub whole_forms : List ℕ → List ℕ → List (List ℕ)
whole_forms local tail = forms_of (local ++ tail) (without_detail local ++ tail)

abbrev pub forms_by : Names → List ℕ → List ℕ → List (List ℕ)
forms_by Local local tail = local_forms local
forms_by Whole local tail = whole_forms local tail

-- the names of a recipient in the order in which an account is looked for
abbrev pub AreForms : Names → List ℕ → List (List ℕ) → Type 0
AreForms names address forms = (local tail : List ℕ) × SplitsAddress address local tail × (forms ≡ forms_by names local tail)

-- ---- laws

-- the name as it is, in lower case, without the detail, or both
abbrev pub IsForm : List ℕ → List ℕ → List ℕ → Type 0
IsForm name bare form = (form ≡ name) ⊎ ((form ≡ lowered name) ⊎ ((form ≡ bare) ⊎ (form ≡ lowered bare)))

-- no form comes again after itself
abbrev pub AreFormsApart : List (List ℕ) → Type 0
AreFormsApart [] = Unit {0}
AreFormsApart (form ∷ others) = (All (λ other. other ≢ form) others) × AreFormsApart others

-- each is one of the four, all four are there, the first first, and none twice
pub record FormsStand : Type 0 where
  pub parts : (address a b x y : List ℕ) → SplitsAddress address a x → SplitsAddress address b y → (a ≡ b) × (x ≡ y)
  pub each : (name bare : List ℕ) → All (IsForm name bare) (forms_of name bare)
  pub apart : (name bare : List ℕ) → AreFormsApart (forms_of name bare)

-- ---- how the parts are found

-- one more octet was looked at: if it is an `@` outside quotation marks, the local part ends there
abbrev pub EndsLocal : ℕ → ℕ → Quoting → ℕ → ℕ → Type 0
EndsLocal count at quoting octet found =
    ((quoting ≡ Outside) × (octet ≡ 64) × (found ≡ at)) ⊎ (((quoting ≡ Outside) × (octet ≡ 64) → ⊥) × (found ≡ count))
