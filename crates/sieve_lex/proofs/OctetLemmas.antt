-- Octets that are looked for, and those before them.
use Rattle.std.proofs.Common.{◌≡◌, ℕ, ◌+◌, ◌-◌, ◌<◌, ◌≤◌, true, false, List, get_or, length, drop, refl, sym, ◌∙◌, ⊎_elim, arith}
use Rattle.std.proofs.Math.ListN.{get_or-eq_default}
use Rattle.std.proofs.lemmas.Bool.{cases_lt, le-ltb}
use Rattle.std.proofs.lemmas.List.Folds.{list_all_at}
use Rattle.std.specs.Char.{is_ascii}
use Rattle.std.specs.List.{list_all}
use Rattle.std.specs.Str.{IsAscii}
use Rattle.std.proofs.lemmas.List.{get_or-drop}
use Rattle.memchr.specs.Find.{Nowhere, Passes, is_byte2}

-- no octet from a place of the text on is a NUL or a CR, for so many octets
abbrev pub IsClean : List ℕ → ℕ → ℕ → Type 0
IsClean text at n = Nowhere (Passes (is_byte2 0 13) (drop at text)) 0 n

nul_passes : (text : List ℕ) (at k : ℕ) → at ≤ k → get_or text k 0 ≡ 0 → Passes (is_byte2 0 13) (drop at text) (k - at)
nul_passes text at k low is =
    let place : at + (k - at) ≡ k = omega (arith, low) in
    rw (get_or-drop at text (k - at) 0, place, is) refl

cr_passes : (text : List ℕ) (at k : ℕ) → at ≤ k → get_or text k 0 ≡ 13 → Passes (is_byte2 0 13) (drop at text) (k - at)
cr_passes text at k low is =
    let place : at + (k - at) ≡ k = omega (arith, low) in
    rw (get_or-drop at text (k - at) 0, place, is) refl

-- no NUL stands before a place, nor in what is clean from there on
pub no_nul_more : (text : List ℕ) (at n : ℕ) → ((k : ℕ) → k < at → get_or text k 0 ≡ 0 → ⊥) → IsClean text at n
    → (k : ℕ) → k < at + n → get_or text k 0 ≡ 0 → ⊥
no_nul_more text at n before clean k short is = ⊎_elim
    (λ less. before k less is)
    (λ from. clean (k - at) (omega arith) (omega (arith, short, from)) (nul_passes text at k from is))
    (cases_lt k at)

-- no lone CR stands before a place, and no CR in what is clean from there on
pub no_lone_cr_more : (text : List ℕ) (at n : ℕ) → ((k : ℕ) → k < at → get_or text k 0 ≡ 13 → get_or text (k + 1) 0 ≡ 10) → IsClean text at n
    → (k : ℕ) → k < at + n → get_or text k 0 ≡ 13 → get_or text (k + 1) 0 ≡ 10
no_lone_cr_more text at n before clean k short is = ⊎_elim
    (λ less. before k less is)
    (λ from. absurd (clean (k - at) (omega arith) (omega (arith, short, from)) (cr_passes text at k from is)))
    (cases_lt k at)

-- octets each of which is ASCII
pub ascii_is : (text : List ℕ) → list_all is_ascii text ≡ true → IsAscii text
ascii_is text all i = ⊎_elim
    (λ inside. ⊎_elim
    (λ small. small)
    (λ large. let e : true ≡ false = sym all ∙ list_all_at is_ascii text i 0 inside (le-ltb (get_or text i 0) 128 large) in cc)
    (cases_lt (get_or text i 0) 128))
    (λ past. let none = get_or-eq_default text 0 past in omega (arith, none))
    (cases_lt i (length text))
