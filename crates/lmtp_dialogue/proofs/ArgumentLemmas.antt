-- What MAIL and RCPT are about is one.
use Rattle.std.proofs.Common.{◌≡◌, ℕ, suc, true, List, [], ◌∷◌, ◌++◌, length, map, inl, inr, refl, sym, ap, ◌∙◌, subst, arith}
use Rattle.std.proofs.Math.Seq.{drop-append_seam}
use Rattle.std.proofs.Common.{drop}
use Rattle.std.specs.Char.{to_ascii_lowercase}
use Rattle.lmtp_dialogue.specs.Commands.{IsSameWord}
use Rattle.lmtp_dialogue.specs.Paths.{is_unquoted_octet, is_quoted_octet, AddressStands, EndsAddress, IsPath, FollowsRoute}
use Rattle.lmtp_dialogue.specs.Arguments.{IsAfterWord, IsPathArgument}
use Rattle.lmtp_dialogue.specs.declared.path.Quoting.{Quoting}
use Rattle.lmtp_dialogue.specs.declared.path.Quoting.TheVariants.{Outside, Inside, Escaped}
use Rattle.lmtp_dialogue.proofs.RouteLemmas.{one_bare}
use Rattle.lmtp_dialogue.proofs.TextLemmas.{same_first, same_others}

-- ---- behind a word

length-lowered : (xs : List ℕ) → length (map to_ascii_lowercase xs) ≡ length xs
length-lowered [] = refl
length-lowered (x ∷ xs) = ap suc (length-lowered xs)

same_length : (word front other : List ℕ) → IsSameWord word front → IsSameWord word other → length front ≡ length other
same_length word front other one two =
    sym (length-lowered front) ∙ (ap length (one ∙ sym two) ∙ length-lowered other)

pub one_after : (word text rest other : List ℕ) → IsAfterWord word text rest → IsAfterWord word text other → rest ≡ other
one_after word text rest other one two =
    let count = same_length word one.front two.front one.is two.is in
    sym (drop-append_seam one.front rest)
    ∙ (ap (drop (length one.front)) (sym one.written ∙ two.written)
    ∙ (ap (λ n. drop n (two.front ++ other)) count ∙ drop-append_seam two.front other))

-- ---- an address

-- no address goes on with `>` outside quotation marks
no_end : (rest : List ℕ) → AddressStands Outside (62 ∷ rest) → ⊥
no_end rest stands = elim stands [ inl quote ↦ absurd (omega (arith, quote.0)) | inr plain ↦ absurd (cc plain.0) ]

not_quote : (octet : ℕ) → octet ≡ 34 → is_unquoted_octet octet ≡ true → ⊥
not_quote octet is plain = absurd (cc (sym (ap is_unquoted_octet is) ∙ plain))

not_mark : (octet : ℕ) → octet ≡ 34 → is_quoted_octet octet ≡ true → ⊥
not_mark octet is quotable = absurd (cc (sym (ap is_quoted_octet is) ∙ quotable))

not_slash : (octet : ℕ) → octet ≡ 92 → is_quoted_octet octet ≡ true → ⊥
not_slash octet is quotable = absurd (cc (sym (ap is_quoted_octet is) ∙ quotable))

abbrev One : Quoting → List ℕ → Type 0
One from address =
    (other rest more : List ℕ) → AddressStands from address → AddressStands from other → address ++ 62 ∷ rest ≡ other ++ 62 ∷ more → address ≡ other

one_stands : (address : List ℕ) (from : Quoting) → One from address
one_stands [] from [] rest more first second same = refl
one_stands [] Outside (octet ∷ other) rest more first second same =
    absurd (no_end other (subst (λ o. AddressStands Outside (o ∷ other)) (sym (same_first 62 octet rest (other ++ 62 ∷ more) same)) second))
one_stands [] Inside (octet ∷ other) rest more first second same = absurd first
one_stands [] Escaped (octet ∷ other) rest more first second same = absurd first
one_stands (octet ∷ address) Outside [] rest more first second same =
    absurd (no_end address (subst (λ o. AddressStands Outside (o ∷ address)) (same_first octet 62 (address ++ 62 ∷ rest) more same) first))
one_stands (octet ∷ address) Inside [] rest more first second same = absurd second
one_stands (octet ∷ address) Escaped [] rest more first second same = absurd second
one_stands (octet ∷ address) from (next ∷ other) rest more first second same =
    let here = same_first octet next (address ++ 62 ∷ rest) (other ++ 62 ∷ more) same in
    let there = same_others octet next (address ++ 62 ∷ rest) (other ++ 62 ∷ more) same in
    ap (λ o. o ∷ address) here
    ∙ ap (λ t. next ∷ t) (goes from octet address other rest more (one_stands address) first (subst (λ o. AddressStands from (o ∷ other)) (sym here) second) there)
  where
    goes : (from : Quoting) (octet : ℕ) (address other rest more : List ℕ) → ((to : Quoting) → One to address) → AddressStands from (octet ∷ address)
        → AddressStands from (octet ∷ other) → address ++ 62 ∷ rest ≡ other ++ 62 ∷ more → address ≡ other
    goes Outside octet address other rest more later first second same = elim first [
      | inl quote ↦ elim second [
        | inl mark ↦ later Inside other rest more quote.1 mark.1 same
        | inr plain ↦ absurd (not_quote octet quote.0 plain.0)
      ]
      | inr plain ↦ elim second [
        | inl quote ↦ absurd (not_quote octet quote.0 plain.0)
        | inr bare ↦ later Outside other rest more plain.1 bare.1 same
      ]
    ]
    goes Inside octet address other rest more later first second same = elim first [
      | inl quote ↦ elim second [
        | inl mark ↦ later Outside other rest more quote.1 mark.1 same
        | inr (inl slash) ↦ absurd (omega (arith, quote.0, slash.0))
        | inr (inr quotable) ↦ absurd (not_mark octet quote.0 quotable.0)
      ]
      | inr (inl slash) ↦ elim second [
        | inl mark ↦ absurd (omega (arith, mark.0, slash.0))
        | inr (inl back) ↦ later Escaped other rest more slash.1 back.1 same
        | inr (inr quotable) ↦ absurd (not_slash octet slash.0 quotable.0)
      ]
      | inr (inr quotable) ↦ elim second [
        | inl mark ↦ absurd (not_mark octet mark.0 quotable.0)
        | inr (inl slash) ↦ absurd (not_slash octet slash.0 quotable.0)
        | inr (inr again) ↦ later Inside other rest more quotable.1 again.1 same
      ]
    ]
    goes Escaped octet address other rest more later first second same = later Inside other rest more first.1 second.1 same

pub one_address : (text address rest other more : List ℕ) → EndsAddress text address rest → EndsAddress text other more → address ≡ other
one_address text address rest other more first second = one_stands address Outside other rest more first.is second.is (sym first.written ∙ second.written)

pub one_path : (text address rest other more : List ℕ) → IsPath text address rest → IsPath text other more → address ≡ other
one_path text address rest other more first second =
    let inner : first.inner ≡ second.inner = same_others 60 60 first.inner second.inner (sym first.opened ∙ second.opened) in
    let bare : first.bare ≡ second.bare =
    one_bare second.inner first.bare second.bare (subst (λ t. FollowsRoute t first.bare) inner first.follows) second.follows in
    one_address second.bare address rest other more (subst (λ t. EndsAddress t address rest) bare first.ends) second.ends

-- ---- no address

pub no_addressed : (word : List ℕ) (Takes : List ℕ → Type 0) (argument text : List ℕ) → IsAfterWord word argument text
    → ((address rest : List ℕ) → IsPath text address rest → ⊥) → (address rest : List ℕ) → IsPathArgument word Takes argument address rest → ⊥
no_addressed word Takes argument text after none address rest is =
    none address rest (subst (λ t. IsPath t address rest) (one_after word argument is.path text is.after after) is.is)

pub not_taken : (word : List ℕ) (Takes : List ℕ → Type 0) (argument text address rest : List ℕ) → IsAfterWord word argument text → IsPath text address rest
    → (Takes address → ⊥) → (other more : List ℕ) → IsPathArgument word Takes argument other more → ⊥
not_taken word Takes argument text address rest after path none other more is =
    let same : other ≡ address =
    one_path text other more address rest (subst (λ t. IsPath t other more) (one_after word argument is.path text is.after after) is.is) path in
    none (subst Takes same is.takes)
