-- An address, octet by octet.
use Rattle.std.proofs.Common.{◌≡◌, ℕ, zero, suc, ◌+◌, ◌<◌, ◌≤◌, List, [], ◌∷◌, ◌++◌, length, take, drop, get_or, Some, None, inl, inr, refl, sym, ap, ◌∙◌, subst, append-nil, length-append, arith}
use Rattle.std.proofs.Math.ListN.{get_or-append}
use Rattle.std.proofs.Math.Seq.{take-append_seam}
use Rattle.std.proofs.lemmas.Bool.{cases_order}
use Rattle.std.proofs.lemmas.List.{take-append-drop, take-append-le}
use Rattle.lmtp_dialogue.specs.Paths.{AddressStands, EndsAddress, AddressStepsTo}
use Rattle.lmtp_dialogue.specs.declared.path.Quoting.{Quoting}
use Rattle.lmtp_dialogue.specs.declared.path.Quoting.TheVariants.{Outside, Inside, Escaped}

-- ---- lists

pub take_next : (text : List ℕ) (at : ℕ) (more : List ℕ) → at < length text → take (at + 1) text ++ more ≡ take at text ++ (get_or text at 0 ∷ more)
take_next [] at more less = absurd (omega arith)
take_next (octet ∷ text) zero more less = refl
take_next (octet ∷ text) (suc at) more less =
    ap (λ n. take n (octet ∷ text) ++ more) (next at) ∙ ap (λ t. octet ∷ t) (take_next text at more (omega arith))
  where
    next : (at : ℕ) → suc at + 1 ≡ suc (at + 1)
    next at = omega arith

pub behind : (front : List ℕ) (octet : ℕ) (rest : List ℕ) → get_or (front ++ octet ∷ rest) (length front) 0 ≡ octet
behind [] octet rest = refl
behind (first ∷ front) octet rest = behind front octet rest

-- ---- so many octets of a text were looked at

pub record SoFar (text : List ℕ) (at : ℕ) (quoting : Quoting) : Type 0 where
  pub forth : (more : List ℕ) → AddressStands quoting more → AddressStands Outside (take at text ++ more)
  pub back : (more : List ℕ) → AddressStands Outside (take at text ++ more) → AddressStands quoting more
  pub none : (j : ℕ) → j < at → get_or text j 0 ≡ 62 → AddressStands Outside (take j text) → ⊥

pub begin : (text : List ℕ) → SoFar text 0 Outside
begin text = record { forth = λ more stands. stands; back = λ more stands. stands; none = λ j less. absurd (omega arith) }

pub stands_none : (quoting : Quoting) → AddressStands quoting [] → quoting ≡ Outside
stands_none Outside stands = refl
stands_none Inside stands = absurd stands
stands_none Escaped stands = absurd stands

-- an address ends at a place only where quotation marks are closed
ends_outside : (text : List ℕ) (at : ℕ) (quoting : Quoting) → SoFar text at quoting → AddressStands Outside (take at text) → quoting ≡ Outside
ends_outside text at quoting so_far stands = stands_none quoting (so_far.back [] (subst (AddressStands Outside) (sym (append-nil (take at text))) stands))

pub step : (text : List ℕ) (at : ℕ) (from to : Quoting) → SoFar text at from → at < length text → AddressStepsTo from (get_or text at 0) (Some to)
    → ((from ≡ Outside) × (get_or text at 0 ≡ 62) → ⊥) → SoFar text (at + 1) to
step text at from to so_far less steps closed = record {
  forth = λ more stands. subst (AddressStands Outside) (sym (take_next text at more less)) (so_far.forth (get_or text at 0 ∷ more) (steps.0 more stands));
  back = λ more stands. steps.1 more (so_far.back (get_or text at 0 ∷ more) (subst (AddressStands Outside) (take_next text at more less) stands));
  none = λ j below is stands. elim (cases_order j at) [
    | inl same ↦ closed (ends_outside text at from so_far (subst (λ n. AddressStands Outside (take n text)) same stands), ap (λ n. get_or text n 0) (sym same) ∙ is)
    | inr (inl less) ↦ so_far.none j less is stands
    | inr (inr more) ↦ absurd (omega arith)
  ];
}

pub found : (text : List ℕ) (at : ℕ) (quoting : Quoting) → SoFar text at quoting → at < length text → quoting ≡ Outside → get_or text at 0 ≡ 62
    → EndsAddress text (take at text) (drop (at + 1) text)
found text at quoting so_far less outside is = record {
  is = subst (AddressStands Outside) (append-nil (take at text)) (so_far.forth [] (subst (λ q. AddressStands q []) (sym outside) tt));
  written =
      sym (take-append-drop (at + 1) text) ∙ (take_next text at (drop (at + 1) text) less
      ∙ ap (λ o. take at text ++ (o ∷ drop (at + 1) text)) is);
}

-- where an address ends, by its length
place_of : (text address rest : List ℕ) → text ≡ address ++ 62 ∷ rest → get_or text (length address) 0 ≡ 62
place_of text address rest written = ap (λ t. get_or t (length address) 0) written ∙ behind address 62 rest

front_of : (text address rest : List ℕ) → text ≡ address ++ 62 ∷ rest → take (length address) text ≡ address
front_of text address rest written = ap (take (length address)) written ∙ take-append_seam address (62 ∷ rest)

ends_before : (text : List ℕ) (at : ℕ) (quoting : Quoting) → SoFar text at quoting → (address rest : List ℕ) → EndsAddress text address rest → length address < at → ⊥
ends_before text at quoting so_far address rest ends less =
    so_far.none (length address) less (place_of text address rest ends.written) (subst (AddressStands Outside) (sym (front_of text address rest ends.written)) ends.is)

pub none_at_end : (text : List ℕ) (at : ℕ) (quoting : Quoting) → SoFar text at quoting → length text ≤ at → (address rest : List ℕ) → EndsAddress text address rest → ⊥
none_at_end text at quoting so_far all address rest ends =
    ends_before text at quoting so_far address rest ends (omega (arith, all, ap length ends.written ∙ length-append address (62 ∷ rest)))

pub none_from : (text : List ℕ) (at : ℕ) (quoting : Quoting) → SoFar text at quoting → at < length text → AddressStepsTo quoting (get_or text at 0) None
    → ((quoting ≡ Outside) × (get_or text at 0 ≡ 62) → ⊥) → (address rest : List ℕ) → EndsAddress text address rest → ⊥
none_from text at quoting so_far less steps closed address rest ends =
    let front = front_of text address rest ends.written in
    elim (cases_order (length address) at) [
      | inl same ↦
          let stands : AddressStands Outside (take at text) = subst (λ n. AddressStands Outside (take n text)) same (subst (AddressStands Outside) (sym front) ends.is) in
          closed (ends_outside text at quoting so_far stands, ap (λ n. get_or text n 0) (sym same) ∙ place_of text address rest ends.written)
      | inr (inl below) ↦ ends_before text at quoting so_far address rest ends below
      | inr (inr above) ↦ steps (drop (at + 1) address) (so_far.back (get_or text at 0 ∷ drop (at + 1) address) (subst (AddressStands Outside) (goes_on above) ends.is))
    ]
  where
    goes_on : at < length address → address ≡ take at text ++ (get_or text at 0 ∷ drop (at + 1) address)
    goes_on above =
        let own = sym (take-append-drop (at + 1) address) ∙ take_next address at (drop (at + 1) address) above in
        let front : take at address ≡ take at text = sym (take-append-le at address (62 ∷ rest) (omega (arith, above))) ∙ ap (take at) (sym ends.written) in
        let here : get_or address at 0 ≡ get_or text at 0 = sym (get_or-append address (62 ∷ rest) 0 at above) ∙ ap (λ t. get_or t at 0) (sym ends.written) in
        own ∙ (ap (λ f. f ++ (get_or address at 0 ∷ drop (at + 1) address)) front ∙ ap (λ o. take at text ++ (o ∷ drop (at + 1) address)) here)
