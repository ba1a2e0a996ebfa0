-- Lemmas on the Q encoding.
use Rattle.std.proofs.Common.{◌≡◌, ◌≢◌, ◌==◌, ℕ, ◌+◌, ◌<◌, Option, None, Some, List, [], ◌∷◌, ◌++◌, length, drop, get_or, refl, sym, ap, ◌∙◌}
use Rattle.std.proofs.lemmas.List.{drop_more, append_assoc}
use Rattle.std.specs.Option.{option_map}
use Rattle.mail_words.specs.declared.quoted.Mode.{Mode}
use Rattle.std.proofs.lemmas.Bool.{false_from_ne_true, eqb-true}
use Rattle.mail_words.specs.declared.quoted.Mode.TheVariants.{InText}
use Rattle.mail_words.specs.Quoted.{IsMode, with_octet, quoted_from, quoted_of, with_read, after_step}

-- octets before what is still to come
abbrev pub onto : List ℕ → Option (List ℕ) → Option (List ℕ)
onto front more = option_map (λ octets. front ++ octets) more

-- these octets were read, and the text from here on gives the rest
pub record IsRead (text octets : List ℕ) (mode : Mode) (i : ℕ) : Type 0 where
  pub kept : IsMode mode
  pub left : onto octets (quoted_from mode (drop i text)) ≡ quoted_of text

onto-push : (octets : List ℕ) (octet : ℕ) (more : Option (List ℕ)) → onto octets (with_read (Some octet) more) ≡ onto (octets ++ octet ∷ []) more
onto-push octets octet None = refl
onto-push octets octet (Some rest) = ap Some (sym (append_assoc octets (octet ∷ []) rest))

-- what a step says of the text from here on
pub step_left : (text : List ℕ) (mode : Mode) (i octet : ℕ) (step : Option (Mode × Option ℕ)) → i < length text → octet ≡ get_or text i 0
    → ((rest : List ℕ) → quoted_from mode (octet ∷ rest) ≡ after_step step rest) → quoted_from mode (drop i text) ≡ after_step step (drop (i + 1) text)
step_left text mode i octet step short is reads =
    ap (quoted_from mode) (drop_more text i 0 short ∙ ap (λ o. o ∷ drop (i + 1) text) (sym is)) ∙ reads (drop (i + 1) text)

-- an octet was read
pub read_one : (text octets pushed : List ℕ) (mode next now : Mode) (i octet : ℕ) (read : Option ℕ) → read ≡ Some octet → IsRead text octets mode i → IsMode next
    → quoted_from mode (drop i text) ≡ with_read read (quoted_from next (drop (i + 1) text)) → pushed ≡ octets ++ octet ∷ [] → now ≡ next → IsRead text pushed now (i + 1)
read_one text octets pushed mode next now i octet read found so_far kept left is same = rw (same, is) (record {
  kept = kept;
  left =
      let more = quoted_from next (drop (i + 1) text) in
      sym (onto-push octets octet more) ∙ (ap (λ r. onto octets (with_read r more)) (sym found) ∙ (ap (onto octets) (sym left) ∙ so_far.left));
})

-- no octet was read
pub read_none : (text octets kept_octets : List ℕ) (mode next now : Mode) (i : ℕ) (read : Option ℕ) → read ≡ None → IsRead text octets mode i → IsMode next
    → quoted_from mode (drop i text) ≡ with_read read (quoted_from next (drop (i + 1) text)) → kept_octets ≡ octets → now ≡ next → IsRead text kept_octets now (i + 1)
read_none text octets kept_octets mode next now i read none so_far kept left is same = rw (same, is) (record {
  kept = kept;
  left = ap (λ r. onto octets (with_read r (quoted_from next (drop (i + 1) text)))) (sym none) ∙ (ap (onto octets) (sym left) ∙ so_far.left);
})

-- an octet other than `=` and `_`
pub plain_step : (octet : ℕ) (rest : List ℕ) → octet ≢ 61 → octet ≢ 95 → quoted_from InText (octet ∷ rest) ≡ with_octet octet (quoted_from InText rest)
plain_step octet rest mark low =
    let a = false_from_ne_true (octet == 61) (λ same. mark (eqb-true octet 61 same)) in
    let b = false_from_ne_true (octet == 95) (λ same. low (eqb-true octet 95 same)) in
    rw (a, b) refl
