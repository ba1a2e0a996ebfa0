-- A netstring and a line of them tell where they end.
use Rattle.std.proofs.Common.{◌≡◌, ℕ, ◌<◌, true, List, [], ◌∷◌, ◌++◌, length, take, decimal, Option, Some, None, refl, sym, ap, ◌∙◌, subst, arith, append_assoc}
use Rattle.std.specs.Prelude.{IfSome, IfNone}
use Rattle.std.specs.Borrow.{Bor}
use Rattle.std.specs.List.{flat_map, list_all}
use Rattle.std.proofs.lemmas.Bool.{and_parts}
use Rattle.std.proofs.lemmas.Fmt.{decimal_injective, decimal_nonempty}
use Rattle.std.proofs.lemmas.List.{append_cancel_left, append-nil, take_at, map_push, length-append}
use Rattle.std.proofs.lemmas.List.Concat.{flat_map-append}
use Rattle.store_text.specs.Netstring.{netstring, line, IsNetstringField, AreFields, CutsAtMark, decimal_in, other, texts}
use Rattle.store_text.proofs.CutLemmas.{one_cut, own_mark, head_same, tail_same}
use Rattle.store_text.proofs.NumberLemmas.{colonless, feedless, number_written, number_again}

-- what is behind a netstring
pub netstring_then : (text more : List ℕ) → netstring text ++ more ≡ decimal (length text) ++ 58 ∷ (text ++ 44 ∷ more)
unfolding netstring
netstring_then text more = append_assoc (decimal (length text)) (58 ∷ (text ++ 44 ∷ [])) more ∙ ap (λ t. decimal (length text) ++ 58 ∷ t) (append_assoc text (44 ∷ []) more)

-- the cut at the first colon is that behind its length
pub length_cut : (octets digits rest text more : List ℕ) → CutsAtMark 58 octets digits rest → IsNetstringField text → octets ≡ netstring text ++ more → (digits ≡ decimal (length text)) × (rest ≡ text ++ 44 ∷ more)
length_cut octets digits rest text more cut small is =
    one_cut 58 digits (decimal (length text)) rest (text ++ 44 ∷ more) (sym cut.written ∙ is ∙ netstring_then text more) cut.first (colonless (length text) (omega (arith, small)))

pub length_found : (octets digits rest text more : List ℕ) (found : Option ℕ) → CutsAtMark 58 octets digits rest → found ≡ decimal_in digits → IsNetstringField text → octets ≡ netstring text ++ more → found ≡ Some (length text)
length_found octets digits rest text more found cut read small is =
    let same = length_cut octets digits rest text more cut small is in
    read ∙ ap decimal_in same.0 ∙ number_again (length text) (omega (arith, small))

-- the text of that length and the comma behind the colon make a netstring
pub netstring_made : (octets digits rest text more : List ℕ) (size : ℕ) → CutsAtMark 58 octets digits rest → Some size ≡ decimal_in digits → rest ≡ text ++ 44 ∷ more → length text ≡ size → octets ≡ netstring text ++ more
netstring_made octets digits rest text more size cut read behind sized =
    let number : digits ≡ decimal size = (number_written digits size (sym read)).0 in
    cut.written ∙ ap (λ d. d ++ 58 ∷ rest) (number ∙ ap decimal (sym sized)) ∙ ap (λ r. decimal (length text) ++ 58 ∷ r) behind ∙ sym (netstring_then text more)

abbrev Taken : Type 0
Taken = Option (Bor (List ℕ) × Bor (List ℕ))

module _ (octets digits rest : List ℕ) (size : ℕ) (cut : CutsAtMark 58 octets digits rest) (read : Some size ≡ decimal_in digits) where
  pub taken_made : (r : Taken) → IfSome r (λ taken. (rest ≡ taken.0.now ++ 44 ∷ taken.1.now) × (length taken.0.now ≡ size)) → IfSome r (λ taken. octets ≡ netstring taken.0.now ++ taken.1.now)
  taken_made None h = tt
  taken_made (Some t) h = netstring_made octets digits rest t.0.now t.1.now size cut read h.0 h.1

  pub taken_small : (r : Taken) → IfSome r (λ taken. (rest ≡ taken.0.now ++ 44 ∷ taken.1.now) × (length taken.0.now ≡ size)) → IfSome r (λ taken. IsNetstringField taken.0.now)
  taken_small None h = tt
  taken_small (Some t) h = let small = (number_written digits size (sym read)).1 in omega (arith, h.1, small)

  pub taken_none : (r : Taken) → IfNone r ((text more : List ℕ) → length text ≡ size → rest ≡ text ++ 44 ∷ more → ⊥) → IfNone r ((text more : List ℕ) → IsNetstringField text → octets ≡ netstring text ++ more → ⊥)
  taken_none None h = λ text more small is.
      let found = length_found octets digits rest text more (Some size) cut read small is in
      let same : size ≡ length text = cc in
      h text more (sym same) (length_cut octets digits rest text more cut small is).1
  taken_none (Some t) h = tt

-- what begins with a netstring begins with one in one way
pub one_netstring : (a b x y : List ℕ) → IsNetstringField a → IsNetstringField b → netstring a ++ x ≡ netstring b ++ y → (a ≡ b) × (x ≡ y)
one_netstring a b x y small_a small_b is =
    let cuts = one_cut 58 (decimal (length a)) (decimal (length b)) (a ++ 44 ∷ x) (b ++ 44 ∷ y) (sym (netstring_then a x) ∙ is ∙ netstring_then b y) (colonless (length a) (omega (arith, small_a))) (colonless (length b) (omega (arith, small_b))) in
    let sizes : length a ≡ length b = decimal_injective (length a) (length b) (omega (arith, small_a)) (omega (arith, small_b)) cuts.0 in
    let texts : a ≡ b = sym (take_at a (44 ∷ x) (length a) refl) ∙ ap (take (length a)) cuts.1 ∙ take_at b (44 ∷ y) (length a) (sym sizes) in
    (texts, tail_same 44 44 x y (append_cancel_left a (44 ∷ x) (44 ∷ y) (cuts.1 ∙ ap (λ t. t ++ 44 ∷ y) (sym texts))))

-- ---- lines

pub line_then : (field : List ℕ) (fields : List (List ℕ)) (more : List ℕ) → line (field ∷ fields) ++ more ≡ netstring field ++ (line fields ++ more)
unfolding line
line_then field fields more = ap (λ t. t ++ more) (append_assoc (netstring field) (flat_map netstring fields) (10 ∷ [])) ∙ append_assoc (netstring field) (flat_map netstring fields ++ 10 ∷ []) more

pub line_ends : (more : List ℕ) → line [] ++ more ≡ 10 ∷ more
unfolding line
line_ends more = refl

-- no netstring begins with LF
pub no_feed : (text more rest : List ℕ) → IsNetstringField text → netstring text ++ more ≡ 10 ∷ rest → ⊥
no_feed text more rest small is = go (decimal (length text)) (decimal_nonempty (length text) (omega (arith, small))) (feedless (length text) (omega (arith, small))) (sym (netstring_then text more) ∙ is)
  where
    go : (ds : List ℕ) → 0 < length ds → list_all (other 10) ds ≡ true → ds ++ 58 ∷ (text ++ 44 ∷ more) ≡ 10 ∷ rest → ⊥
    go [] some none w = omega (arith, some)
    go (d ∷ ds) some none w = own_mark 10 (ap (other 10) (sym (head_same d 10 (ds ++ 58 ∷ (text ++ 44 ∷ more)) rest w)) ∙ (and_parts (other 10 d) (list_all (other 10) ds) none).0)

-- what begins with a line begins with one in one way
pub one_line : (fs gs : List (List ℕ)) (x y : List ℕ) → AreFields fs → AreFields gs → line fs ++ x ≡ line gs ++ y → (fs ≡ gs) × (x ≡ y)
one_line [] [] x y sa sb is = (refl, tail_same 10 10 x y (sym (line_ends x) ∙ is ∙ line_ends y))
one_line [] (b ∷ gs) x y sa sb is = absurd (no_feed b (line gs ++ y) x sb.0 (sym (line_then b gs y) ∙ sym is ∙ line_ends x))
one_line (a ∷ fs) [] x y sa sb is = absurd (no_feed a (line fs ++ x) y sa.0 (sym (line_then a fs x) ∙ is ∙ line_ends y))
one_line (a ∷ fs) (b ∷ gs) x y sa sb is =
    let first = one_netstring a b (line fs ++ x) (line gs ++ y) sa.0 sb.0 (sym (line_then a fs x) ∙ is ∙ line_then b gs y) in
    let later = one_line fs gs x y sa.1 sb.1 first.1 in
    (ap (λ t. t ∷ fs) first.0 ∙ ap (λ t. b ∷ t) later.0, later.1)

-- ---- a line that is taken field by field

pub record IsTaking (octets : List ℕ) (fields : List (Bor (List ℕ))) (rest : List ℕ) : Type 0 where
  pub taken : octets ≡ flat_map netstring (texts fields) ++ rest
  pub small : AreFields (texts fields)
  pub left : (all : List (List ℕ)) (more : List ℕ) → AreFields all → octets ≡ line all ++ more → (others : List (List ℕ)) × AreFields others × (rest ≡ line others ++ more)

pub taking_begins : (octets : List ℕ) → IsTaking octets [] octets
taking_begins octets = record { taken = refl; small = tt; left = λ fields more small is. (fields, small, is) }

module _ (octets : List ℕ) (taken : List (Bor (List ℕ))) (rest : List ℕ) (so_far : IsTaking octets taken rest) where
  pub taking_on : (field : Bor (List ℕ)) (more : List ℕ) → rest ≡ netstring field.now ++ more → IsNetstringField field.now → IsTaking octets (taken ++ field ∷ []) more
  taking_on field more is small = record {
    taken = so_far.taken ∙ ap (λ r. flat_map netstring (texts taken) ++ r) is ∙ sym (append_assoc (flat_map netstring (texts taken)) (netstring field.now) more)
        ∙ ap (λ t. t ++ more) (sym (flat_map-push (texts taken) field.now) ∙ ap (flat_map netstring) (sym (map_push (λ f. f.now) taken field)));
    small = subst AreFields (sym (map_push (λ f. f.now) taken field)) (fields_push (texts taken) field.now so_far.small small);
    left = λ fields behind smalls spelled. go behind (so_far.left fields behind smalls spelled);
  }
    where
      flat_map-push : (fs : List (List ℕ)) (f : List ℕ) → flat_map netstring (fs ++ f ∷ []) ≡ flat_map netstring fs ++ netstring f
      flat_map-push fs f = flat_map-append netstring fs (f ∷ []) ∙ ap (λ t. flat_map netstring fs ++ t) (append-nil (netstring f))

      fields_push : (fs : List (List ℕ)) (f : List ℕ) → AreFields fs → IsNetstringField f → AreFields (fs ++ f ∷ [])
      fields_push [] f all one = (one, tt)
      fields_push (g ∷ fs) f all one = (all.0, fields_push fs f all.1 one)

      go : (behind : List ℕ) → (others : List (List ℕ)) × AreFields others × (rest ≡ line others ++ behind) → (others : List (List ℕ)) × AreFields others × (more ≡ line others ++ behind)
      go behind ([], smalls, spelled) = absurd (no_feed field.now more behind small (sym is ∙ spelled ∙ line_ends behind))
      go behind (o ∷ os, smalls, spelled) = (os, smalls.1, (one_netstring field.now o more (line os ++ behind) small smalls.0 (sym is ∙ spelled ∙ line_then o os behind)).1)

  -- the line ends
  pub line_taken : (more : List ℕ) → rest ≡ 10 ∷ more → octets ≡ line (texts taken) ++ more
  unfolding line
  line_taken more is = so_far.taken ∙ ap (λ r. flat_map netstring (texts taken) ++ r) is ∙ sym (append_assoc (flat_map netstring (texts taken)) (10 ∷ []) more)

  -- what goes on with no field and no LF begins with no line
  pub line_lost : ((text more : List ℕ) → IsNetstringField text → rest ≡ netstring text ++ more → ⊥) → ((more : List ℕ) → rest ≡ 10 ∷ more → ⊥) → (fields : List (List ℕ)) (more : List ℕ) → AreFields fields → octets ≡ line fields ++ more → ⊥
  line_lost none ends fields more small spelled = go more (so_far.left fields more small spelled)
    where
      go : (more : List ℕ) → (others : List (List ℕ)) × AreFields others × (rest ≡ line others ++ more) → ⊥
      go more ([], smalls, is) = ends more (is ∙ line_ends more)
      go more (o ∷ os, smalls, is) = none o (line os ++ more) smalls.0 (is ∙ line_then o os more)

pub netstring_shrinks : (rest field more : List ℕ) → rest ≡ netstring field ++ more → length more < length rest
netstring_shrinks rest field more is =
    let whole : rest ≡ decimal (length field) ++ 58 ∷ (field ++ 44 ∷ more) = is ∙ netstring_then field more in
    omega (arith, ap length whole, length-append (decimal (length field)) (58 ∷ (field ++ 44 ∷ more)), length-append field (44 ∷ more))
