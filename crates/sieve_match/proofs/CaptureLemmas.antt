-- What the wildcards take, item by item: there is exactly one such list if the items match, and else none.
use Rattle.std.proofs.Common.{refl, ◌≡◌, ◌⊎◌, ℕ, zero, suc, ◌<◌, ◌≤◌, List, [], ◌∷◌, ◌++◌, length, drop, sym, ap, subst, ◌∙◌, ⊎_elim, inl, inr, arith, length-append}
use Rattle.std.proofs.lemmas.List.{drop_at}
use Rattle.std.proofs.lemmas.Bool.{cases_order, cases_eq}
use Rattle.std.specs.List.{concat}
use Rattle.sieve_match.specs.Glob.{Glob}
use Rattle.sieve_match.specs.Captures.{ItemTakes, ItemsTake, IsMatching, wildcard_pieces, TakesNoMore, AreCaptures}
use Rattle.sieve_match.specs.declared.pattern.GlobItem.{GlobItem}
use Rattle.sieve_match.specs.declared.pattern.GlobItem.TheVariants.{Star, One, Exact}

-- the octets of a list that begins with a known octet
cons_same : (x y : ℕ) (xs ys : List ℕ) → x ∷ xs ≡ y ∷ ys → (x ≡ y) × (xs ≡ ys)
cons_same x y xs ys e = let first : x ≡ y = cc in let rest : xs ≡ ys = cc in (first, rest)

-- two ways to split a list into parts of equal lengths are one
split_same : (a b c d : List ℕ) → length a ≡ length b → a ++ c ≡ b ++ d → (a ≡ b) × (c ≡ d)
split_same [] [] c d e same = (refl, same)
split_same [] (y ∷ b) c d e same = absurd (omega (arith, e))
split_same (x ∷ a) [] c d e same = absurd (omega (arith, e))
split_same (x ∷ a) (y ∷ b) c d e same =
    let parts = cons_same x y (a ++ c) (b ++ d) same in
    let rest = split_same a b c d (omega (arith, e)) parts.1 in
    let head : x ≡ y = parts.0 in
    let tail : a ≡ b = rest.0 in
    let whole : x ∷ a ≡ y ∷ b = cc in
    (whole, rest.1)

module _ (f : ℕ → ℕ) where
  -- a matching of no items is of the empty text
  matching_nil : IsMatching f [] [] []
  unfolding ItemsTake
  matching_nil = record { joined = refl; takes = tt }

  -- a matching, an item more
  matching_more : (item : GlobItem) (rest : List GlobItem) (piece text : List ℕ) (pieces : List (List ℕ)) → ItemTakes f item piece → IsMatching f rest text pieces
      → IsMatching f (item ∷ rest) (piece ++ text) (piece ∷ pieces)
  unfolding ItemsTake
  matching_more item rest piece text pieces here m = record { joined = ap (λ l. piece ++ l) m.joined; takes = (here, m.takes) }

  -- and an item less
  pub Less : (item : GlobItem) (rest : List GlobItem) (text : List ℕ) (pieces : List (List ℕ)) → Type 0
  Less item rest text pieces = (piece : List ℕ) × ((others : List (List ℕ)) × (pieces ≡ piece ∷ others) × ItemTakes f item piece × (text ≡ piece ++ concat others)
      × IsMatching f rest (concat others) others)

  matching_less : (item : GlobItem) (rest : List GlobItem) (text : List ℕ) (pieces : List (List ℕ)) → IsMatching f (item ∷ rest) text pieces → Less item rest text pieces
  unfolding Less ItemsTake
  matching_less item rest text [] m = absurd m.takes
  matching_less item rest text (piece ∷ others) m =
      (piece, (others, refl, m.takes.0, sym m.joined, record { joined = refl; takes = m.takes.1 }))

  -- a matching is a match
  pub matching_Glob : (items : List GlobItem) (text : List ℕ) (pieces : List (List ℕ)) → IsMatching f items text pieces → Glob f items text
  unfolding Glob ItemsTake ItemTakes
  matching_Glob [] text [] m = sym m.joined
  matching_Glob [] text (piece ∷ pieces) m = absurd m.takes
  matching_Glob (Star ∷ rest) text [] m = absurd m.takes
  matching_Glob (Star ∷ rest) text (piece ∷ pieces) m =
      let whole : piece ++ concat pieces ≡ text = m.joined in
      let left : drop (length piece) text ≡ concat pieces = ap (drop (length piece)) (sym whole) ∙ drop_at piece (concat pieces) (length piece) refl in (
        length piece,
        omega (arith, length-append piece (concat pieces), ap length whole),
        matching_Glob rest (drop (length piece) text) pieces (record { joined = sym left; takes = m.takes.1 }),
      )
  matching_Glob (One ∷ rest) text [] m = absurd m.takes
  matching_Glob (One ∷ rest) text (piece ∷ pieces) m =
      let x : ℕ = m.takes.0.0 in
      let one : piece ≡ x ∷ [] = m.takes.0.1 in
      subst (Glob f (One ∷ rest)) (ap (λ p. p ++ concat pieces) (sym one) ∙ m.joined)
      (matching_Glob rest (concat pieces) pieces (record { joined = refl; takes = m.takes.1 }))
  matching_Glob (Exact octet ∷ rest) text [] m = absurd m.takes
  matching_Glob (Exact octet ∷ rest) text (piece ∷ pieces) m =
      let x : ℕ = m.takes.0.0 in
      let one : piece ≡ x ∷ [] = m.takes.0.1 in
      subst (Glob f (Exact octet ∷ rest)) (ap (λ p. p ++ concat pieces) (sym one) ∙ m.joined)
      (m.takes.0.2, matching_Glob rest (concat pieces) pieces (record { joined = refl; takes = m.takes.1 }))

  -- no items take nothing
  pub captures_nil : AreCaptures f [] [] []
  unfolding wildcard_pieces TakesNoMore
  captures_nil = record { pieces = []; matching = matching_nil; taken = refl; least = λ others m. tt }

  module _ (rest : List GlobItem) (text : List ℕ) (cs : List (List ℕ)) (after : AreCaptures f rest text cs) where
    -- `?` takes the first octet
    pub captures_one_more : (x : ℕ) → AreCaptures f (One ∷ rest) (x ∷ text) ((x ∷ []) ∷ cs)
    unfolding wildcard_pieces TakesNoMore ItemTakes Less
    captures_one_more x = record {
      pieces = (x ∷ []) ∷ after.pieces;
      matching = matching_more One rest (x ∷ []) text after.pieces (x, refl) after.matching;
      taken = ap (λ l. (x ∷ []) ∷ l) after.taken;
      least = λ others m.
          let less = matching_less One rest (x ∷ text) others m in
          let piece : List ℕ = less.0 in
          let pieces : List (List ℕ) = less.1.0 in
          let y : ℕ = less.1.2.0 in
          let one : piece ≡ y ∷ [] = less.1.2.1 in
          let split = cons_same x y text (concat pieces) (less.1.3 ∙ ap (λ p. p ++ concat pieces) one) in
          let same : 1 ≡ length piece = sym (ap length one) in
          let own : IsMatching f rest text pieces = subst (λ t. IsMatching f rest t pieces) (sym split.1) less.1.4 in
          subst (λ l. TakesNoMore ((x ∷ []) ∷ cs) (wildcard_pieces (One ∷ rest) l)) (sym less.1.1) (inr (same, after.least pieces own));
    }

    -- an octet takes itself, and no wildcard does
    pub captures_exact_more : (octet x : ℕ) → f octet ≡ f x → AreCaptures f (Exact octet ∷ rest) (x ∷ text) cs
    unfolding wildcard_pieces TakesNoMore ItemTakes Less
    captures_exact_more octet x image = record {
      pieces = (x ∷ []) ∷ after.pieces;
      matching = matching_more (Exact octet) rest (x ∷ []) text after.pieces (x, refl, image) after.matching;
      taken = after.taken;
      least = λ others m.
          let less = matching_less (Exact octet) rest (x ∷ text) others m in
          let piece : List ℕ = less.0 in
          let pieces : List (List ℕ) = less.1.0 in
          let y : ℕ = less.1.2.0 in
          let one : piece ≡ y ∷ [] = less.1.2.1 in
          let split = cons_same x y text (concat pieces) (less.1.3 ∙ ap (λ p. p ++ concat pieces) one) in
          let own : IsMatching f rest text pieces = subst (λ t. IsMatching f rest t pieces) (sym split.1) less.1.4 in
          subst (λ l. TakesNoMore cs (wildcard_pieces (Exact octet ∷ rest) l)) (sym less.1.1) (after.least pieces own);
    }

    -- a star takes the octets up to the first place from which the items after it match
    pub captures_star_more : (piece : List ℕ) → ((j : ℕ) → j < length piece → Glob f rest (drop j (piece ++ text)) → ⊥)
        → AreCaptures f (Star ∷ rest) (piece ++ text) (piece ∷ cs)
    unfolding wildcard_pieces TakesNoMore ItemTakes Less
    captures_star_more piece before = record {
      pieces = piece ∷ after.pieces;
      matching = matching_more Star rest piece text after.pieces tt after.matching;
      taken = ap (λ l. piece ∷ l) after.taken;
      least = λ others m.
          let less = matching_less Star rest (piece ++ text) others m in
          let own : List ℕ = less.0 in
          let pieces : List (List ℕ) = less.1.0 in
          let match : IsMatching f rest (concat pieces) pieces = less.1.4 in
          let whole : piece ++ text ≡ own ++ concat pieces = less.1.3 in
          subst (λ l. TakesNoMore (piece ∷ cs) (wildcard_pieces (Star ∷ rest) l)) (sym less.1.1)
          (⊎_elim
          (λ same.
          let split = split_same piece own text (concat pieces) same whole in
          inr (same, after.least pieces (subst (λ t. IsMatching f rest t pieces) (sym split.1) match)))
          (λ differ. ⊎_elim
          (λ shorter. inl shorter)
          (λ longer. absurd (before (length own) longer
          (subst (Glob f rest) (sym (ap (drop (length own)) whole ∙ drop_at own (concat pieces) (length own) refl)) (matching_Glob rest (concat pieces) pieces match))))
          differ)
          (cases_order (length piece) (length own)));
    }

  -- whether the items match, and then their captures
  Settled : List GlobItem → List ℕ → Type 0
  Settled items text = ((cs : List (List ℕ)) × AreCaptures f items text cs) ⊎ (Glob f items text → ⊥)

  -- a place within a text from which the items match
  pub record StarEnds (rest : List GlobItem) (text : List ℕ) : Type 0 where
    pub piece : List ℕ
    pub left : List ℕ
    pub captured : List (List ℕ)
    pub joined : piece ++ left ≡ text
    pub after : AreCaptures f rest left captured
    pub before : (j : ℕ) → j < length piece → Glob f rest (drop j text) → ⊥

  drop_nil : (k : ℕ) → let none : List ℕ = [] in drop k none ≡ none
  drop_nil zero = refl
  drop_nil (suc k) = refl

  before_more : (rest : List GlobItem) (x : ℕ) (xs : List ℕ) (n : ℕ) → (Glob f rest (x ∷ xs) → ⊥) → ((j : ℕ) → j < n → Glob f rest (drop j xs) → ⊥)
      → (j : ℕ) → j < suc n → Glob f rest (drop j (x ∷ xs)) → ⊥
  before_more rest x xs n none before zero low g = none g
  before_more rest x xs n none before (suc j) low g = before j (omega (arith, low)) g

  none_more : (rest : List GlobItem) (x : ℕ) (xs : List ℕ) → (Glob f rest (x ∷ xs) → ⊥) → ((k : ℕ) → k ≤ length xs → Glob f rest (drop k xs) → ⊥)
      → (k : ℕ) → k ≤ suc (length xs) → Glob f rest (drop k (x ∷ xs)) → ⊥
  none_more rest x xs none never zero within g = none g
  none_more rest x xs none never (suc k) within g = never k (omega (arith, within)) g

  -- the first such place, or there is none
  star_end : (rest : List GlobItem) → ((text : List ℕ) → Settled rest text) → (text : List ℕ)
      → StarEnds rest text ⊎ ((k : ℕ) → k ≤ length text → Glob f rest (drop k text) → ⊥)
  unfolding Settled
  star_end rest settle [] = ⊎_elim
      (λ found. inl (record { piece = []; left = []; captured = found.0; joined = refl; after = found.1; before = λ j low g. absurd (omega (arith, low)) }))
      (λ none. inr (λ k within g. none (subst (Glob f rest) (drop_nil k) g)))
      (settle [])
  star_end rest settle (x ∷ xs) = ⊎_elim
      (λ found. inl (record { piece = []; left = x ∷ xs; captured = found.0; joined = refl; after = found.1; before = λ j low g. absurd (omega (arith, low)) }))
      (λ none. ⊎_elim
      (λ later. inl (record {
        piece = x ∷ later.piece;
        left = later.left;
        captured = later.captured;
        joined = ap (λ l. x ∷ l) later.joined;
        after = later.after;
        before = before_more rest x xs (length later.piece) none later.before;
      }))
      (λ never. inr (none_more rest x xs none never))
      (star_end rest settle xs))
      (settle (x ∷ xs))

  -- the items match and have captures, or don't match
  settled : (items : List GlobItem) (text : List ℕ) → Settled items text
  unfolding Settled Glob
  settled [] [] = inl ([], captures_nil)
  settled [] (x ∷ xs) = inr (λ g. cc)
  settled (Star ∷ rest) text = ⊎_elim
      (λ ends. inl (
        ends.piece ∷ ends.captured,
        subst (λ t. AreCaptures f (Star ∷ rest) t (ends.piece ∷ ends.captured)) ends.joined
            (captures_star_more rest ends.left ends.captured ends.after ends.piece (λ j low g. ends.before j low (subst (λ t. Glob f rest (drop j t)) ends.joined g))),
      ))
      (λ never. inr (λ g. never g.0 g.1 g.2))
      (star_end rest (settled rest) text)
  settled (One ∷ rest) [] = inr (λ g. g)
  settled (One ∷ rest) (x ∷ xs) = ⊎_elim
      (λ found. inl ((x ∷ []) ∷ found.0, captures_one_more rest xs found.0 found.1 x))
      (λ none. inr none)
      (settled rest xs)
  settled (Exact octet ∷ rest) [] = inr (λ g. g)
  settled (Exact octet ∷ rest) (x ∷ xs) = ⊎_elim
      (λ same. ⊎_elim
      (λ found. inl (found.0, captures_exact_more rest xs found.0 found.1 octet x same))
      (λ none. inr (λ g. none g.1))
      (settled rest xs))
      (λ differ. inr (λ g. differ g.0))
      (cases_eq (f octet) (f x))

-- items that match have captures
pub captures_exist : (f : ℕ → ℕ) (items : List GlobItem) (text : List ℕ) → Glob f items text → (captured : List (List ℕ)) × AreCaptures f items text captured
unfolding Settled
captures_exist f items text g = ⊎_elim (λ found. found) (λ none. absurd (none g)) (settled f items text)

-- items that have captures match
pub captures_match : (f : ℕ → ℕ) (items : List GlobItem) (text : List ℕ) (captured : List (List ℕ)) → AreCaptures f items text captured → Glob f items text
captures_match f items text captured c = matching_Glob f items text c.pieces c.matching

-- pieces of one text whose first are as long as each other are the same if the others are
same_rest : (f : ℕ → ℕ) (rest : List GlobItem) (text p q : List ℕ) (ps qs : List (List ℕ)) → length p ≡ length q → p ++ concat ps ≡ text → q ++ concat qs ≡ text
    → ItemsTake f rest ps → ItemsTake f rest qs → (IsMatching f rest (concat qs) ps → IsMatching f rest (concat qs) qs → ps ≡ qs) → p ∷ ps ≡ q ∷ qs
same_rest f rest text p q ps qs long one other takes taken same =
    let split = split_same p q (concat ps) (concat qs) long (one ∙ sym other) in
    let first : p ≡ q = split.0 in
    let others : ps ≡ qs = same (record { joined = split.1; takes = takes }) (record { joined = refl; takes = taken }) in
    cc

-- two matchings whose wildcards take no more than each other's are one
same_pieces : (f : ℕ → ℕ) (items : List GlobItem) (text : List ℕ) (ones others : List (List ℕ)) → IsMatching f items text ones → IsMatching f items text others
    → TakesNoMore (wildcard_pieces items ones) (wildcard_pieces items others) → TakesNoMore (wildcard_pieces items others) (wildcard_pieces items ones) → ones ≡ others
unfolding ItemsTake ItemTakes wildcard_pieces TakesNoMore
same_pieces f [] text [] [] m n a b = refl
same_pieces f [] text [] (p ∷ ps) m n a b = absurd n.takes
same_pieces f [] text (p ∷ ps) others m n a b = absurd m.takes
same_pieces f (item ∷ rest) text [] others m n a b = absurd m.takes
same_pieces f (item ∷ rest) text (p ∷ ps) [] m n a b = absurd n.takes
same_pieces f (Star ∷ rest) text (p ∷ ps) (q ∷ qs) m n a b = ⊎_elim
    (λ (less : length p < length q). ⊎_elim (λ (more : length q < length p). absurd (omega arith)) (λ same. absurd (omega (arith, same.0))) b)
    (λ same. ⊎_elim
    (λ (more : length q < length p). absurd (omega (arith, same.0)))
    (λ back. same_rest f rest text p q ps qs same.0 m.joined n.joined m.takes.1 n.takes.1 (λ k l. same_pieces f rest (concat qs) ps qs k l same.1 back.1))
    b)
    a
same_pieces f (One ∷ rest) text (p ∷ ps) (q ∷ qs) m n a b = ⊎_elim
    (λ (less : length p < length q). absurd (omega (arith, ap length m.takes.0.1, ap length n.takes.0.1)))
    (λ same. ⊎_elim
    (λ (more : length q < length p). absurd (omega (arith, same.0)))
    (λ back. same_rest f rest text p q ps qs same.0 m.joined n.joined m.takes.1 n.takes.1 (λ k l. same_pieces f rest (concat qs) ps qs k l same.1 back.1))
    b)
    a
same_pieces f (Exact octet ∷ rest) text (p ∷ ps) (q ∷ qs) m n a b =
    same_rest f rest text p q ps qs (ap length m.takes.0.1 ∙ sym (ap length n.takes.0.1)) m.joined n.joined m.takes.1 n.takes.1 (λ k l. same_pieces f rest (concat qs) ps qs k l a b)

-- there is one list of captures at most
pub captures_one : (f : ℕ → ℕ) (items : List GlobItem) (text : List ℕ) (a b : List (List ℕ)) → AreCaptures f items text a → AreCaptures f items text b → a ≡ b
captures_one f items text a b one other =
    let ab : TakesNoMore (wildcard_pieces items one.pieces) (wildcard_pieces items other.pieces) = subst (λ l. TakesNoMore l (wildcard_pieces items other.pieces)) one.taken (one.least other.pieces other.matching) in
    let ba : TakesNoMore (wildcard_pieces items other.pieces) (wildcard_pieces items one.pieces) = subst (λ l. TakesNoMore l (wildcard_pieces items one.pieces)) other.taken (other.least one.pieces one.matching) in
    one.taken ∙ ap (wildcard_pieces items) (same_pieces f items text one.pieces other.pieces one.matching other.matching ab ba) ∙ sym other.taken
