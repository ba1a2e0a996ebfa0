-- Lines: each is one, and no two of the same names read alike.
use Rattle.std.proofs.Common.{◌≡◌, ℕ, Bool, true, false, not, ◌&&◌, List, [], ◌∷◌, ◌++◌, codes, refl, sym, ◌∙◌, ap, subst, append_assoc, append-nil, arith}
use Rattle.std.specs.List.{list_all}
use Rattle.daemon_log.specs.Values.{is_visible, is_octet, spelled}
use Rattle.daemon_log.specs.Lines.{Pair, pair, pair_text, with_pairs, line_start, log_line_of, names_of, are_right, is_printed, IsOneLine}
use Rattle.daemon_log.proofs.ValueLemmas.{left, right, both, all_of, all_append, spelled_visible, spelled_same}

-- ---- pairs behind a front

abbrev pairs_text : List Pair → List ℕ
pairs_text [] = []
pairs_text (p ∷ pairs) = pair_text p.name p.value ++ pairs_text pairs

behind_front : (front : List ℕ) (pairs : List Pair) → with_pairs front pairs ≡ front ++ pairs_text pairs
behind_front front [] = sym (append-nil front)
behind_front front (p ∷ pairs) = behind_front (front ++ pair_text p.name p.value) pairs ∙ append_assoc front (pair_text p.name p.value) (pairs_text pairs)

-- ---- one line

seen_printed : (x : ℕ) → is_visible x ≡ true → is_printed x ≡ true
seen_printed x is = grind arith

printed : (a : List ℕ) → list_all is_visible a ≡ true → list_all is_printed a ≡ true
printed a is = all_of is_visible is_printed seen_printed a is

pair_printed : (name value : List ℕ) → list_all is_visible name ≡ true → list_all is_octet value ≡ true → list_all is_printed (pair_text name value) ≡ true
pair_printed name value p q = all_append is_printed name (61 ∷ spelled value) (printed name p) (printed (spelled value) (spelled_visible value q))

pairs_printed : (pairs : List Pair) → are_right pairs ≡ true → list_all is_printed (pairs_text pairs) ≡ true
pairs_printed [] is = refl
pairs_printed (p ∷ pairs) is =
    let rest = right (list_all is_visible p.name) (list_all is_octet p.value && are_right pairs) is in
    all_append is_printed (pair_text p.name p.value) (pairs_text pairs)
    (pair_printed p.name p.value (left (list_all is_visible p.name) (list_all is_octet p.value && are_right pairs) is) (left (list_all is_octet p.value) (are_right pairs) rest))
    (pairs_printed pairs (right (list_all is_octet p.value) (are_right pairs) rest))

pub one_line : (word : List ℕ) (pairs : List Pair) → list_all is_visible word ≡ true → are_right pairs ≡ true → IsOneLine (log_line_of word pairs)
one_line word pairs p q =
    let seen : list_all is_printed (line_start word ++ pairs_text pairs) ≡ true =
    all_append is_printed (line_start word) (pairs_text pairs) (all_append is_printed (codes "sieved: ") word refl (printed word p)) (pairs_printed pairs q) in
    (with_pairs (line_start word) pairs, refl, subst (λ l. list_all is_printed l ≡ true) (sym (behind_front (line_start word) pairs)) seen)

-- ---- one reading

-- it begins with an octet that isn't seen
abbrev begins_unseen : List ℕ → Bool
begins_unseen [] = true
begins_unseen (x ∷ rest) = not (is_visible x)

-- where seen octets end is told by the octet behind them
cut : (a b u v : List ℕ) → list_all is_visible a ≡ true → list_all is_visible b ≡ true → begins_unseen u ≡ true → begins_unseen v ≡ true → a ++ u ≡ b ++ v → (a ≡ b) × (u ≡ v)
cut [] [] u v p q f g is = (refl, is)
cut [] (y ∷ b) [] v p q f g is = let never : ⊥ = cc in absurd never
cut [] (y ∷ b) (x ∷ u) v p q f g is =
    let one : x ≡ y = cc in
    let seen : is_visible x ≡ true = subst (λ n. is_visible n ≡ true) (sym one) (left (is_visible y) (list_all is_visible b) q) in
    let never : ⊥ = cc in absurd never
cut (x ∷ a) [] u [] p q f g is = let never : ⊥ = cc in absurd never
cut (x ∷ a) [] u (y ∷ v) p q f g is =
    let one : y ≡ x = cc in
    let seen : is_visible y ≡ true = subst (λ n. is_visible n ≡ true) (sym one) (left (is_visible x) (list_all is_visible a) p) in
    let never : ⊥ = cc in absurd never
cut (x ∷ a) (y ∷ b) u v p q f g is =
    let one : x ≡ y = cc in
    let tail : a ++ u ≡ b ++ v = cc in
    let more = cut a b u v (right (is_visible x) (list_all is_visible a) p) (right (is_visible y) (list_all is_visible b) q) f g tail in
    let rest : a ≡ b = more.0 in
    let whole : x ∷ a ≡ y ∷ b = cc in
    (whole, more.1)

-- what stands alike behind the same front is the same
behind : (a u v : List ℕ) → a ++ u ≡ a ++ v → u ≡ v
behind [] u v is = is
behind (x ∷ a) u v is = let tail : a ++ u ≡ a ++ v = cc in behind a u v tail

-- what follows a value: the next pair, or the end
unseen : (pairs : List Pair) → begins_unseen (pairs_text pairs ++ 10 ∷ []) ≡ true
unseen [] = refl
unseen (p ∷ pairs) = refl

pair_front : (name value rest : List ℕ) → pair_text name value ++ rest ≡ 32 ∷ (name ++ 61 ∷ (spelled value ++ rest))
pair_front name value rest = ap (λ l. 32 ∷ l) (append_assoc name (61 ∷ spelled value) rest)

value_same : (name other a b u v : List ℕ) → name ≡ other → list_all is_octet a ≡ true → list_all is_octet b ≡ true → begins_unseen u ≡ true → begins_unseen v ≡ true
    → pair_text name a ++ u ≡ pair_text other b ++ v → (a ≡ b) × (u ≡ v)
value_same name other a b u v names p q f g is =
    let fronts : 32 ∷ (name ++ 61 ∷ (spelled a ++ u)) ≡ 32 ∷ (name ++ 61 ∷ (spelled b ++ v)) =
    sym (pair_front name a u) ∙ is ∙ pair_front other b v ∙ ap (λ n. 32 ∷ (n ++ 61 ∷ (spelled b ++ v))) (sym names) in
    let named : name ++ 61 ∷ (spelled a ++ u) ≡ name ++ 61 ∷ (spelled b ++ v) = cc in
    let valued : 61 ∷ (spelled a ++ u) ≡ 61 ∷ (spelled b ++ v) = behind name (61 ∷ (spelled a ++ u)) (61 ∷ (spelled b ++ v)) named in
    let values : spelled a ++ u ≡ spelled b ++ v = cc in
    let parts = cut (spelled a) (spelled b) u v (spelled_visible a p) (spelled_visible b q) f g values in
    (spelled_same a b p q parts.0, parts.1)

same_pair : (a b : Pair) → a.name ≡ b.name → a.value ≡ b.value → a ≡ b
same_pair a b named valued = ap (λ n. pair n a.value) named ∙ ap (λ v. pair b.name v) valued

pairs_same : (pairs others : List Pair) → are_right pairs ≡ true → are_right others ≡ true → names_of pairs ≡ names_of others
    → pairs_text pairs ++ 10 ∷ [] ≡ pairs_text others ++ 10 ∷ [] → pairs ≡ others
pairs_same [] [] p q names is = refl
pairs_same [] (o ∷ others) p q names is = let never : ⊥ = cc in absurd never
pairs_same (a ∷ pairs) [] p q names is = let never : ⊥ = cc in absurd never
pairs_same (a ∷ pairs) (b ∷ others) p q names is =
    let name : a.name ≡ b.name = cc in
    let more : names_of pairs ≡ names_of others = cc in
    let these = right (list_all is_visible a.name) (list_all is_octet a.value && are_right pairs) p in
    let those = right (list_all is_visible b.name) (list_all is_octet b.value && are_right others) q in
    let parts = value_same a.name b.name a.value b.value (pairs_text pairs ++ 10 ∷ []) (pairs_text others ++ 10 ∷ []) name
    (left (list_all is_octet a.value) (are_right pairs) these) (left (list_all is_octet b.value) (are_right others) those) (unseen pairs) (unseen others)
    (sym (append_assoc (pair_text a.name a.value) (pairs_text pairs) (10 ∷ [])) ∙ is ∙ append_assoc (pair_text b.name b.value) (pairs_text others) (10 ∷ [])) in
    let rest : pairs ≡ others = pairs_same pairs others (right (list_all is_octet a.value) (are_right pairs) these) (right (list_all is_octet b.value) (are_right others) those) more parts.1 in
    ap (λ x. x ∷ pairs) (same_pair a b name parts.0) ∙ ap (λ l. b ∷ l) rest

pub one_reading : (word : List ℕ) (pairs others : List Pair) → are_right pairs ≡ true → are_right others ≡ true → names_of pairs ≡ names_of others → log_line_of word pairs ≡ log_line_of word others → pairs ≡ others
one_reading word pairs others p q names is =
    pairs_same pairs others p q names
    (behind (line_start word) (pairs_text pairs ++ 10 ∷ []) (pairs_text others ++ 10 ∷ [])
    (sym (append_assoc (line_start word) (pairs_text pairs) (10 ∷ [])) ∙ sym (ap (λ l. l ++ 10 ∷ []) (behind_front (line_start word) pairs)) ∙ is
    ∙ ap (λ l. l ++ 10 ∷ []) (behind_front (line_start word) others) ∙ append_assoc (line_start word) (pairs_text others) (10 ∷ [])))
