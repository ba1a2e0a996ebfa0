-- The verbs, as the code looks for them.
use Rattle.std.proofs.Common.{◌≡◌, ℕ, zero, suc, ◌+◌, ◌<◌, ◌≤◌, inl, inr, Bool, true, false, ◌||◌, ◌&&◌, ◌==◌, cond, List, [], ◌∷◌, ◌++◌, length, take, Option, Some, None, refl, sym, ap, ◌∙◌, subst, arith}
use Rattle.std.specs.Prelude.{map, min, is_none}
use Rattle.std.specs.Char.{to_ascii_uppercase}
use Rattle.std.specs.Option.{option_map}
use Rattle.std.proofs.lemmas.Bool.{ne_eqb, or_left, or_right, and_parts, cases_order}
use Rattle.std.proofs.lemmas.List.{take_all, take_at, take_min, length_push, length-take}
use Rattle.managesieve_protocol.specs.declared.command_name.CommandName.{CommandName}
use Rattle.managesieve_protocol.specs.declared.command_name.CommandName.TheVariants as verb
use Rattle.managesieve_protocol.specs.Machine.{command_name, params_of, command_names, command_rows_of, rows, begins, begins_row, same_word, command_named, params_in, Word, Dead, leave, step}
use Rattle.managesieve_protocol.proofs.Names.{begins_split}

pub same_word_end : (wanted unread : List ℕ) → length unread ≡ 0 → (length wanted == 0) ≡ same_word wanted (map to_ascii_uppercase unread)
same_word_end [] [] e = refl
same_word_end (y ∷ w) [] e = ne_eqb (length (y ∷ w)) 0 (λ i. absurd (omega (arith, i)))
same_word_end wanted (x ∷ u) e = absurd (omega (arith, e))

pub rows_are : rows ≡ command_rows_of command_names
unfolding rows
rows_are = refl

-- ---- each verb is there by its name

own_name : (v : CommandName) → command_named command_names (command_name v) ≡ Some v
own_name verb.Authenticate = refl
own_name verb.Capability = refl
own_name verb.CheckScript = refl
own_name verb.DeleteScript = refl
own_name verb.GetScript = refl
own_name verb.HaveSpace = refl
own_name verb.ListScripts = refl
own_name verb.Logout = refl
own_name verb.Noop = refl
own_name verb.PutScript = refl
own_name verb.RenameScript = refl
own_name verb.SetActive = refl
own_name verb.Unauthenticate = refl

pub params_verb : (vs : List CommandName) (w : List ℕ) → params_in (command_rows_of vs) w ≡ option_map params_of (command_named vs w)
params_verb [] w = refl
params_verb (v ∷ vs) w = go (same_word (command_name v) w) (params_verb vs w)
  where
    go : (b : Bool) → params_in (command_rows_of vs) w ≡ option_map params_of (command_named vs w) → cond b (Some (params_of v)) (params_in (command_rows_of vs) w) ≡ option_map params_of (cond b (Some v) (command_named vs w))
    go true more = refl
    go false more = more

own_params : (v : CommandName) → params_in rows (command_name v) ≡ Some (params_of v)
own_params v = rw rows_are (params_verb command_names (command_name v) ∙ ap (λ (o : Option CommandName). option_map params_of o) (own_name v))

begins_found : (vs : List CommandName) (w p : List ℕ) (v : CommandName) → command_named vs w ≡ Some v → begins p (command_name v) ≡ true → begins_row (command_rows_of vs) p ≡ true
begins_found [] w p v e b = absurd cc
begins_found (u ∷ vs) w p v e b = go (same_word (command_name u) w) e (λ f. begins_found vs w p v f b)
  where
    go : (t : Bool) → cond t (Some u) (command_named vs w) ≡ Some v → (command_named vs w ≡ Some v → begins_row (command_rows_of vs) p ≡ true) → (begins p (command_name u) || begins_row (command_rows_of vs) p) ≡ true
    go true e f = let same : v ≡ u = cc in or_left (begins p (command_name u)) (begins_row (command_rows_of vs) p) (subst (λ (x : CommandName). begins p (command_name x) ≡ true) same b)
    go false e f = or_right (begins p (command_name u)) (begins_row (command_rows_of vs) p) (f e)

begins_verb : (v : CommandName) (p : List ℕ) → begins p (command_name v) ≡ true → begins_row rows p ≡ true
begins_verb v p e = rw rows_are (begins_found command_names (command_name v) p v (own_name v) e)

-- ---- no name is the front of another

abbrev none_below : List ℕ → ℕ → Bool
none_below w zero = true
none_below w (suc n) = is_none (params_in rows (take n w)) && none_below w n

none_is : {A : Type 0} (o : Option A) → is_none o ≡ true → o ≡ None
none_is None e = refl
none_is (Some x) e = absurd cc

none_at : (w : List ℕ) (m n : ℕ) → none_below w m ≡ true → n < m → params_in rows (take n w) ≡ None
none_at w zero n e lt = absurd (omega (arith, lt))
none_at w (suc m) n e lt =
    let parts = and_parts (is_none (params_in rows (take m w))) (none_below w m) e in
    elim (cases_order n m) [
      | inl same ↦ rw same (none_is (params_in rows (take m w)) parts.0)
      | inr (inl below) ↦ none_at w m n parts.1 below
      | inr (inr above) ↦ absurd (omega (arith, lt, above))
    ]

fronts_name_none : (v : CommandName) → none_below (command_name v) (length (command_name v)) ≡ true
unfolding rows
fronts_name_none verb.Authenticate = refl
fronts_name_none verb.Capability = refl
fronts_name_none verb.CheckScript = refl
fronts_name_none verb.DeleteScript = refl
fronts_name_none verb.GetScript = refl
fronts_name_none verb.HaveSpace = refl
fronts_name_none verb.ListScripts = refl
fronts_name_none verb.Logout = refl
fronts_name_none verb.Noop = refl
fronts_name_none verb.PutScript = refl
fronts_name_none verb.RenameScript = refl
fronts_name_none verb.SetActive = refl
fronts_name_none verb.Unauthenticate = refl

-- ---- a state in a name

-- a letter more
pub word_more : (v : CommandName) (letters : List ℕ) (x : ℕ) → begins (letters ++ to_ascii_uppercase x ∷ []) (command_name v) ≡ true → Word (take (length letters + 1) (command_name v)) ≡ step (Word letters) x
word_more v letters x e =
    let p = letters ++ to_ascii_uppercase x ∷ [] in
    let on : begins_row rows p ≡ true = begins_verb v p e in
    let split = begins_split p (command_name v) e in
    let front : take (length letters + 1) (command_name v) ≡ p = rw split.1 (take_at p split.0 (length letters + 1) (length_push letters (to_ascii_uppercase x))) in
    rw (front, on) refl

-- the whole name is read
pub word_end : (v : CommandName) (x : ℕ) → begins_row rows (command_name v ++ to_ascii_uppercase x ∷ []) ≡ false → leave (params_of v) x ≡ step (Word (command_name v)) x
word_end v x e = rw (e, own_params v) refl

-- a front of a name is no name
pub word_dies : (v : CommandName) (n x : ℕ) → n < length (command_name v) → begins_row rows (take n (command_name v) ++ to_ascii_uppercase x ∷ []) ≡ false → Dead ≡ step (Word (take n (command_name v))) x
word_dies v n x lt e = rw (e, none_at (command_name v) (length (command_name v)) n (fronts_name_none v) lt) refl

-- ---- as the code goes about it, with the letters cut at the name's length

front_is : (count n : ℕ) (w : List ℕ) → n ≡ min count (length w) → take n w ≡ take count w
front_is count n w e = rw e (take_min count w)

pub in_word_more : (v u : CommandName) (count n : ℕ) (w : List ℕ) (x : ℕ) → w ≡ command_name v → n ≡ min count (length w) → begins (take n w ++ to_ascii_uppercase x ∷ []) (command_name u) ≡ true → Word (take (length (take n w) + 1) (command_name u)) ≡ step (Word (take count (command_name v))) x
in_word_more v u count n w x at cut e =
    let front : take n w ≡ take count (command_name v) = front_is count n w cut ∙ ap (λ (l : List ℕ). take count l) at in
    word_more u (take n w) x e ∙ ap (λ (l : List ℕ). step (Word l) x) front

pub in_word_end : (v : CommandName) (count n : ℕ) (w : List ℕ) (x : ℕ) → w ≡ command_name v → n ≡ min count (length w) → length (take n w) ≡ length w → begins_row rows (take n w ++ to_ascii_uppercase x ∷ []) ≡ false → leave (params_of v) x ≡ step (Word (take count (command_name v))) x
in_word_end v count n w x at cut full e =
    let front : take n w ≡ take count (command_name v) = front_is count n w cut ∙ ap (λ (l : List ℕ). take count l) at in
    let long : length w ≤ n = omega (arith, full, length-take n w) in
    let all : take n w ≡ command_name v = take_all n w long ∙ at in
    word_end v x (subst (λ (l : List ℕ). begins_row rows (l ++ to_ascii_uppercase x ∷ []) ≡ false) all e) ∙ ap (λ (l : List ℕ). step (Word l) x) (sym all ∙ front)

pub in_word_dies : (v : CommandName) (count n : ℕ) (w : List ℕ) (x : ℕ) → w ≡ command_name v → n ≡ min count (length w) → (length (take n w) ≡ length w → ⊥) → begins_row rows (take n w ++ to_ascii_uppercase x ∷ []) ≡ false → Dead ≡ step (Word (take count (command_name v))) x
in_word_dies v count n w x at cut short e =
    let front : take n w ≡ take count (command_name v) = front_is count n w cut ∙ ap (λ (l : List ℕ). take count l) at in
    let below : n < length w = omega (arith, short, length-take n w) in
    let same : take n w ≡ take n (command_name v) = ap (λ (l : List ℕ). take n l) at in
    word_dies v n x (subst (λ (l : List ℕ). n < length l) at below) (subst (λ (l : List ℕ). begins_row rows (l ++ to_ascii_uppercase x ∷ []) ≡ false) same e) ∙ ap (λ (l : List ℕ). step (Word l) x) (sym same ∙ front)
