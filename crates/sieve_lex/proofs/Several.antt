-- Strings of several lines.
use Rattle.std.proofs.Common.{◌≡◌, ◌⊎◌, ℕ, ◌+◌, ◌<◌, ◌≤◌, suc, true, Option, Some, None, List, [], ◌∷◌, ◌++◌, length, take, drop, get_or, refl, ap, sym, ◌∙◌, subst, inl, inr, arith, append_assoc, length-drop, take-append-drop}
use Rattle.std.specs.Prelude.{codes, slice_get}
use Rattle.std.specs.Char.{to_ascii_lowercase}
use Rattle.std.specs.List.{flat_map, prefix_len}
use Rattle.std.proofs.lemmas.List.{length-map, map-append, append_cancel_right, drop-drop}
use Rattle.std.proofs.lemmas.Bool.{cases_lt}
use Rattle.octets.specs.Ascii.{lowered}
use Rattle.octets.proofs.Lists.{some_is, some_pair}
use Rattle.sieve_lex.specs.declared.front.Front.{Front}
use Rattle.sieve_lex.specs.declared.token.Content.{Content}
use Rattle.sieve_lex.specs.declared.token.Content.TheVariants.{Identifier, Text}
use Rattle.sieve_lex.specs.declared.multiline.BodyState.TheVariants.{Opening}
use Rattle.sieve_lex.specs.Class.{is_name_octet, is_name_start}
use Rattle.sieve_lex.specs.Body.{body_from}
use Rattle.sieve_lex.specs.Lines.{IsFinal, body_line_end, line_spelling}
use Rattle.sieve_lex.specs.Spelling.{OpensText}
use Rattle.sieve_lex.specs.Front.{IsFront}
use Rattle.sieve_lex.proofs.Prefixes.{take_sum}
use Rattle.sieve_lex.proofs.Bodies.{IsOpening, opening_is, IsBody, body_is}
use Rattle.sieve_lex.proofs.Worded.{IsWord, word_is, word_len, word_opens, multi_again}
use Rattle.sieve_lex.proofs.Named.{IsNamed, named_is, name_bound, longest_name}
use Rattle.sieve_lex.proofs.Named.IsNamed.{AName, Several}
use Rattle.sieve_lex.proofs.Best.{IsBest, IsFound, best_found}

word_starts : (octets : List ℕ) → IsWord octets → is_name_start (get_or octets 0 0) ≡ true
word_starts octets w = ap (λ x. is_name_start (get_or x 0 0)) w.octets_are ∙ w.a_starts

word_inside : (octets : List ℕ) → IsWord octets → 5 ≤ length octets
word_inside octets w = let e : length octets ≡ suc (suc (suc (suc (suc (length w.more))))) = ap length w.octets_are in omega arith

same_rest : (xs : List ℕ) (m n : ℕ) → m ≤ length xs → n ≤ length xs → drop m xs ≡ drop n xs → m ≡ n
same_rest xs m n mw nw e = omega (arith, ap length e, length-drop m xs, length-drop n xs)

several_bound : (octets value : List ℕ) (n : ℕ) → IsWord octets → n ≤ length (drop 5 octets) → body_from Opening (drop 5 octets) ≡ Some (value, drop n (drop 5 octets)) → (v : Content) (m : ℕ) → m ≤ length octets → IsNamed octets v m
    → (m < 5 + n) ⊎ ((m ≡ 5 + n) × (v ≡ Text value))
several_bound octets value n w within h v m inside s = elim s [
  | AName ve name ↦ (let bound : m ≤ prefix_len is_name_octet octets = name_bound octets m inside name in
      let four : prefix_len is_name_octet octets ≡ 4 = word_len octets w in
      inl (omega arith))
  | Several text ve t ↦ (let same : (text ≡ value) × (drop m octets ≡ drop n (drop 5 octets)) = some_pair (text, drop m octets) (value, drop n (drop 5 octets)) (sym (multi_again octets text m t) ∙ h) in
      let five : 5 ≤ length octets = word_inside octets w in
      let e : m ≡ 5 + n = same_rest octets m (5 + n) inside (omega (arith, length-drop 5 octets)) (same.1 ∙ drop-drop n 5 octets) in
      inr (e, ve ∙ ap Text same.0))
]

-- the longest spelling where `text:` and such a body stand first
several_best : (octets value : List ℕ) (n : ℕ) → lowered (take 5 octets) ≡ codes "text:" → n ≤ length (drop 5 octets) → body_from Opening (drop 5 octets) ≡ Some (value, drop n (drop 5 octets)) → IsBest octets (Text value) (5 + n)
several_best octets value n named within h =
    let w : IsWord octets = word_is octets named in
    let five : 5 ≤ length octets = word_inside octets w in
    let body : List ℕ = drop 5 octets in
    let rest : List ℕ = drop n (drop 5 octets) in
    let o : IsOpening body value rest = opening_is body value rest h in
    let l : IsBody o.after value rest = body_is (length o.after) o.after value rest (omega arith) o.read in
    let spelled : List ℕ = o.blanks ++ (o.comment ++ (body_line_end o.bare ++ (flat_map line_spelling l.lines ++ 46 ∷ l.final))) in
    let parts : body ≡ o.blanks ++ (o.comment ++ (body_line_end o.bare ++ (flat_map line_spelling l.lines ++ (46 ∷ (l.final ++ rest))))) = o.spelled ∙ ap (λ x. o.blanks ++ (o.comment ++ (body_line_end o.bare ++ x))) l.spelled in
    let apart : spelled ++ rest ≡ o.blanks ++ (o.comment ++ (body_line_end o.bare ++ (flat_map line_spelling l.lines ++ (46 ∷ (l.final ++ rest))))) = simp append_assoc in
    let front : take n body ≡ spelled = append_cancel_right _ _ rest (take-append-drop n body ∙ parts ∙ sym apart) in
    let after : drop (5 + n) octets ≡ rest = sym (drop-drop n 5 octets) in
    let F : List ℕ → Type 0 = λ x. IsFinal l.final x in
    record {
      within = omega (arith, length-drop 5 octets);
      shape = inr (record {
        word = take 5 octets;
        blanks = o.blanks;
        comment = o.comment;
        bare = o.bare;
        lines = l.lines;
        final = l.final;
        named = named;
        blank = o.blank;
        commented = o.commented;
        each = l.each;
        ends = subst F (sym after) l.ends;
        spelled = take_sum 5 n octets ∙ ap (λ x. take 5 octets ++ x) front;
        valued = l.valued;
      });
      best = λ v m inside s. several_bound octets value n w within h v m inside (named_is octets v m (word_starts octets w) s);
    }

-- what the reader of strings of several lines finds
pub several_found : (octets body value : List ℕ) (n : ℕ) → lowered (take 5 octets) ≡ codes "text:" → body ≡ drop 5 octets → n ≤ length body → body_from Opening body ≡ Some (value, drop n body) → IsFound octets (record { content = Text value; len = 5 + n })
several_found octets body value n named be within h =
    let P : List ℕ → Type 0 = λ x. n ≤ length x in
    let Q : List ℕ → Type 0 = λ x. body_from Opening x ≡ Some (value, drop n x) in
    best_found octets (record { content = Text value; len = 5 + n }) (several_best octets value n named (subst P be within) (subst Q be h)) tt (λ t. t)

none_some : (p : List ℕ × List ℕ) → ◌≡◌ {A = Option (List ℕ × List ℕ)} None (Some p) → ⊥
none_some p e = cc

-- `text:` before no such body is no token: neither a string nor, before the colon, an identifier
no_named : (octets : List ℕ) (g : Front) → IsWord octets → body_from Opening (drop 5 octets) ≡ None → IsFront octets g → IsNamed octets g.content g.len → ⊥
no_named octets g w h t s = elim s [
  | AName ve name ↦ (let bound : g.len ≤ prefix_len is_name_octet octets = name_bound octets g.len t.within name in
      let four : prefix_len is_name_octet octets ≡ 4 = word_len octets w in
      let five : 5 ≤ length octets = word_inside octets w in
      elim (cases_lt g.len (prefix_len is_name_octet octets)) [
        | inl less ↦ t.longest (Identifier (take (prefix_len is_name_octet octets) octets)) (prefix_len is_name_octet octets) less (omega arith) (refl, longest_name octets (word_starts octets w))
        | inr more ↦ (let same : g.len ≡ prefix_len is_name_octet octets = omega arith in
            let A : ℕ → Type 0 = λ i. OpensText (Identifier (take i octets)) (drop i octets) in
            let B : Content → Type 0 = λ x. OpensText x (drop g.len octets) in
            t.bare (subst B (sym ve) (subst A (sym same) (word_opens octets w))))
      ])
  | Several value ve m ↦ none_some (value, drop g.len octets) (sym h ∙ multi_again octets value g.len m)
]

pub several_none : (octets body : List ℕ) → lowered (take 5 octets) ≡ codes "text:" → body ≡ drop 5 octets → body_from Opening body ≡ None → (g : Front) → IsFront octets g → ⊥
several_none octets body named be h g t =
    let w : IsWord octets = word_is octets named in
    no_named octets g w (ap (body_from Opening) (sym be) ∙ h) t (named_is octets g.content g.len (word_starts octets w) t.shape)

first_of_rest : (rest : List ℕ) → slice_get rest 0 ≡ Some 58 → take 1 rest ≡ 58 ∷ []
first_of_rest [] h = absurd (cc)
first_of_rest (b ∷ rest) h = ap (λ x. x ∷ []) (some_is b 58 h)

pub word_five : (octets : List ℕ) → lowered (take 5 octets) ≡ codes "text:" → 5 ≤ length octets
word_five octets h = word_inside octets (word_is octets h)

-- the name and the colon after it are the word
pub word_found : (octets name rest : List ℕ) (n : ℕ) → name ≡ take n octets → rest ≡ drop n octets → length name ≡ n → OpensText (Identifier name) rest → lowered (take 5 octets) ≡ codes "text:"
word_found octets name rest n ne re le t =
    let four : n ≡ 4 = sym le ∙ sym (length-map name to_ascii_lowercase) ∙ ap length t.0 in
    let colon : take 1 (drop 4 octets) ≡ 58 ∷ [] = ap (λ i. take 1 (drop i octets)) (sym four) ∙ ap (take 1) (sym re) ∙ first_of_rest rest t.1 in
    let front : take 4 octets ≡ name = ap (λ i. take i octets) (sym four) ∙ sym ne in
    let parts : take 5 octets ≡ name ++ 58 ∷ [] = take_sum 4 1 octets ∙ (λ i. front i ++ colon i) in
    ap lowered parts ∙ map-append to_ascii_lowercase name (58 ∷ []) ∙ ap (λ x. x ++ 58 ∷ []) t.0
