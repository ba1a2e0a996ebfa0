-- Identifiers and tags.
use Rattle.std.proofs.Common.{◌≡◌, ◌⊎◌, ℕ, ◌+◌, ◌<◌, ◌≤◌, suc, zero, true, false, List, [], ◌∷◌, ◌++◌, length, take, drop, get_or, refl, ap, sym, ◌∙◌, subst, inl, inr, arith}
use Rattle.std.specs.List.{list_all, flat_map, prefix_len}
use Rattle.std.proofs.lemmas.List.Sums.{prefix_len-le-length}
use Rattle.sieve_lex.specs.declared.token.Content.{Content}
use Rattle.sieve_lex.specs.declared.token.Content.TheVariants.{Identifier, Tag, Text}
use Rattle.sieve_lex.specs.declared.class.Class.TheVariants.{Letter}
use Rattle.sieve_lex.specs.Class.{is_name_start, is_name_octet, octet_class_of}
use Rattle.sieve_lex.specs.Shape.{IsTokenShape, IsName, IsQuotedString, spelling_of}
use Rattle.sieve_lex.specs.Lines.{IsMultiline}
use Rattle.sieve_lex.proofs.Worded.{word_is, word_opens, multi_word}
use Rattle.sieve_lex.proofs.Prefixes.{at_most, all_prefix, prefix_all, one_more}
use Rattle.sieve_lex.proofs.Opening.{Opens, front_opened, shape_at, class_start}
use Rattle.sieve_lex.proofs.Opening.Opens.{Named, Worded, Numbered, Tagged, Quoted, Marked}
use Rattle.sieve_lex.specs.Spelling.{OpensText}
use Rattle.sieve_lex.proofs.Best.{IsBest, IsFound, best_found, found_at}

start_octet : (b : ℕ) → is_name_start b ≡ true → is_name_octet b ≡ true
start_octet b h = rw h refl

-- the octets of a name all go on with it
name_octets : (name : List ℕ) → IsName name → list_all is_name_octet name ≡ true
name_octets [] h = absurd h
name_octets (b ∷ more) h = rw (start_octet b h.0) h.1

-- as long as it goes on it is a name
pub longest_name : (octets : List ℕ) → is_name_start (get_or octets 0 0) ≡ true → IsName (take (prefix_len is_name_octet octets) octets)
longest_name [] h = absurd (cc)
longest_name (b ∷ more) h =
    let here : is_name_octet b ≡ true = start_octet b h in
    rw (here, one_more (prefix_len is_name_octet more)) (h, prefix_all is_name_octet more)

-- a name at the front is no longer
pub name_bound : (octets : List ℕ) (m : ℕ) → m ≤ length octets → IsName (take m octets) → m ≤ prefix_len is_name_octet octets
name_bound octets m within h = all_prefix is_name_octet octets m within (name_octets _ h)

-- where a letter stands first, only an identifier does, or a string of several lines
only_named : (b : ℕ) (v : Content) → is_name_start b ≡ true → Opens b v → ((name : List ℕ) × (v ≡ Identifier name)) ⊎ ((value : List ℕ) × (v ≡ Text value))
only_named b v h o =
    let letter : octet_class_of b ≡ Letter = class_start b h in
    elim o [
      | Named name s c ve ↦ inl (name, ve)
      | Worded value s c ve ↦ inr (value, ve)
      | Numbered n d c ve ↦ absurd (cc)
      | Tagged name e c ve ↦ absurd (cc)
      | Quoted value e c ve ↦ absurd (cc)
      | Marked m c ve ↦ absurd (cc)
    ]

-- no quoted string begins with a letter
unquoted : (b : ℕ) (more value : List ℕ) (m : ℕ) → is_name_start b ≡ true → IsQuotedString (take m (b ∷ more)) value → ⊥
unquoted b more value zero h q = let e : [] ≡ 34 ∷ (flat_map spelling_of q.pieces ++ 34 ∷ []) = q.spelled in cc
unquoted b more value (suc m) h q =
    let e : b ∷ take m more ≡ 34 ∷ (flat_map spelling_of q.pieces ++ 34 ∷ []) = q.spelled in
    let same : b ≡ 34 = ap (λ x. get_or x 0 0) e in
    let P : ℕ → Type 0 = λ x. is_name_start x ≡ true in
    let z : is_name_start 34 ≡ true = subst P same h in
    cc

-- what a spelling is where a letter stands first
pub data IsNamed (octets : List ℕ) (v : Content) (m : ℕ) : Type 0 where
  AName : v ≡ Identifier (take m octets) → IsName (take m octets) → IsNamed octets v m
  Several : (value : List ℕ) → v ≡ Text value → IsMultiline (take m octets) value (drop m octets) → IsNamed octets v m

pub named_is : (octets : List ℕ) (v : Content) (m : ℕ) → is_name_start (get_or octets 0 0) ≡ true → IsTokenShape v (take m octets) (drop m octets) → IsNamed octets v m
named_is [] v m h s = absurd (cc)
named_is (b ∷ more) v m h s = elim (only_named b v h (front_opened b more v m _ s).1) [
  | inl n ↦ (let shape : IsTokenShape (Identifier n.0) (take m (b ∷ more)) (drop m (b ∷ more)) = shape_at _ _ _ _ n.1 s in
      AName (n.1 ∙ ap Identifier (sym shape.0)) (subst IsName (sym shape.0) shape.1))
  | inr n ↦ (let shape : IsTokenShape (Text n.0) (take m (b ∷ more)) (drop m (b ∷ more)) = shape_at _ _ _ _ n.1 s in
      elim shape [ inl q ↦ absurd (unquoted b more n.0 m h q) | inr t ↦ Several n.0 n.1 t ])
]

identifier_bound : (octets : List ℕ) (v : Content) (m : ℕ) → m ≤ length octets → (OpensText (Identifier (take (prefix_len is_name_octet octets) octets)) (drop (prefix_len is_name_octet octets) octets) → ⊥) → IsNamed octets v m
    → (m < prefix_len is_name_octet octets) ⊎ ((m ≡ prefix_len is_name_octet octets) × (v ≡ Identifier (take (prefix_len is_name_octet octets) octets)))
identifier_bound octets v m within bare s = elim s [
  | AName ve name ↦ at_most _ _ _ (name_bound octets m within name) (λ e. ve ∙ ap (λ i. Identifier (take i octets)) e)
  | Several value ve t ↦ absurd (bare (word_opens octets (word_is octets (multi_word octets value m t))))
]

-- the longest spelling where a letter stands first
pub identifier_best : (octets : List ℕ) → is_name_start (get_or octets 0 0) ≡ true → (OpensText (Identifier (take (prefix_len is_name_octet octets) octets)) (drop (prefix_len is_name_octet octets) octets) → ⊥)
    → IsBest octets (Identifier (take (prefix_len is_name_octet octets) octets)) (prefix_len is_name_octet octets)
identifier_best octets h bare = record {
  within = prefix_len-le-length is_name_octet octets;
  shape = (refl, longest_name octets h);
  best = λ v m within s. identifier_bound octets v m within bare (named_is octets v m h s);
}

-- where a colon stands first, only a tag does
only_tagged : (v : Content) → Opens 58 v → (name : List ℕ) × (v ≡ Tag name)
only_tagged v o = elim o [
  | Named name s c ve ↦ absurd (cc)
  | Worded value s c ve ↦ absurd (cc)
  | Numbered n d c ve ↦ absurd (cc)
  | Tagged name e c ve ↦ (name, ve)
  | Quoted value e c ve ↦ absurd (cc)
  | Marked m c ve ↦ absurd (cc)
]

-- a tag at the front has a name after its colon
tag_name : (more : List ℕ) (v : Content) (m : ℕ) (rest : List ℕ) → IsTokenShape v (take (suc m) (58 ∷ more)) rest → (v ≡ Tag (take m more)) × IsName (take m more)
tag_name more v m rest s =
    let tag : (name : List ℕ) × (v ≡ Tag name) = only_tagged v (front_opened 58 more v (suc m) rest s).1 in
    let shape : IsTokenShape (Tag tag.0) (58 ∷ take m more) rest = shape_at _ _ _ _ tag.1 s in
    let same : tag.0 ≡ take m more = cc (shape.0) in
    (tag.1 ∙ ap Tag same, subst IsName same shape.1)

tag_bound : (more : List ℕ) (v : Content) (m : ℕ) → m ≤ length (58 ∷ more) → IsTokenShape v (take m (58 ∷ more)) (drop m (58 ∷ more))
    → (m < 1 + prefix_len is_name_octet more) ⊎ ((m ≡ 1 + prefix_len is_name_octet more) × (v ≡ Tag (take (prefix_len is_name_octet more) more)))
tag_bound more v zero within s = absurd (let p : 0 < 0 = (front_opened 58 more v zero _ s).0 in omega arith)
tag_bound more v (suc m) within s =
    let tag : (v ≡ Tag (take m more)) × IsName (take m more) = tag_name more v m _ s in
    let bound : m ≤ prefix_len is_name_octet more = name_bound more m (omega arith) tag.1 in
    at_most _ _ _ (omega arith) (λ e. let same : m ≡ prefix_len is_name_octet more = omega arith in tag.0 ∙ ap (λ i. Tag (take i more)) same)

-- the longest spelling where a colon and a letter stand first
pub tag_best : (more : List ℕ) → is_name_start (get_or more 0 0) ≡ true → IsBest (58 ∷ more) (Tag (take (prefix_len is_name_octet more) more)) (1 + prefix_len is_name_octet more)
tag_best more h = record {
  within = omega (arith, prefix_len-le-length is_name_octet more);
  shape = rw (one_more (prefix_len is_name_octet more)) (refl, longest_name more h);
  best = λ v m within s. tag_bound more v m within s;
}

no_name : (more : List ℕ) (m : ℕ) → is_name_start (get_or more 0 0) ≡ false → IsName (take m more) → ⊥
no_name more zero h n = n
no_name [] (suc m) h n = n
no_name (b ∷ more) (suc m) h n = cc (n.0)

-- a colon without a name after it is no token
pub tag_none : (more : List ℕ) → is_name_start (get_or more 0 0) ≡ false → (v : Content) (m : ℕ) (rest : List ℕ) → IsTokenShape v (take m (58 ∷ more)) rest → ⊥
tag_none more h v zero rest s = let p : 0 < 0 = (front_opened 58 more v zero _ s).0 in omega arith
tag_none more h v (suc m) rest s = no_name more m h (tag_name more v m rest s).1

-- what the reader of identifiers finds
pub identifier_found : (octets name rest chars : List ℕ) (n : ℕ) → is_name_start (get_or octets 0 0) ≡ true → n ≡ prefix_len is_name_octet octets → name ≡ take n octets → rest ≡ drop n octets → length name ≡ n
    → chars ≡ name → (OpensText (Identifier name) rest → ⊥) → IsFound octets (record { content = Identifier chars; len = length name })
identifier_found octets name rest chars n h ne fe re le ce unopened =
    let names : Identifier (take (prefix_len is_name_octet octets) octets) ≡ Identifier chars = ap (λ i. Identifier (take i octets)) (sym ne) ∙ ap Identifier (sym fe ∙ sym ce) in
    let P : ℕ → Type 0 = λ i. OpensText (Identifier (take i octets)) (drop i octets) in
    let Q : List ℕ → Type 0 = λ x. OpensText (Identifier x) (drop n octets) in
    let R : List ℕ → Type 0 = λ x. OpensText (Identifier name) x in
    let bare : OpensText (Identifier (take (prefix_len is_name_octet octets) octets)) (drop (prefix_len is_name_octet octets) octets) → ⊥ = λ t. unopened (subst R (sym re) (subst Q (sym fe) (subst P (sym ne) t))) in
    found_at octets _ _ _ _ names (sym ne ∙ sym le)
    (best_found octets (record { content = Identifier (take (prefix_len is_name_octet octets) octets); len = prefix_len is_name_octet octets }) (identifier_best octets h bare) tt bare)

-- what the reader of tags finds
pub tag_found : (more name chars : List ℕ) (n : ℕ) → is_name_start (get_or more 0 0) ≡ true → n ≡ prefix_len is_name_octet more → name ≡ take n more → length name ≡ n
    → chars ≡ name → IsFound (58 ∷ more) (record { content = Tag chars; len = 1 + length name })
tag_found more name chars n h ne fe le ce =
    let names : Tag (take (prefix_len is_name_octet more) more) ≡ Tag chars = ap (λ i. Tag (take i more)) (sym ne) ∙ ap Tag (sym fe ∙ sym ce) in
    found_at (58 ∷ more) _ _ _ _ names (ap (λ i. 1 + i) (sym ne ∙ sym le))
    (best_found (58 ∷ more) (record { content = Tag (take (prefix_len is_name_octet more) more); len = 1 + prefix_len is_name_octet more }) (tag_best more h) tt (λ t. t))
