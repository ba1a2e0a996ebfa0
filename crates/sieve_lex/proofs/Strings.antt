-- Quoted strings, read from the left.
use Rattle.std.proofs.Common.{◌≡◌, ◌⊎◌, ℕ, ◌+◌, ◌-◌, ◌<◌, ◌≤◌, suc, zero, Bool, true, false, ◌==◌, ◌||◌, ◌&&◌, not, Option, Some, None, List, [], ◌∷◌, ◌++◌, length, take, drop, refl, ap, sym, ◌∙◌, inl, inr, arith, append_assoc, length-drop, take-append-drop}
use Rattle.std.specs.List.{flat_map, prefix_len}
use Rattle.std.proofs.lemmas.List.{append_cancel_right, drop_more}
use Rattle.std.proofs.lemmas.Bool.{eqb-true}
use Rattle.octets.proofs.Lists.{fork, some_pair}
use Rattle.sieve_lex.specs.declared.quoted.Mode.{Mode}
use Rattle.sieve_lex.specs.declared.quoted.Mode.TheVariants.{Inside, Escape, Return}
use Rattle.sieve_lex.specs.declared.token.Content.{Content}
use Rattle.sieve_lex.specs.declared.token.Content.TheVariants.{Text}
use Rattle.sieve_lex.specs.declared.front.Front.{Front}
use Rattle.sieve_lex.specs.Inside.{onto, string_from, is_plain_octet}
use Rattle.sieve_lex.specs.Front.{IsFront}
use Rattle.sieve_lex.specs.Shape.{StringPiece, IsStringPiece, AreStringPieces, spelling_of, piece_value, IsQuotedString, IsTokenShape}
use Rattle.sieve_lex.specs.Shape.StringPiece.{Plain, Escaped, LineEnd, BareLineEnd}
use Rattle.sieve_lex.proofs.Prefixes.{one_more, front_of}
use Rattle.sieve_lex.proofs.Opening.{Opens, front_opened, shape_at, quoted_shape}
use Rattle.sieve_lex.proofs.Opening.Opens.{Named, Worded, Numbered, Tagged, Quoted, Marked}
use Rattle.sieve_lex.proofs.Best.{IsBest, IsFound, best_found}

-- what is spelled so is read so, whatever follows
pub string_again : (ps : List StringPiece) (rest : List ℕ) → AreStringPieces ps → string_from Inside (flat_map spelling_of ps ++ (34 ∷ rest)) ≡ Some (flat_map piece_value ps, rest)
string_again [] rest h = refl
string_again (Plain b ∷ ps) rest h = let p : IsStringPiece (Plain b) = h.0 in rw (p.0, p.1, p.2, p.3) (ap (onto (b ∷ [])) (string_again ps rest h.1))
string_again (Escaped b ∷ ps) rest h = let p : IsStringPiece (Escaped b) = h.0 in rw (p.0, p.1, p.2) (ap (onto (b ∷ [])) (string_again ps rest h.1))
string_again (LineEnd ∷ ps) rest h = ap (onto (13 ∷ (10 ∷ []))) (string_again ps rest h.1)
string_again (BareLineEnd ∷ ps) rest h = ap (onto (13 ∷ (10 ∷ []))) (string_again ps rest h.1)

-- what stands before the octets of which a mode tells
abbrev begun : Mode → List ℕ
begun Inside = []
begun Escape = 92 ∷ []
begun Return = 13 ∷ []

-- these octets are pieces, a quotation mark and a rest
record IsRead (s value rest : List ℕ) : Type 0 where
  pieces : List StringPiece
  each : AreStringPieces pieces
  spelled : s ≡ flat_map spelling_of pieces ++ (34 ∷ rest)
  valued : value ≡ flat_map piece_value pieces

-- a piece more before what was read
more_read : (p : StringPiece) (s value rest : List ℕ) → IsStringPiece p → IsRead s value rest → IsRead (spelling_of p ++ s) (piece_value p ++ value) rest
more_read p s value rest good r = record {
  pieces = p ∷ r.pieces;
  each = (good, r.each);
  spelled = ap (λ x. spelling_of p ++ x) r.spelled ∙ sym (append_assoc (spelling_of p) (flat_map spelling_of r.pieces) (34 ∷ rest));
  valued = ap (λ x. piece_value p ++ x) r.valued;
}

-- what was put before a value
onto_some : (front value rest : List ℕ) (o : Option (List ℕ × List ℕ)) → onto front o ≡ Some (value, rest) → (v : List ℕ) × ((o ≡ Some (v, rest)) × (value ≡ front ++ v))
onto_some front value rest None h = absurd (cc)
onto_some front value rest (Some r) h =
    let parts : (front ++ r.0 ≡ value) × (r.1 ≡ rest) = some_pair (front ++ r.0, r.1) (value, rest) h in
    (r.0, (ap (λ x. Some (r.0, x)) parts.1, sym parts.0))

read_at : (s t value v rest : List ℕ) → s ≡ t → value ≡ v → IsRead t v rest → IsRead s value rest
read_at s t value v rest se ve r = record { pieces = r.pieces; each = r.each; spelled = se ∙ r.spelled; valued = ve ∙ r.valued }

none_of : (a b : Bool) → (a || b) ≡ false → (a ≡ false) × (b ≡ false)
none_of true b h = absurd (cc)
none_of false b h = (refl, h)

-- the closing quotation mark
closing : (b : ℕ) (s value rest : List ℕ) → b ≡ 34 → ◌≡◌ {A = Option (List ℕ × List ℕ)} (Some ([], s)) (Some (value, rest)) → IsRead (b ∷ s) value rest
closing b s value rest e h =
    let parts : ([] ≡ value) × (s ≡ rest) = some_pair ([], s) (value, rest) h in
    record { pieces = []; each = tt; spelled = (λ i. e i ∷ parts.1 i); valued = sym parts.0 }

-- what is read so is spelled so
string_is : (mode : Mode) (s value rest : List ℕ) → string_from mode s ≡ Some (value, rest) → IsRead (begun mode ++ s) value rest
string_is mode [] value rest h = absurd (cc)
string_is Inside (b ∷ s) value rest h = elim (fork (b == 34) _ _ _ h) [
  | inl q ↦ closing b s value rest (eqb-true b 34 q.0) q.1
  | inr q ↦ elim (fork (b == 92) _ _ _ q.1) [
    | inl r ↦ read_at _ _ _ _ _ (ap (λ x. x ∷ s) (eqb-true b 92 r.0)) refl (string_is Escape s value rest r.1)
    | inr r ↦ elim (fork (b == 13) _ _ _ r.1) [
      | inl t ↦ read_at _ _ _ _ _ (ap (λ x. x ∷ s) (eqb-true b 13 t.0)) refl (string_is Return s value rest t.1)
      | inr t ↦ elim (fork (b == 10) _ _ _ t.1) [
        | inl u ↦ (let v : (w : List ℕ) × ((string_from Inside s ≡ Some (w, rest)) × (value ≡ (13 ∷ (10 ∷ [])) ++ w)) = onto_some (13 ∷ (10 ∷ [])) value rest (string_from Inside s) u.1 in
            read_at _ _ _ _ _ (ap (λ x. x ∷ s) (eqb-true b 10 u.0)) v.1.1 (more_read BareLineEnd s v.0 rest tt (string_is Inside s v.0 rest v.1.0)))
        | inr u ↦ (let v : (w : List ℕ) × ((string_from Inside s ≡ Some (w, rest)) × (value ≡ (b ∷ []) ++ w)) = onto_some (b ∷ []) value rest (string_from Inside s) u.1 in
            read_at _ _ _ _ _ refl v.1.1 (more_read (Plain b) s v.0 rest (q.0, r.0, t.0, u.0) (string_is Inside s v.0 rest v.1.0)))
      ]
    ]
  ]
]
string_is Escape (b ∷ s) value rest h = elim (fork (b == 0 || (b == 13 || b == 10)) _ _ _ h) [
  | inl q ↦ absurd (let e : None ≡ Some (value, rest) = q.1 in cc)
  | inr q ↦ (let v : (w : List ℕ) × ((string_from Inside s ≡ Some (w, rest)) × (value ≡ (b ∷ []) ++ w)) = onto_some (b ∷ []) value rest (string_from Inside s) q.1 in
      let no : ((b == 0) ≡ false) × ((b == 13 || b == 10) ≡ false) = none_of _ _ q.0 in
      let nor : ((b == 13) ≡ false) × ((b == 10) ≡ false) = none_of _ _ no.1 in
      read_at _ _ _ _ _ refl v.1.1 (more_read (Escaped b) s v.0 rest (no.0, nor.0, nor.1) (string_is Inside s v.0 rest v.1.0)))
]
string_is Return (b ∷ s) value rest h = elim (fork (b == 10) _ _ _ h) [
  | inl q ↦ (let v : (w : List ℕ) × ((string_from Inside s ≡ Some (w, rest)) × (value ≡ (13 ∷ (10 ∷ [])) ++ w)) = onto_some (13 ∷ (10 ∷ [])) value rest (string_from Inside s) q.1 in
      read_at _ _ _ _ _ (ap (λ x. 13 ∷ (x ∷ s)) (eqb-true b 10 q.0)) v.1.1 (more_read LineEnd s v.0 rest tt (string_is Inside s v.0 rest v.1.0)))
  | inr q ↦ absurd (let e : None ≡ Some (value, rest) = q.1 in cc)
]

-- where a quotation mark stands first, only a string does
only_quoted : (v : Content) → Opens 34 v → (value : List ℕ) × (v ≡ Text value)
only_quoted v o = elim o [
  | Named name s c ve ↦ absurd (cc)
  | Worded value s c ve ↦ absurd (cc)
  | Numbered n d c ve ↦ absurd (cc)
  | Tagged name e c ve ↦ absurd (cc)
  | Quoted value e c ve ↦ (value, ve)
  | Marked m c ve ↦ absurd (cc)
]

-- a string at the front is read from the left
record IsStringAt (more : List ℕ) (v : Content) (m : ℕ) : Type 0 where
  value : List ℕ
  text : v ≡ Text value
  read : string_from Inside more ≡ Some (value, drop m more)

string_at : (more : List ℕ) (v : Content) (m : ℕ) (rest : List ℕ) → IsTokenShape v (take (suc m) (34 ∷ more)) rest → IsStringAt more v m
string_at more v m rest s =
    let text : (value : List ℕ) × (v ≡ Text value) = only_quoted v (front_opened 34 more v (suc m) rest s).1 in
    let shape : IsQuotedString (34 ∷ take m more) text.0 = quoted_shape text.0 (take m more) rest (shape_at _ _ _ _ text.1 s) in
    let spelled : 34 ∷ take m more ≡ 34 ∷ (flat_map spelling_of shape.pieces ++ 34 ∷ []) = shape.spelled in
    let front : take m more ≡ flat_map spelling_of shape.pieces ++ 34 ∷ [] = cc in
    let whole : more ≡ flat_map spelling_of shape.pieces ++ (34 ∷ drop m more) = front_of more _ m front ∙ append_assoc (flat_map spelling_of shape.pieces) (34 ∷ []) (drop m more) in
    record {
      value = text.0;
      text = text.1;
      read = ap (string_from Inside) whole ∙ string_again shape.pieces (drop m more) shape.each ∙ ap (λ x. Some (x, drop m more)) (sym shape.valued);
    }

same_rest : (xs : List ℕ) (m n : ℕ) → m ≤ length xs → n ≤ length xs → drop m xs ≡ drop n xs → m ≡ n
same_rest xs m n mw nw e = omega (arith, simp length-drop at (ap length e))

string_bound : (more value : List ℕ) (n : ℕ) → n ≤ length more → string_from Inside more ≡ Some (value, drop n more) → (v : Content) (m : ℕ) → m ≤ length (34 ∷ more) → IsTokenShape v (take m (34 ∷ more)) (drop m (34 ∷ more))
    → (m < 1 + n) ⊎ ((m ≡ 1 + n) × (v ≡ Text value))
string_bound more value n w h v zero within s = absurd (let p : 0 < 0 = (front_opened 34 more v zero _ s).0 in omega arith)
string_bound more value n w h v (suc m) within s =
    let t : IsStringAt more v m = string_at more v m _ s in
    let same : (t.value ≡ value) × (drop m more ≡ drop n more) = some_pair (t.value, drop m more) (value, drop n more) (sym t.read ∙ h) in
    let e : m ≡ n = same_rest more m n (omega arith) w same.1 in
    inr (omega arith, t.text ∙ ap Text same.0)

-- the longest spelling where a quotation mark stands first
pub string_best : (more value : List ℕ) (n : ℕ) → n ≤ length more → string_from Inside more ≡ Some (value, drop n more) → IsBest (34 ∷ more) (Text value) (1 + n)
string_best more value n w h =
    let r : IsRead more value (drop n more) = string_is Inside more value (drop n more) h in
    let whole : take n more ++ drop n more ≡ (flat_map spelling_of r.pieces ++ 34 ∷ []) ++ drop n more =
    take-append-drop n more ∙ r.spelled ∙ sym (append_assoc (flat_map spelling_of r.pieces) (34 ∷ []) (drop n more)) in
    let front : take n more ≡ flat_map spelling_of r.pieces ++ 34 ∷ [] = append_cancel_right _ _ (drop n more) whole in
    record {
      within = omega arith;
      shape = rw (one_more n) (inl (record { pieces = r.pieces; each = r.each; spelled = ap (λ x. 34 ∷ x) front; valued = r.valued }));
      best = string_bound more value n w h;
    }

-- a string without its end is no token
pub string_none : (more : List ℕ) → string_from Inside more ≡ None → (v : Content) (m : ℕ) (rest : List ℕ) → IsTokenShape v (take m (34 ∷ more)) rest → ⊥
string_none more h v zero rest s = let p : 0 < 0 = (front_opened 34 more v zero _ s).0 in omega arith
string_none more h v (suc m) rest s = let t : IsStringAt more v m = string_at more v m rest s in let e : None ≡ Some (t.value, drop m more) = sym h ∙ t.read in cc

-- what the reader of strings finds
pub string_found : (more value : List ℕ) (n : ℕ) → n ≤ length more → string_from Inside more ≡ Some (value, drop n more) → IsFound (34 ∷ more) (record { content = Text value; len = 1 + n })
string_found more value n w h = best_found (34 ∷ more) (record { content = Text value; len = 1 + n }) (string_best more value n w h) tt (λ t. t)

pub no_string : (more : List ℕ) → string_from Inside more ≡ None → (g : Front) → IsFront (34 ∷ more) g → ⊥
no_string more h g t = string_none more h g.content g.len _ t.shape

-- each of them is false
all_false : (p q r s : Bool) → (not p && (not q && (not r && not s))) ≡ true → (p ≡ false) × ((q ≡ false) × ((r ≡ false) × (s ≡ false)))
all_false true q r s h = absurd (cc)
all_false false true r s h = absurd (cc)
all_false false false true s h = absurd (cc)
all_false false false false true h = absurd (cc)
all_false false false false false h = (refl, (refl, (refl, refl)))

-- an octet that stands for itself
plain_here : (b : ℕ) (s : List ℕ) → is_plain_octet b ≡ true → string_from Inside (b ∷ s) ≡ onto (b ∷ []) (string_from Inside s)
plain_here b s h = let p = all_false (b == 34) (b == 92) (b == 13) (b == 10) h in rw (p.0, p.1.0, p.1.1.0, p.1.1.1) refl

plain_at : (b : ℕ) (s rest : List ℕ) (v : Bool) → is_plain_octet b ≡ v → drop (prefix_len is_plain_octet (b ∷ s)) (b ∷ s) ≡ 34 ∷ rest
    → (drop (prefix_len is_plain_octet s) s ≡ 34 ∷ rest → string_from Inside s ≡ Some (take (prefix_len is_plain_octet s) s, rest))
    → string_from Inside (b ∷ s) ≡ Some (take (prefix_len is_plain_octet (b ∷ s)) (b ∷ s), rest)
plain_at b s rest true e h more =
    let n : ℕ = prefix_len is_plain_octet s in
    let here : drop (1 + n) (b ∷ s) ≡ 34 ∷ rest = rw e at h in
    let later : drop n s ≡ 34 ∷ rest = ap (λ k. drop k (b ∷ s)) (sym (one_more n)) ∙ here in
    rw e (plain_here b s e ∙ ap (onto (b ∷ [])) (more later) ∙ ap (λ k. Some (take k (b ∷ s), rest)) (sym (one_more n)))
plain_at b s rest false e h more =
    let here : b ∷ s ≡ 34 ∷ rest = rw e at h in
    rw e (ap (string_from Inside) here)

-- octets that stand for themselves, and a quotation mark
pub plain_string : (s rest : List ℕ) → drop (prefix_len is_plain_octet s) s ≡ 34 ∷ rest → string_from Inside s ≡ Some (take (prefix_len is_plain_octet s) s, rest)
plain_string [] rest h = absurd (cc)
plain_string (b ∷ s) rest h = plain_at b s rest (is_plain_octet b) refl h (plain_string s rest)

-- what follows an octet
pub rest_after : (s rest : List ℕ) (i b : ℕ) → drop i s ≡ b ∷ rest → (i < length s) × (rest ≡ drop (i + 1) s)
rest_after s rest i b h =
    let long : length s - i ≡ suc (length rest) = sym (length-drop i s) ∙ ap length h in
    let within : i < length s = omega (arith, long) in
    (within, ap (drop 1) (sym h ∙ drop_more s i 0 within))
