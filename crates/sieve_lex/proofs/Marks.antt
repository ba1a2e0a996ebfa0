-- Marks, and octets that begin nothing.
use Rattle.std.proofs.Common.{◌≡◌, ℕ, ◌≤◌, suc, zero, false, List, [], ◌∷◌, length, take, drop, refl, ap, sym, ◌∙◌, subst, inr, arith}
use Rattle.octets.specs.Ascii.{is_digit}
use Rattle.sieve_lex.specs.declared.front.Front.{Front}
use Rattle.sieve_lex.specs.declared.token.Content.{Content}
use Rattle.sieve_lex.specs.declared.token.Content.TheVariants as C
use Rattle.sieve_lex.specs.declared.token.Mark.{Mark}
use Rattle.sieve_lex.specs.declared.class.Class.TheVariants as Class
use Rattle.sieve_lex.specs.Class.{is_name_start, octet_class_of}
use Rattle.sieve_lex.specs.Shape.{IsTokenShape}
use Rattle.sieve_lex.specs.Front.{IsFront}
use Rattle.sieve_lex.proofs.Opening.{Opens, front_opened, shape_at}
use Rattle.sieve_lex.proofs.Opening.Opens.{Named, Worded, Numbered, Tagged, Quoted, Marked}
use Rattle.sieve_lex.proofs.Best.{IsBest, IsFound, best_found}

-- where a mark stands first, only this mark does
only_marked : (b : ℕ) (mark : Mark) (v : Content) → octet_class_of b ≡ Class.Mark mark → Opens b v → v ≡ C.Mark mark
only_marked b mark v h o = elim o [
  | Named name s c ve ↦ absurd (cc)
  | Worded value s c ve ↦ absurd (cc)
  | Numbered n d c ve ↦ absurd (cc)
  | Tagged name e c ve ↦ absurd (cc)
  | Quoted value e c ve ↦ absurd (cc)
  | Marked m c ve ↦ (let same : m ≡ mark = cc in ve ∙ ap C.Mark same)
]

one_octet : (b : ℕ) (more : List ℕ) (m : ℕ) (x : ℕ) → m ≤ length (b ∷ more) → take m (b ∷ more) ≡ x ∷ [] → m ≡ 1
one_octet b more zero x within e = absurd (cc)
one_octet b [] (suc m) x within e = omega arith
one_octet b (c ∷ more) (suc zero) x within e = refl
one_octet b (c ∷ more) (suc (suc m)) x within e = absurd (cc)

mark_bound : (b : ℕ) (more : List ℕ) (mark : Mark) (v : Content) (m : ℕ) → octet_class_of b ≡ Class.Mark mark → m ≤ length (b ∷ more) → IsTokenShape v (take m (b ∷ more)) (drop m (b ∷ more)) → (m ≡ 1) × (v ≡ C.Mark mark)
mark_bound b more mark v m h within s =
    let is : v ≡ C.Mark mark = only_marked b mark v h (front_opened b more v m _ s).1 in
    let shape : IsTokenShape (C.Mark mark) (take m (b ∷ more)) (drop m (b ∷ more)) = shape_at _ _ _ _ is s in
    (one_octet b more m shape.0 within shape.1.1, is)

mark_best : (b : ℕ) (more : List ℕ) (mark : Mark) → octet_class_of b ≡ Class.Mark mark → IsBest (b ∷ more) (C.Mark mark) 1
mark_best b more mark h = record {
  within = omega arith;
  shape = (b, (h, refl));
  best = λ v m within s. inr (mark_bound b more mark v m h within s);
}

-- what is found where a mark stands first
pub mark_found : (octets : List ℕ) (b : ℕ) (more : List ℕ) (mark : Mark) → octets ≡ b ∷ more → octet_class_of b ≡ Class.Mark mark → IsFound octets (record { content = C.Mark mark; len = 1 })
mark_found octets b more mark e h =
    let f : Front = record { content = C.Mark mark; len = 1 } in
    let P : List ℕ → Type 0 = λ x. IsFound x f in
    subst P (sym e) (best_found (b ∷ more) f (mark_best b more mark h) tt (λ t. t))

pub none_opened : (b : ℕ) (v : Content) → is_name_start b ≡ false → is_digit b ≡ false → (b ≡ 58 → ⊥) → (b ≡ 34 → ⊥) → ((m : Mark) → octet_class_of b ≡ Class.Mark m → ⊥) → Opens b v → ⊥
none_opened b v no_name no_digit no_tag no_string no_mark o = elim o [
  | Named name s c ve ↦ (cc)
  | Worded value s c ve ↦ (cc)
  | Numbered n d c ve ↦ (cc)
  | Tagged name e c ve ↦ no_tag e
  | Quoted value e c ve ↦ no_string e
  | Marked m c ve ↦ no_mark m c
]

-- nothing is found where no token begins
pub other_none : (octets : List ℕ) (b : ℕ) (more : List ℕ) → octets ≡ b ∷ more → is_name_start b ≡ false → is_digit b ≡ false → (b ≡ 58 → ⊥) → (b ≡ 34 → ⊥) → ((m : Mark) → octet_class_of b ≡ Class.Mark m → ⊥)
    → (g : Front) → IsFront octets g → ⊥
other_none octets b more e no_name no_digit no_tag no_string no_mark g t =
    let P : List ℕ → Type 0 = λ x. IsTokenShape g.content (take g.len x) (drop g.len x) in
    none_opened b g.content no_name no_digit no_tag no_string no_mark (front_opened b more g.content g.len _ (subst P e t.shape)).1
