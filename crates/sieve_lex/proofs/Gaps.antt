-- White space between tokens.
use Rattle.std.proofs.Common.{◌≡◌, ℕ, ◌<◌, suc, zero, true, false, ◌==◌, Some, List, [], ◌∷◌, ◌++◌, length, take, drop, refl, ap, sym, ◌∙◌, subst, inl, inr, arith}
use Rattle.std.specs.List.{flat_map}
use Rattle.std.proofs.lemmas.List.{append-nil, append_cancel_right, take-append-drop}
use Rattle.std.proofs.lemmas.Bool.{false_from_ne_true, ne_eqb}
use Rattle.std.proofs.lemmas.Bool.Decides.{nat_tests}
use Rattle.octets.specs.Ascii.{is_digit}
use Rattle.sieve_lex.specs.declared.token.Content.{Content}
use Rattle.sieve_lex.specs.declared.class.Class.TheVariants.{White as OfWhite}
use Rattle.sieve_lex.specs.declared.space.SpaceState.TheVariants.{Between}
use Rattle.sieve_lex.specs.Class.{is_name_start, is_white, octet_class_of}
use Rattle.sieve_lex.specs.Shape.{IsTokenShape}
use Rattle.sieve_lex.specs.Space.{space_of, IsGap, IsTail}
use Rattle.sieve_lex.specs.Skip.{begins_space, space_from}
use Rattle.sieve_lex.proofs.Prefixes.{take_none, front_of}
use Rattle.sieve_lex.proofs.Opening.{Opens, IsOpened, shape_opened, front_opened}
use Rattle.sieve_lex.proofs.Opening.Opens.{Named, Worded, Numbered, Tagged, Quoted, Marked}
use Rattle.sieve_lex.proofs.Marks.{none_opened}
use Rattle.sieve_lex.proofs.Spaces.{IsSpaced, spaces_again, last_again, spaced}

-- no white octet begins a name or a number
white_no_start : (b : ℕ) → is_white b ≡ true → is_name_start b ≡ false
white_no_start b h = grind (arith, nat_tests)

white_no_digit : (b : ℕ) → is_white b ≡ true → is_digit b ≡ false
white_no_digit b h = grind (arith, nat_tests)

class_white : (b : ℕ) → is_white b ≡ true → octet_class_of b ≡ OfWhite
class_white b h =
    let unnamed : is_name_start b ≡ false = white_no_start b h in
    let unnumbered : is_digit b ≡ false = white_no_digit b h in
    rw (unnamed, unnumbered, h) refl

-- no token begins with a white octet
opens_white : (b : ℕ) (v : Content) → is_white b ≡ true → Opens b v → ⊥
opens_white b v h o =
    let white : octet_class_of b ≡ OfWhite = class_white b h in
    elim o [
      | Named name s c ve ↦ (cc)
      | Worded value s c ve ↦ (cc)
      | Numbered n d c ve ↦ (cc)
      | Tagged name e c ve ↦ (cc)
      | Quoted value e c ve ↦ (cc)
      | Marked m c ve ↦ (cc)
    ]

none_at : (b c : ℕ) (v : Content) → (Opens c v → ⊥) → Opens b v → b ≡ c → ⊥
none_at b c v none o e = let P : ℕ → Type 0 = λ x. Opens x v in none (subst P e o)

-- no token begins with a number sign or a slash
opens_hash : (v : Content) → Opens 35 v → ⊥
opens_hash v o = none_opened 35 v refl refl (λ e. omega arith) (λ e. omega arith) (λ m e. cc) o

opens_slash : (v : Content) → Opens 47 v → ⊥
opens_slash v o = none_opened 47 v refl refl (λ e. omega arith) (λ e. omega arith) (λ m e. cc) o

-- where a token begins no white space does
opens_no_space : (b : ℕ) (more : List ℕ) (v : Content) → Opens b v → begins_space (b ∷ more) ≡ false
opens_no_space b more v o =
    let unwhite : is_white b ≡ false = false_from_ne_true _ (λ h. opens_white b v h o) in
    let unhashed : (b == 35) ≡ false = ne_eqb b 35 (none_at b 35 v (opens_hash v) o) in
    let unslashed : (b == 47) ≡ false = ne_eqb b 47 (none_at b 47 v (opens_slash v) o) in
    rw (unwhite, unhashed, unslashed) refl

token_ends : (b : ℕ) (more : List ℕ) (v : Content) → Opens b v → space_from Between (b ∷ more) ≡ Some (b ∷ more)
token_ends b more v o = rw (opens_no_space b more v o) refl

-- a spelling at the front of a text tells its first octet
opened_text : (octets : List ℕ) (v : Content) (n : ℕ) (rest : List ℕ) → IsTokenShape v (take n octets) rest → (b : ℕ) × ((more : List ℕ) × ((octets ≡ b ∷ more) × Opens b v))
opened_text [] v n rest s = let o : IsOpened v (take n []) = shape_opened v _ rest s in let e : [] ≡ o.first ∷ o.more = sym (take_none n) ∙ o.spelled in absurd (cc)
opened_text (b ∷ more) v n rest s = (b, (more, (refl, (front_opened b more v n rest s).1)))

-- after a gap before a token the token is what follows the white space
pub gap_only : (octets : List ℕ) (u : ℕ) (v : Content) (n : ℕ) (rest : List ℕ) → IsGap (take u octets) → IsTokenShape v (take n (drop u octets)) rest → space_from Between octets ≡ Some (drop u octets)
gap_only octets u v n rest g s =
    let o : (b : ℕ) × ((more : List ℕ) × ((drop u octets ≡ b ∷ more) × Opens b v)) = opened_text (drop u octets) v n rest s in
    let whole : octets ≡ flat_map space_of g.pieces ++ drop u octets = front_of octets _ u g.spelled in
    let ends : space_from Between (drop u octets) ≡ Some (drop u octets) =
    ap (space_from Between) o.1.1.0 ∙ token_ends o.0 o.1.0 v o.1.1.1 ∙ ap (λ x. Some x) (sym o.1.1.0) in
    ap (space_from Between) whole ∙ spaces_again g.pieces (drop u octets) g.each ∙ ends

-- after the white space after the last token nothing is left
pub tail_all : (octets : List ℕ) → IsTail octets → space_from Between octets ≡ Some []
tail_all octets g = ap (space_from Between) g.spelled ∙ spaces_again g.pieces g.last g.each ∙ last_again g.last g.comment

-- what is read as white space before something is a gap
pub gap_is : (octets : List ℕ) (w : ℕ) → space_from Between octets ≡ Some (drop w octets) → (length (drop w octets) ≡ 0 → ⊥) → IsGap (take w octets)
gap_is octets w h some =
    let s : IsSpaced octets (drop w octets) = spaced (length octets) octets (drop w octets) (omega arith) h in
    elim s.alone [
      | inl none ↦ (let whole : take w octets ++ drop w octets ≡ flat_map space_of s.pieces ++ drop w octets =
          take-append-drop w octets ∙ s.spelled ∙ ap (λ x. flat_map space_of s.pieces ++ (x ++ drop w octets)) none in
          record { pieces = s.pieces; each = s.each; spelled = append_cancel_right _ _ (drop w octets) whole })
      | inr none ↦ absurd (some (ap length none))
    ]

-- and before nothing it is a tail
pub tail_is : (octets rest : List ℕ) → space_from Between octets ≡ Some rest → rest ≡ [] → IsTail octets
tail_is octets rest h none =
    let s : IsSpaced octets rest = spaced (length octets) octets rest (omega arith) h in
    record {
      pieces = s.pieces;
      last = s.last;
      each = s.each;
      comment = s.comment;
      spelled = s.spelled ∙ ap (λ x. flat_map space_of s.pieces ++ (s.last ++ x)) none ∙ ap (λ x. flat_map space_of s.pieces ++ x) (append-nil s.last);
    }

-- and no token stands after it
pub empty_none : (octets : List ℕ) (v : Content) (n : ℕ) (rest : List ℕ) → length octets ≡ 0 → IsTokenShape v (take n octets) rest → ⊥
empty_none octets v n rest e s =
    let o : (b : ℕ) × ((more : List ℕ) × ((octets ≡ b ∷ more) × Opens b v)) = opened_text octets v n rest s in
    omega (arith, ap length o.1.1.0)

-- a spelling is not empty
pub shape_some : (octets : List ℕ) (v : Content) (n : ℕ) (rest : List ℕ) → IsTokenShape v (take n octets) rest → 0 < n
shape_some octets v zero rest s = let o : IsOpened v [] = shape_opened v _ rest s in let e : [] ≡ o.first ∷ o.more = o.spelled in absurd (cc)
shape_some octets v (suc n) rest s = omega arith
