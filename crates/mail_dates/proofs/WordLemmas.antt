-- What words mean.
use Rattle.std.proofs.Common.{◌≡◌, ℕ, ◌+◌, ◌*◌, ◌==◌, ◌<◌, ◌≤◌, ◌^◌, ◌&&◌, Bool, true, false, cond, Option, None, Some, inl, inr, List, [], ◌∷◌, length, take, drop, ℤ, pos, neg_ℤ, subst, nat_le, refl, sym, arith}
use Rattle.std.specs.Prelude.{codes}
use Rattle.std.specs.Option.{option_map, option_and_then}
use Rattle.jiff_core.proofs.SignedLemmas.{signed_arith}
use Rattle.octets.proofs.Lists.{some_is, fork}
use Rattle.mail_dates.specs.Zones.{offset_of, numeric_of, hours_west, named_of, zone_of}
use Rattle.mail_dates.specs.DateTimes.{IsZone}
use Rattle.std.proofs.lemmas.List.Sums.{AllPass-from_list_all, list_all-from_AllPass}
use Rattle.std.proofs.lemmas.Bool.{cases_lt}
use Rattle.std.proofs.lemmas.Bool.Decides.{nat_tests}
use Rattle.octets.specs.Ascii.{is_digit, is_letter}
use Rattle.octets.specs.Decimal.{Writes, number_of}
use Rattle.mail_dates.specs.Words.{number_in, is_digits, two_digits, year_of, in_century, is_named}

pub map_some : {A B : Type 0} (f : A → B) (o : Option A) (y : B) → option_map f o ≡ Some y → (x : A) × ((o ≡ Some x) × (f x ≡ y))
map_some f None y found = absurd (cc)
map_some f (Some x) y found = (x, (refl, some_is (f x) y found))

pub then_some : {A B : Type 0} (f : A → Option B) (o : Option A) (y : B) → option_and_then f o ≡ Some y → (x : A) × ((o ≡ Some x) × (f x ≡ Some y))
then_some f None y found = absurd (cc)
then_some f (Some x) y found = (x, (refl, found))

digits_write : (word : List ℕ) → is_digits word ≡ true → Writes word (number_of word)
digits_write [] is = absurd (cc)
digits_write (first ∷ more) is = record { present = λ e. absurd (cc); digits = AllPass-from_list_all is_digit (first ∷ more) is; value = refl }

written_digits : (word : List ℕ) (n : ℕ) → Writes word n → is_digits word ≡ true
written_digits [] n is = absurd (is.present refl)
written_digits (first ∷ more) n is = list_all-from_AllPass is_digit (first ∷ more) is.digits

pub number_some : (limit n : ℕ) (word : List ℕ) → Writes word n → n ≤ limit → Some n ≡ number_in limit word
unfolding number_in
number_some limit n word is within = rw (written_digits word n is, is.value) (grind arith)

pub number_past : (limit n : ℕ) (word : List ℕ) → Writes word n → limit < n → None ≡ number_in limit word
unfolding number_in
number_past limit n word is past = rw (written_digits word n is, is.value) (grind arith)

past : (limit n : ℕ) (o : Option ℕ) → limit < n → None ≡ cond (nat_le n limit) o None
past limit n o far = grind (arith, nat_tests)

none_of : (test : Bool) (limit : ℕ) (word : List ℕ) → test ≡ is_digits word → limit < 2 ^ 64 → ((n : ℕ) → n < 2 ^ 64 → Writes word n → ⊥) → None ≡ cond (test && nat_le (number_of word) limit) (Some (number_of word)) None
none_of false limit word is small never = refl
none_of true limit word is small never = let w = digits_write word (sym is) in past limit (number_of word) (Some (number_of word)) (elim (cases_lt limit (number_of word)) [ inl far ↦ far | inr near ↦ absurd (never (number_of word) (omega arith) w) ])

pub number_none : (limit : ℕ) (word : List ℕ) → limit < 2 ^ 64 → ((n : ℕ) → n < 2 ^ 64 → Writes word n → ⊥) → None ≡ number_in limit word
unfolding number_in
number_none limit word small never = none_of (is_digits word) limit word refl small never

-- numbers are within their limits
number_within : (limit n : ℕ) (word : List ℕ) → number_in limit word ≡ Some n → n ≤ limit
unfolding number_in
number_within limit n word is =
    elim (fork (is_digits word && nat_le (number_of word) limit) (Some (number_of word)) None (Some n) is) [
      | inl p ↦ grind (arith, nat_tests)
      | inr p ↦ absurd (cc)
    ]

pub two_within : (limit n : ℕ) (word : List ℕ) → two_digits limit word ≡ Some n → n ≤ limit
unfolding two_digits
two_within limit n word is =
    elim (fork (length word == 2) (number_in limit word) None (Some n) is) [ inl p ↦ number_within limit n word p.1 | inr p ↦ absurd (cc) ]

mapped_within : (f : ℕ → ℕ) (low high n : ℕ) (word : List ℕ) → ((k : ℕ) → k ≤ low → f k ≤ high) → option_map f (number_in low word) ≡ Some n → n ≤ high
mapped_within f low high n word bound is =
    let m = map_some f (number_in low word) n is in
    rw (sym m.1.1) (bound m.0 (number_within low m.0 word m.1.0))

pub year_within : (n : ℕ) (word : List ℕ) → year_of word ≡ Some n → n ≤ 9999
unfolding year_of
year_within n word is =
    elim (fork (length word == 2) (option_map in_century (number_in 99 word)) _ (Some n) is) [
      | inl p ↦ mapped_within in_century 99 9999 n word (λ k le. grind (arith, nat_tests)) p.1
      | inr p ↦ elim (fork (length word == 3) (option_map (λ year. 1900 + year) (number_in 999 word)) _ (Some n) p.1) [
        | inl q ↦ mapped_within (λ year. 1900 + year) 999 9999 n word (λ k le. omega arith) q.1
        | inr q ↦ elim (fork (nat_le 4 (length word)) (number_in 9999 word) None (Some n) q.1) [ inl r ↦ number_within 9999 n word r.1 | inr r ↦ absurd (cc) ]
      ]
    ]

offset_within : (n : ℕ) (digits : List ℕ) → offset_of digits ≡ Some n → n ≤ 1439
unfolding offset_of
offset_within n digits is =
    elim (fork (length digits == 4) _ None (Some n) is) [
      | inl p ↦
          let h = then_some _ (two_digits 23 (take 2 digits)) n p.1 in
          let m = map_some _ (two_digits 59 (drop 2 digits)) n h.1.1 in
          let hours = two_within 23 h.0 (take 2 digits) h.1.0 in
          let minutes = two_within 59 m.0 (drop 2 digits) m.1.0 in
          omega (arith, m.1.1)
      | inr p ↦ absurd (cc)
    ]

east_within : (n : ℕ) → n ≤ 1439 → IsZone (pos n)
east_within n le = omega (arith, signed_arith)

west_within : (n : ℕ) → n ≤ 1439 → IsZone (neg_ℤ (pos n))
west_within n le = omega (arith, signed_arith)

numeric_within : (zone : ℤ) (word : List ℕ) → numeric_of word ≡ Some zone → IsZone zone
unfolding numeric_of
numeric_within zone [] is = absurd (cc)
numeric_within zone (sign ∷ digits) is =
    elim (fork (sign == 43) (option_map pos (offset_of digits)) _ (Some zone) is) [
      | inl p ↦
          let m = map_some pos (offset_of digits) zone p.1 in
          subst (λ (z : ℤ). IsZone z) m.1.1 (east_within m.0 (offset_within m.0 digits m.1.0))
      | inr p ↦ elim (fork (sign == 45) (option_map (λ minutes. neg_ℤ (pos minutes)) (offset_of digits)) None (Some zone) p.1) [
        | inl q ↦
            let m = map_some (λ minutes. neg_ℤ (pos minutes)) (offset_of digits) zone q.1 in
            subst (λ (z : ℤ). IsZone z) m.1.1 (west_within m.0 (offset_within m.0 digits m.1.0))
        | inr q ↦ absurd (cc)
      ]
    ]

choice : (b : Bool) (x y : ℕ) → x ≤ 8 → y ≤ 8 → cond b x y ≤ 8
choice true x y a b = a
choice false x y a b = b

west_hours : (word : List ℕ) → hours_west word ≤ 8
unfolding hours_west
west_hours word =
    choice (is_named word (codes "edt")) 4 _ (omega arith)
    (choice (is_named word (codes "est")) 5 _ (omega arith)
    (choice (is_named word (codes "cdt")) 5 _ (omega arith)
    (choice (is_named word (codes "cst")) 6 _ (omega arith)
    (choice (is_named word (codes "mdt")) 6 _ (omega arith)
    (choice (is_named word (codes "mst")) 7 _ (omega arith)
    (choice (is_named word (codes "pdt")) 7 _ (omega arith)
    (choice (is_named word (codes "pst")) 8 0 (omega arith) (omega arith))))))))

pub zone_within : (zone : ℤ) (word : List ℕ) → zone_of word ≡ Some zone → IsZone zone
unfolding zone_of named_of
zone_within zone [] is = absurd (cc)
zone_within zone (first ∷ more) is =
    elim (fork (is_letter first) _ (numeric_of (first ∷ more)) (Some zone) is) [
      | inl p ↦ subst (λ (z : ℤ). IsZone z) (some_is _ zone p.1) (west_within (hours_west (first ∷ more) * 60) (omega (arith, west_hours (first ∷ more))))
      | inr p ↦ numeric_within zone (first ∷ more) p.1
    ]
