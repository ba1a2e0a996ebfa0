-- The captures of RFC 5229, section 3.2, and near them what they aren't.
use Rattle.std.proofs.Common.{refl, ◌≡◌, ℕ, zero, suc, ◌<◌, Bool, true, not, ◌==◌, List, [], ◌∷◌, ◌++◌, length, drop, map, codes, get_or, sym, ap, subst, arith, length-append, append-nil}
use Rattle.std.proofs.lemmas.List.{length-drop}
use Rattle.std.proofs.lemmas.Bool.{and_parts, not-true, both_ways, eq-eqb}
use Rattle.std.specs.Char.{to_ascii_uppercase}
use Rattle.std.specs.List.{list_all}
use Rattle.sieve_match.specs.Glob.{items, Glob}
use Rattle.sieve_match.specs.Captures.{AreCaptures}
use Rattle.sieve_match.specs.declared.pattern.GlobItem.{GlobItem}
use Rattle.sieve_match.specs.declared.pattern.GlobItem.TheVariants.{Star, One, Exact}
use Rattle.sieve_match.proofs.CaptureLemmas.{captures_nil, captures_one_more, captures_exact_more, captures_star_more, captures_one}

-- octets that have the images of a pattern's
captures_word : (f : ℕ → ℕ) (rest : List GlobItem) (text : List ℕ) (cs : List (List ℕ)) → AreCaptures f rest text cs → (word written : List ℕ) → map f word ≡ map f written
    → AreCaptures f (map Exact word ++ rest) (written ++ text) cs
captures_word f rest text cs after [] [] same = after
captures_word f rest text cs after [] (y ∷ written) same = cc
captures_word f rest text cs after (x ∷ word) [] same = cc
captures_word f rest text cs after (x ∷ word) (y ∷ written) same =
    let first : f x ≡ f y = cc in
    let others : map f word ≡ map f written = cc in
    captures_exact_more f (map Exact word ++ rest) (written ++ text) cs (captures_word f rest text cs after word written others) x y first

-- items without a star match as many octets as they are
no_more : (f : ℕ → ℕ) (word text : List ℕ) → Glob f (map Exact word) text → length text ≡ length word
unfolding Glob
no_more f [] text g = ap length g
no_more f (x ∷ word) [] g = absurd g
no_more f (x ∷ word) (y ∷ text) g = omega (arith, no_more f word text g.1)

-- a star before a last word takes all before it
captures_star_word : (f : ℕ → ℕ) (word written piece : List ℕ) → map f word ≡ map f written → length word ≡ length written
    → AreCaptures f (Star ∷ map Exact word) (piece ++ written) (piece ∷ [])
captures_star_word f word written piece same long =
    let last : AreCaptures f (map Exact word) written [] =
    subst (λ l. AreCaptures f l written []) (append-nil (map Exact word))
    (subst (λ t. AreCaptures f (map Exact word ++ []) t []) (append-nil written) (captures_word f [] [] [] (captures_nil f) word written same)) in
    captures_star_more f (map Exact word) written [] last piece
    (λ j low g. absurd (omega (arith, no_more f word (drop j (piece ++ written)) g, length-drop j (piece ++ written), length-append piece written)))

-- a star at a pattern's end takes what is left
captures_star_last : (f : ℕ → ℕ) (text : List ℕ) → AreCaptures f (Star ∷ []) text (text ∷ [])
captures_star_last f text = subst (λ t. AreCaptures f (Star ∷ []) t (text ∷ [])) (append-nil text) (captures_star_word f [] [] text refl refl)

-- a star before an octet that is in no piece before it
absent : (ℕ → ℕ) → ℕ → List ℕ → Bool
absent f octet piece = list_all (λ x. not (f octet == f x)) piece

other_first : (f : ℕ → ℕ) (octet : ℕ) (rest : List GlobItem) (text piece : List ℕ) → absent f octet piece ≡ true → (j : ℕ) → j < length piece
    → Glob f (Exact octet ∷ rest) (drop j (piece ++ text)) → ⊥
unfolding absent Glob
other_first f octet rest text [] none j low g = absurd (omega (arith, low))
other_first f octet rest text (x ∷ piece) none zero low g =
    both_ways (f octet == f x) (not-true (f octet == f x) (and_parts (not (f octet == f x)) (absent f octet piece) none).0) (eq-eqb (f octet) (f x) g.0)
other_first f octet rest text (x ∷ piece) none (suc j) low g =
    other_first f octet rest text piece (and_parts (not (f octet == f x)) (absent f octet piece) none).1 j (omega (arith, low)) g

captures_star_to : (f : ℕ → ℕ) (octet : ℕ) (rest : List GlobItem) (text : List ℕ) (cs : List (List ℕ)) → AreCaptures f (Exact octet ∷ rest) text cs → (piece : List ℕ) → absent f octet piece ≡ true
    → AreCaptures f (Star ∷ Exact octet ∷ rest) (piece ++ text) (piece ∷ cs)
captures_star_to f octet rest text cs after piece none = captures_star_more f (Exact octet ∷ rest) text cs after piece (other_first f octet rest text piece none)

-- "[*] *" takes of "[acme-users] [fwd] version 1.0 is out" the name before the first "]", and the rest
subject_items : items (codes "[*] *") ≡ map Exact (codes "[") ++ (Star ∷ Exact 93 ∷ map Exact (codes " ") ++ (Star ∷ []))
unfolding items
subject_items = refl

subject : AreCaptures to_ascii_uppercase (items (codes "[*] *")) (codes "[acme-users] [fwd] version 1.0 is out") (codes "acme-users" ∷ codes "[fwd] version 1.0 is out" ∷ [])
unfolding absent
subject =
    let f : ℕ → ℕ = to_ascii_uppercase in
    let last : AreCaptures f (Star ∷ []) (codes "[fwd] version 1.0 is out") (codes "[fwd] version 1.0 is out" ∷ []) = captures_star_last f (codes "[fwd] version 1.0 is out") in
    let middle : AreCaptures f (Exact 93 ∷ map Exact (codes " ") ++ (Star ∷ [])) (codes "] [fwd] version 1.0 is out") (codes "[fwd] version 1.0 is out" ∷ []) =
    captures_word f (Star ∷ []) (codes "[fwd] version 1.0 is out") (codes "[fwd] version 1.0 is out" ∷ []) last (codes "] ") (codes "] ") refl in
    subst (λ is. AreCaptures f is (codes "[acme-users] [fwd] version 1.0 is out") (codes "acme-users" ∷ codes "[fwd] version 1.0 is out" ∷ [])) (sym subject_items)
    (captures_word f (Star ∷ Exact 93 ∷ map Exact (codes " ") ++ (Star ∷ [])) (codes "acme-users] [fwd] version 1.0 is out") (codes "acme-users" ∷ codes "[fwd] version 1.0 is out" ∷ [])
    (captures_star_to f 93 (map Exact (codes " ") ++ (Star ∷ [])) (codes "] [fwd] version 1.0 is out") (codes "[fwd] version 1.0 is out" ∷ []) middle (codes "acme-users") refl)
    (codes "[") (codes "[") refl)

-- and not up to the last "]"
subject_not_greedy : AreCaptures to_ascii_uppercase (items (codes "[*] *")) (codes "[acme-users] [fwd] version 1.0 is out") (codes "acme-users] [fwd" ∷ codes "version 1.0 is out" ∷ []) → ⊥
subject_not_greedy other =
    let same = captures_one to_ascii_uppercase (items (codes "[*] *")) (codes "[acme-users] [fwd] version 1.0 is out") _ _ subject other in
    omega (arith, ap (λ l. length (get_or l 0 [])) same)

-- of two stars in a row the first takes nothing: "coyote@**.com" and "coyote@ACME.Example.COM"
domain_items : items (codes "coyote@**.com") ≡ map Exact (codes "coyote@") ++ (Star ∷ Star ∷ map Exact (codes ".com"))
unfolding items
domain_items = refl

domain : AreCaptures to_ascii_uppercase (items (codes "coyote@**.com")) (codes "coyote@ACME.Example.COM") ([] ∷ codes "ACME.Example" ∷ [])
domain =
    let f : ℕ → ℕ = to_ascii_uppercase in
    let second : AreCaptures f (Star ∷ map Exact (codes ".com")) (codes "ACME.Example.COM") (codes "ACME.Example" ∷ []) = captures_star_word f (codes ".com") (codes ".COM") (codes "ACME.Example") refl refl in
    let first : AreCaptures f (Star ∷ Star ∷ map Exact (codes ".com")) (codes "ACME.Example.COM") ([] ∷ codes "ACME.Example" ∷ []) =
    captures_star_more f (Star ∷ map Exact (codes ".com")) (codes "ACME.Example.COM") (codes "ACME.Example" ∷ []) second [] (λ j low g. absurd (omega (arith, low))) in
    subst (λ is. AreCaptures f is (codes "coyote@ACME.Example.COM") ([] ∷ codes "ACME.Example" ∷ [])) (sym domain_items)
    (captures_word f (Star ∷ Star ∷ map Exact (codes ".com")) (codes "ACME.Example.COM") ([] ∷ codes "ACME.Example" ∷ []) first (codes "coyote@") (codes "coyote@") refl)

domain_not_first : AreCaptures to_ascii_uppercase (items (codes "coyote@**.com")) (codes "coyote@ACME.Example.COM") (codes "ACME.Example" ∷ [] ∷ []) → ⊥
domain_not_first other =
    let same = captures_one to_ascii_uppercase (items (codes "coyote@**.com")) (codes "coyote@ACME.Example.COM") _ _ domain other in
    omega (arith, ap (λ l. length (get_or l 0 [])) same)

-- "?" takes one octet: "a?c" and "abc"
one_octet_each : AreCaptures (λ x. x) (Exact 97 ∷ One ∷ Exact 99 ∷ []) (codes "abc") (codes "b" ∷ [])
one_octet_each =
    let f : ℕ → ℕ = λ x. x in
    captures_exact_more f (One ∷ Exact 99 ∷ []) (codes "bc") (codes "b" ∷ [])
    (captures_one_more f (Exact 99 ∷ []) (codes "c") [] (captures_exact_more f [] [] [] (captures_nil f) 99 99 refl) 98)
    97 97 refl
