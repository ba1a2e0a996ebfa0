-- Why two users have no Maildir in common.
use Rattle.std.proofs.Common.{◌≡◌, ℕ, Bool, true, false, inl, inr, List, [], ◌∷◌, ◌++◌, Some, None, refl, sym, ap, ◌∙◌, subst}
use Rattle.std.specs.Prelude.{◌⊎◌, ◌&&◌, Option, Contains, if◌then◌else◌}
use Rattle.std.specs.Cmp.Lexicographic.{bytes_decides}
use Rattle.std.specs.List.{list_all, All}
use Rattle.std.proofs.lemmas.Bool.{and_parts}
use Rattle.std.proofs.lemmas.List.{append_cancel_left}
use Rattle.std.proofs.lemmas.List.Elements.{All-contains, All-cons, All-nil}
use Rattle.std.proofs.lemmas.List.Sums.{AllPass-from_list_all}
use Rattle.sieve_exec.specs.Parts.{Cuts, local_of, domain_of}
use Rattle.sieve_exec.proofs.PartLemmas.{cuts_of}
use Rattle.maildir_homes.specs.Homes.{HomesDiffer, IsOneDomain, TellApart, is_of_domain, front_path, has_home, has_no_mark, is_directory_name, part_fits, home_part_text, parts_path}
use Rattle.maildir_homes.specs.declared.homes.MailHomes.{MailHomes}
use Rattle.maildir_homes.specs.declared.homes.HomePart.{HomePart}
use Rattle.maildir_homes.specs.declared.homes.HomePart.TheVariants.{Named, User, Local, Domain}

-- ---- where a part ends

-- at the end, or at the next part
abbrev Ends : List ℕ → Type 0
Ends rest = (rest ≡ []) ⊎ ((more : List ℕ) × (rest ≡ 47 ∷ more))

path_ends : (parts : List HomePart) (user : List ℕ) → Ends (parts_path parts user)
path_ends [] user = inl refl
path_ends (part ∷ rest) user = inr (home_part_text part user ++ parts_path rest user, refl)

no_mark_first : (octet : ℕ) (rest : List ℕ) → has_no_mark (octet ∷ rest) ≡ true → octet ≡ 47 → ⊥
no_mark_first octet rest free is = let at : has_no_mark (47 ∷ rest) ≡ true = subst (λ (o : ℕ). has_no_mark (o ∷ rest) ≡ true) is free in let no : false ≡ true = at in cc

-- what ends there begins with no octet of a name
no_name_there : (octet : ℕ) (name rest : List ℕ) (more : List ℕ) → has_no_mark (octet ∷ name) ≡ true → Ends rest → rest ≡ octet ∷ more → ⊥
no_name_there octet name rest more free (inl none) is = let no : [] ≡ octet ∷ more = sym none ∙ is in cc
no_name_there octet name rest more free (inr next) is =
    let same : 47 ∷ next.0 ≡ octet ∷ more = sym next.1 ∙ is in let first : octet ≡ 47 = cc in no_mark_first octet name free first

-- two names with what ends them are the same only if both are
names_same : (one other r s : List ℕ) → has_no_mark one ≡ true → has_no_mark other ≡ true → Ends r → Ends s → one ++ r ≡ other ++ s → (one ≡ other) × (r ≡ s)
names_same [] [] r s free clear ends stops same = (refl, same)
names_same [] (y ∷ other) r s free clear ends stops same = absurd (no_name_there y other r (other ++ s) clear ends same)
names_same (x ∷ one) [] r s free clear ends stops same = absurd (no_name_there x one s (one ++ r) free stops (sym same))
names_same (x ∷ one) (y ∷ other) r s free clear ends stops same =
    let first : x ≡ y = cc in
    let rest : one ++ r ≡ other ++ s = cc in
    let more = names_same one other r s (and_parts _ _ free).1 (and_parts _ _ clear).1 ends stops rest in
    (ap (λ o. o ∷ one) first ∙ ap (λ l. y ∷ l) more.0, more.1)

-- ---- parts

no_mark_in : (name : List ℕ) → is_directory_name name ≡ true → has_no_mark name ≡ true
no_mark_in [] is = absurd (let no : ⊥ = cc in no)
no_mark_in (first ∷ rest) is = (and_parts _ _ is).1

part_same : (part : HomePart) (one other r s : List ℕ) → part_fits part one ≡ true → part_fits part other ≡ true → Ends r → Ends s
    → home_part_text part one ++ r ≡ home_part_text part other ++ s → (home_part_text part one ≡ home_part_text part other) × (r ≡ s)
part_same (Named name) one other r s fits suits ends stops same = (refl, append_cancel_left name r s same)
part_same User one other r s fits suits ends stops same = names_same one other r s (no_mark_in one fits) (no_mark_in other suits) ends stops same
part_same Local one other r s fits suits ends stops same = names_same (local_of one) (local_of other) r s (no_mark_in (local_of one) fits) (no_mark_in (local_of other) suits) ends stops same
part_same Domain one other r s fits suits ends stops same = names_same (domain_of one) (domain_of other) r s (no_mark_in (domain_of one) fits) (no_mark_in (domain_of other) suits) ends stops same

abbrev AreSame : List ℕ → List ℕ → HomePart → Type 0
AreSame one other part = home_part_text part one ≡ home_part_text part other

parts_same : (parts : List HomePart) (one other : List ℕ) → list_all (λ part. part_fits part one) parts ≡ true → list_all (λ part. part_fits part other) parts ≡ true
    → parts_path parts one ≡ parts_path parts other → All (AreSame one other) parts
parts_same [] one other fits suits same = All-nil (AreSame one other)
parts_same (part ∷ rest) one other fits suits same =
    let f = and_parts _ _ fits in
    let g = and_parts _ _ suits in
    let behind : home_part_text part one ++ parts_path rest one ≡ home_part_text part other ++ parts_path rest other = append_cancel_left (47 ∷ []) _ _ same in
    let step = part_same part one other (parts_path rest one) (parts_path rest other) f.0 g.0 (path_ends rest one) (path_ends rest other) behind in
    All-cons (AreSame one other) part rest step.0 (parts_same rest one other f.1 g.1 step.1)

-- ---- users

fits_in : (parts : List HomePart) (part : HomePart) (user : List ℕ) → list_all (λ p. part_fits p user) parts ≡ true → Contains parts part → part_fits part user ≡ true
fits_in parts part user all there = All-contains (λ p. part_fits p user ≡ true) parts part (AllPass-from_list_all (λ p. part_fits p user) parts all) there

-- a name with a domain is both halves of it
halves : (user : List ℕ) → part_fits Domain user ≡ true → user ≡ local_of user ++ 64 ∷ domain_of user
halves user fits = by (cuts_of user)
  where
    by : Cuts user (local_of user) (domain_of user) → user ≡ local_of user ++ 64 ∷ domain_of user
    by (inl at) = at.cut
    by (inr alone) = absurd (let none : is_directory_name [] ≡ true = subst (λ (d : List ℕ). is_directory_name d ≡ true) alone.none fits in let no : false ≡ true = none in cc)

-- and so is one of a domain that isn't empty
halves_of : (user : List ℕ) → (domain_of user ≡ [] → ⊥) → user ≡ local_of user ++ 64 ∷ domain_of user
halves_of user some = by (cuts_of user)
  where
    by : Cuts user (local_of user) (domain_of user) → user ≡ local_of user ++ 64 ∷ domain_of user
    by (inl at) = at.cut
    by (inr alone) = absurd (some alone.none)

-- whoever has a Maildir is of the domain, if there is only one
of_domain : (domain user : List ℕ) → is_of_domain (Some domain) user ≡ true → domain_of user ≡ domain
of_domain domain user is = (bytes_decides (domain_of user) domain).0 is

both_halves : (one other : List ℕ) → one ≡ local_of one ++ 64 ∷ domain_of one → other ≡ local_of other ++ 64 ∷ domain_of other → local_of one ≡ local_of other → domain_of one ≡ domain_of other → one ≡ other
both_halves one other first second local domain = first ∙ ap (λ l. l ++ 64 ∷ domain_of one) local ∙ ap (λ d. local_of other ++ 64 ∷ d) domain ∙ sym second

same_domain : (o : Option (List ℕ)) (one other : List ℕ) → IsOneDomain o → is_of_domain o one ≡ true → is_of_domain o other ≡ true → local_of one ≡ local_of other → one ≡ other
same_domain None one other alone first second local = absurd alone
same_domain (Some domain) one other some first second local =
    let a = of_domain domain one first in
    let b = of_domain domain other second in
    both_halves one other (halves_of one (λ none. some (sym a ∙ none))) (halves_of other (λ none. some (sym b ∙ none))) local (a ∙ sym b)

told_apart : (homes : MailHomes) (one other : List ℕ) → TellApart homes → is_of_domain homes.domain one ≡ true → is_of_domain homes.domain other ≡ true
    → list_all (λ part. part_fits part one) homes.parts ≡ true → list_all (λ part. part_fits part other) homes.parts ≡ true → All (AreSame one other) homes.parts → one ≡ other
told_apart homes one other (inl user) first second fits suits same = All-contains (AreSame one other) homes.parts User same user
told_apart homes one other (inr (local, inl domain)) first second fits suits same =
    both_halves one other (halves one (fits_in homes.parts Domain one fits domain)) (halves other (fits_in homes.parts Domain other suits domain)) (All-contains (AreSame one other) homes.parts Local same local)
    (All-contains (AreSame one other) homes.parts Domain same domain)
told_apart homes one other (inr (local, inr alone)) first second fits suits same = same_domain homes.domain one other alone first second (All-contains (AreSame one other) homes.parts Local same local)

home_is : (has : Bool) (path found : List ℕ) → (if has then Some path else None) ≡ Some found → (has ≡ true) × (path ≡ found)
home_is true path found is = (refl, let it : path ≡ found = cc in it)
home_is false path found is = absurd (let no : ⊥ = cc in no)

pub homes_differ : HomesDiffer
homes_differ homes one other path apart first second =
    let a = home_is (is_of_domain homes.domain one && has_home homes.parts one) (front_path homes.dir homes.parts one) path first in
    let b = home_is (is_of_domain homes.domain other && has_home homes.parts other) (front_path homes.dir homes.parts other) path second in
    let here = and_parts (is_of_domain homes.domain one) (has_home homes.parts one) a.0 in
    let there = and_parts (is_of_domain homes.domain other) (has_home homes.parts other) b.0 in
    let fits = (and_parts _ _ here.1).1 in
    let suits = (and_parts _ _ there.1).1 in
    let same : parts_path homes.parts one ≡ parts_path homes.parts other = append_cancel_left homes.dir (parts_path homes.parts one) (parts_path homes.parts other) (a.1 ∙ sym b.1) in
    told_apart homes one other apart here.0 there.0 fits suits (parts_same homes.parts one other fits suits same)
