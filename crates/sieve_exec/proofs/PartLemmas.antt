-- An address of the envelope is cut in one way, and so is a local part.
use Rattle.std.proofs.Common.{◌≡◌, ◌<◌, ◌≤◌, ◌+◌, ℕ, suc, Bool, true, false, ◌||◌, ◌&&◌, not, cond, inl, inr, List, [], ◌∷◌, ◌++◌, length, take, drop, get_or, Option, Some, None, refl, sym, ap, ◌∙◌, subst, arith, add-one, length-drop}
use Rattle.std.specs.Prelude.{unwrap_or}
use Rattle.std.proofs.Math.Bool.{or-true}
use Rattle.std.proofs.Math.Seq.{drop-cons}
use Rattle.std.proofs.lemmas.Bool.{eqb-true, cond-true, cond-false, false_from_ne_true, or_parts}
use Rattle.std.proofs.lemmas.List.{get_or-drop, get_or-take, get_or_default, length-take-le, take-append-drop}
use Rattle.std.proofs.lemmas.List.Folds.{list_any_none}
use Rattle.mail_address.specs.declared.address.Addr.{Addr}
use Rattle.memchr.specs.Find.{Nowhere, NoneBefore, NoneAfter, Passes, is_byte}
use Rattle.std.specs.Bool.{Decides}
use Rattle.sieve_syntax.specs.declared.tree.checks.AddressPart.{AddressPart}
use Rattle.sieve_syntax.specs.declared.tree.checks.AddressPart.TheVariants.{All, LocalPart, Domain, User, Detail}
use Rattle.sieve_exec.specs.Extension.Subaddress.{is_plus, has_plus, CutsAtFirst, IsUser, IsDetail, user_of, detail_of}
use Rattle.sieve_exec.specs.Parts.{IsAddressPart, address_part_of, is_at, has_at, CutsAtLast, Cuts, local_of, domain_of}
use Rattle.sieve_exec.specs.Extension.Envelope.{IsEnvelopePart, envelope_part_of}
use Rattle.sieve_syntax.specs.declared.tree.checks.Collation.{Collation}
use Rattle.sieve_syntax.specs.declared.tree.checks.Matching.{Matching}
use Rattle.sieve_exec.specs.Matches.{MatchesSome, part_matches}
use Rattle.sieve_exec.proofs.Decisions.{decides_as}
use Rattle.sieve_exec.proofs.MatchLemmas.{matches_some_decides}

-- an octet other than the last `@`
goes_on : (at later : Bool) (text : List ℕ) → at ≡ false → cond (at && not later) [] text ≡ text
goes_on true later text other = absurd (let no : ⊥ = cc in no)
goes_on false later text other = refl

goes_further : (at later : Bool) (text : List ℕ) → later ≡ true → cond (at && not later) [] text ≡ text
goes_further true true text more = refl
goes_further true false text more = absurd (let no : ⊥ = cc in no)
goes_further false later text more = refl

-- a text without `@` is a local part
bare_local : (text : List ℕ) → has_at text ≡ false → local_of text ≡ text
bare_local [] bare = refl
bare_local (octet ∷ rest) bare =
    goes_on (is_at octet) (has_at rest) _ (or_parts _ _ bare).0 ∙ ap (λ l. octet ∷ l) (bare_local rest (or_parts _ _ bare).1)

-- and has no domain
bare_domain : (text : List ℕ) → has_at text ≡ false → domain_of text ≡ []
bare_domain [] bare = refl
bare_domain (octet ∷ rest) bare =
    cond-false (has_at rest) _ _ (or_parts _ _ bare).1 ∙ cond-false (is_at octet) rest [] (or_parts _ _ bare).0

has_at_after : (local domain : List ℕ) → has_at (local ++ 64 ∷ domain) ≡ true
has_at_after [] domain = refl
has_at_after (octet ∷ more) domain = ap (λ later. is_at octet || later) (has_at_after more domain) ∙ or-true (is_at octet)

-- what is put before and after the last `@` is cut there again
cut_local : (local domain : List ℕ) → has_at domain ≡ false → local_of (local ++ 64 ∷ domain) ≡ local
cut_local [] domain last = cond-true (not (has_at domain)) [] _ (ap not last)
cut_local (octet ∷ more) domain last =
    goes_further (is_at octet) _ _ (has_at_after more domain) ∙ ap (λ l. octet ∷ l) (cut_local more domain last)

cut_domain : (local domain : List ℕ) → has_at domain ≡ false → domain_of (local ++ 64 ∷ domain) ≡ domain
cut_domain [] domain last = cond-false (has_at domain) _ _ last
cut_domain (octet ∷ more) domain last = cond-true _ _ _ (has_at_after more domain) ∙ cut_domain more domain last

-- a text is cut in one way
pub cuts_only : (text local domain : List ℕ) → Cuts text local domain → (local ≡ local_of text) × (domain ≡ domain_of text)
cuts_only text local domain (inl at) =
    (sym (ap local_of at.cut ∙ cut_local local domain at.last), sym (ap domain_of at.cut ∙ cut_domain local domain at.last))
cuts_only text local domain (inr alone) =
    (alone.whole ∙ sym (bare_local text alone.bare), alone.none ∙ sym (bare_domain text alone.bare))

-- an octet that is the last `@`
the_at : (a b : Bool) → b ≡ false → (a || b) ≡ true → a ≡ true
the_at true b none some = refl
the_at false b none some = absurd (let no : ⊥ = cc in no)

-- a text with `@` has a last one
abbrev HasLast : List ℕ → Type 0
HasLast text = (local : List ℕ) × (domain : List ℕ) × CutsAtLast text local domain

last_at : (text : List ℕ) → has_at text ≡ true → HasLast text
last_at [] there = absurd (let no : ⊥ = cc in no)
last_at (octet ∷ rest) there = split (λ more. last_at rest more) (has_at rest) refl
  where
    split : (has_at rest ≡ true → HasLast rest) → (later : Bool) → has_at rest ≡ later → HasLast (octet ∷ rest)
    split further true more =
        let found = further more in
        (octet ∷ found.0, found.1, record { cut = ap (λ l. octet ∷ l) found.2.cut; last = found.2.last })
    split further false last =
        ([], rest, record { cut = ap (λ o. o ∷ rest) (eqb-true octet 64 (the_at (is_at octet) (has_at rest) last there)); last = last })

-- and is cut there
pub cuts_of : (text : List ℕ) → Cuts text (local_of text) (domain_of text)
cuts_of text = split (has_at text) refl
  where
    split : (at : Bool) → has_at text ≡ at → Cuts text (local_of text) (domain_of text)
    split true there =
        let found = last_at text there in
        let same = cuts_only text found.0 found.1 (inl found.2) in
        subst (λ (l : List ℕ). Cuts text l (domain_of text)) same.0 (subst (λ (d : List ℕ). Cuts text found.0 d) same.1 (inl found.2))
    split false bare = inr (record { whole = bare_local text bare; none = bare_domain text bare; bare = bare })

-- ---- user and detail of a local part

-- a text without `+` is a user
bare_user : (text : List ℕ) → has_plus text ≡ false → user_of text ≡ text
bare_user [] bare = refl
bare_user (octet ∷ rest) bare = cond-false (is_plus octet) [] _ (or_parts _ _ bare).0 ∙ ap (λ l. octet ∷ l) (bare_user rest (or_parts _ _ bare).1)

-- and has no detail
bare_detail : (text : List ℕ) → has_plus text ≡ false → detail_of text ≡ None
bare_detail [] bare = refl
bare_detail (octet ∷ rest) bare = cond-false (is_plus octet) (Some rest) _ (or_parts _ _ bare).0 ∙ bare_detail rest (or_parts _ _ bare).1

-- what is put before and after the first `+` is cut there again
cut_user : (user detail : List ℕ) → has_plus user ≡ false → user_of (user ++ 43 ∷ detail) ≡ user
cut_user [] detail first = refl
cut_user (octet ∷ more) detail first =
    cond-false (is_plus octet) [] _ (or_parts _ _ first).0 ∙ ap (λ l. octet ∷ l) (cut_user more detail (or_parts _ _ first).1)

cut_detail : (user detail : List ℕ) → has_plus user ≡ false → detail_of (user ++ 43 ∷ detail) ≡ Some detail
cut_detail [] detail first = refl
cut_detail (octet ∷ more) detail first = cond-false (is_plus octet) (Some _) _ (or_parts _ _ first).0 ∙ cut_detail more detail (or_parts _ _ first).1

-- a text with `+` has a first one
abbrev HasFirst : List ℕ → Type 0
HasFirst text = (user : List ℕ) × (detail : List ℕ) × CutsAtFirst text user detail

the_later : (a b : Bool) → a ≡ false → (a || b) ≡ true → b ≡ true
the_later true b none some = absurd (let no : ⊥ = cc in no)
the_later false b none some = some

first_plus : (text : List ℕ) → has_plus text ≡ true → HasFirst text
first_plus [] there = absurd (let no : ⊥ = cc in no)
first_plus (octet ∷ rest) there = split (λ more. first_plus rest more) (is_plus octet) refl
  where
    split : (has_plus rest ≡ true → HasFirst rest) → (plus : Bool) → is_plus octet ≡ plus → HasFirst (octet ∷ rest)
    split further true here = ([], rest, record { cut = ap (λ o. o ∷ rest) (eqb-true octet 43 here); first = refl })
    split further false other =
        let found = further (the_later (is_plus octet) (has_plus rest) other there) in
        (octet ∷ found.0, found.1, record { cut = ap (λ l. octet ∷ l) found.2.cut; first = λ i. other i || found.2.first i })

-- a local part has one user
pub user_is : (local : List ℕ) → IsUser local (user_of local)
user_is local = split (has_plus local) refl
  where
    split : (plus : Bool) → has_plus local ≡ plus → IsUser local (user_of local)
    split true there =
        let found = first_plus local there in
        let same : found.0 ≡ user_of local = sym (ap user_of found.2.cut ∙ cut_user found.0 found.1 found.2.first) in
        subst (IsUser local) same (inl (found.1, found.2))
    split false bare = inr (bare_user local bare, bare)

pub user_only : (local user : List ℕ) → IsUser local user → user ≡ user_of local
user_only local user (inl (detail, at)) = sym (ap user_of at.cut ∙ cut_user user detail at.first)
user_only local user (inr (same, bare)) = same ∙ sym (bare_user local bare)

-- what one that is there says of another
pub given : (P : List ℕ → Type 0) (one other : List ℕ) → Some one ≡ Some other → P one → P other
given P one other same so = subst P (ap (λ o. unwrap_or o one) same) so

-- and one detail at most
pub detail_is : (local detail : List ℕ) → detail_of local ≡ Some detail → IsDetail local detail
detail_is local detail there = split (has_plus local) refl
  where
    split : (plus : Bool) → has_plus local ≡ plus → IsDetail local detail
    split true plus =
        let found = first_plus local plus in
        let same : Some found.1 ≡ Some detail = sym (ap detail_of found.2.cut ∙ cut_detail found.0 found.1 found.2.first) ∙ there in
        given (IsDetail local) found.1 detail same (found.0, found.2)
    split false bare = let no : None ≡ Some detail = sym (bare_detail local bare) ∙ there in absurd (cc no)

pub detail_only : (local detail : List ℕ) → IsDetail local detail → detail_of local ≡ Some detail
detail_only local detail (user, at) = ap detail_of at.cut ∙ cut_detail user detail at.first

-- where no `+` was found before a place, there is none
none_before : (text : List ℕ) (k : ℕ) → k ≤ length text → Nowhere (Passes (is_byte 43) text) 0 k → has_plus (take k text) ≡ false
none_before text k inside nowhere = list_any_none is_plus (take k text) (λ j d below.
    let shorter : j < k = subst (λ n. j < n) (length-take-le k text inside) below in
    let same : get_or (take k text) j d ≡ get_or text j 0 = get_or-take k text j d shorter ∙ get_or_default text j d 0 (omega arith) in
    false_from_ne_true _ (λ passes. nowhere j (omega arith) shorter (ap is_plus (sym same) ∙ passes)))

-- the place that a search found
pub first_found : (text : List ℕ) (k : ℕ) → NoneBefore (Passes (is_byte 43) text) 0 (length text) k → is_byte 43 (get_or text k 0) ≡ true → CutsAtFirst text (take k text) (drop (k + 1) text)
first_found text k before here = record {
  cut = sym (take-append-drop k text) ∙ ap (λ l. take k text ++ l) (rw add-one (drop-cons text k 0 before.high ∙ ap (λ o. o ∷ drop (suc k) text) (eqb-true _ 43 here)));
  first = none_before text k (omega (arith, before.high)) before.before;
}

pub user_found : (text : List ℕ) (k : ℕ) → NoneBefore (Passes (is_byte 43) text) 0 (length text) k → is_byte 43 (get_or text k 0) ≡ true → take k text ≡ user_of text
user_found text k before here = user_only text (take k text) (inl (drop (k + 1) text, first_found text k before here))

pub detail_found : (text : List ℕ) (k : ℕ) → NoneBefore (Passes (is_byte 43) text) 0 (length text) k → is_byte 43 (get_or text k 0) ≡ true → detail_of text ≡ Some (drop (k + 1) text)
detail_found text k before here = detail_only text (drop (k + 1) text) (take k text, first_found text k before here)

-- and where it found none
no_plus : (text : List ℕ) → Nowhere (Passes (is_byte 43) text) 0 (length text) → has_plus text ≡ false
no_plus text nowhere = list_any_none is_plus text (λ j d below.
    false_from_ne_true _ (λ passes. nowhere j (omega arith) below (ap is_plus (sym (get_or_default text j d 0 below)) ∙ passes)))

pub user_whole : (text : List ℕ) → Nowhere (Passes (is_byte 43) text) 0 (length text) → text ≡ user_of text
user_whole text nowhere = sym (bare_user text (no_plus text nowhere))

pub detail_absent : (text : List ℕ) → Nowhere (Passes (is_byte 43) text) 0 (length text) → detail_of text ≡ None
detail_absent text nowhere = bare_detail text (no_plus text nowhere)

-- ---- parts

-- a part of an address of a field is the one that is found, if one is
pub part_of_is : (part : AddressPart) (address : Addr) (found : List ℕ) → address_part_of part address ≡ Some found → IsAddressPart part address found
part_of_is All address found there = given (IsAddressPart All address) _ found there refl
part_of_is LocalPart address found there = given (IsAddressPart LocalPart address) _ found there refl
part_of_is Domain address found there = given (IsAddressPart Domain address) _ found there refl
part_of_is User address found there = given (IsAddressPart User address) _ found there (user_is address.local)
part_of_is Detail address found there = detail_is address.local found there

pub part_of_only : (part : AddressPart) (address : Addr) (one : List ℕ) → IsAddressPart part address one → address_part_of part address ≡ Some one
part_of_only All address one same = ap Some (sym same)
part_of_only LocalPart address one same = ap Some (sym same)
part_of_only Domain address one same = ap Some (sym same)
part_of_only User address one is = ap Some (sym (user_only address.local one is))
part_of_only Detail address one is = detail_only address.local one is

-- and so is one of an address of the envelope
pub part_is : (part : AddressPart) (text found : List ℕ) → envelope_part_of part text ≡ Some found → IsEnvelopePart part text found
part_is All text found there = given (IsEnvelopePart All text) _ found there refl
part_is LocalPart text found there = given (IsEnvelopePart LocalPart text) _ found there (domain_of text, cuts_of text)
part_is Domain text found there = given (IsEnvelopePart Domain text) _ found there (local_of text, cuts_of text)
part_is User text found there = given (IsEnvelopePart User text) _ found there (local_of text, domain_of text, cuts_of text, user_is (local_of text))
part_is Detail [] found there = given (IsEnvelopePart Detail []) _ found there (inr (refl, refl))
part_is Detail (octet ∷ rest) found there =
    let text = octet ∷ rest in inl (local_of text, domain_of text, cuts_of text, detail_is (local_of text) found there)

pub part_only : (part : AddressPart) (text one : List ℕ) → IsEnvelopePart part text one → envelope_part_of part text ≡ Some one
part_only All text one same = ap Some (sym same)
part_only LocalPart text one (domain, cut) = ap Some (sym (cuts_only text one domain cut).0)
part_only Domain text one (local, cut) = ap Some (sym (cuts_only text local one cut).1)
part_only User text one (local, domain, cut, is) =
    ap Some (ap user_of (sym (cuts_only text local domain cut).0) ∙ sym (user_only local one is))
part_only Detail [] one (inr (null, same)) = ap Some (sym same)
part_only Detail (octet ∷ rest) one (inr (null, same)) = absurd (cc null)
part_only Detail [] one (inl (local, domain, cut, is)) =
    let none : None ≡ Some one = ap detail_of (sym (cuts_only [] local domain cut).0) ∙ detail_only local one is in absurd (cc none)
part_only Detail (octet ∷ rest) one (inl (local, domain, cut, is)) = ap detail_of (sym (cuts_only (octet ∷ rest) local domain cut).0) ∙ detail_only local one is

-- where no `@` was found from a place on, there is none
none_from : (text : List ℕ) (from : ℕ) → Nowhere (Passes (is_byte 64) text) from (length text) → has_at (drop from text) ≡ false
none_from text from nowhere = list_any_none is_at (drop from text) (λ k d below.
    let inside : from + k < length text = omega (arith, length-drop {A = ℕ}) in
    let same : get_or (drop from text) k d ≡ get_or text (from + k) 0 = get_or-drop from text k d ∙ get_or_default text (from + k) d 0 inside in
    false_from_ne_true _ (λ passes. nowhere (from + k) (omega arith) inside (ap is_at (sym same) ∙ passes)))

-- the place that a search from the end found
pub cuts_found : (text : List ℕ) (k : ℕ) → NoneAfter (Passes (is_byte 64) text) 0 (length text) k → is_byte 64 (get_or text k 0) ≡ true → Cuts text (take k text) (drop (k + 1) text)
cuts_found text k after here =
    inl (record {
      cut = sym (take-append-drop k text) ∙ ap (λ l. take k text ++ l) (rw add-one (drop-cons text k 0 after.high ∙ ap (λ o. o ∷ drop (suc k) text) (eqb-true _ 64 here)));
      last = none_from text (k + 1) after.after;
    })

-- and where it found none
pub cuts_nowhere : (text : List ℕ) → Nowhere (Passes (is_byte 64) text) 0 (length text) → Cuts text text []
cuts_nowhere text nowhere = inr (record { whole = refl; none = refl; bare = none_from text 0 nowhere })

-- ---- whether a part matches

-- a part matches: the one that is found, where those that are and it are one
module _ (collation : Collation) (matching : Matching) (keys : List (List ℕ)) (part : Option (List ℕ)) (Is : List ℕ → Type 0)
    (is : (found : List ℕ) → part ≡ Some found → Is found) (only : (one : List ℕ) → Is one → part ≡ Some one) where
  abbrev pub SomePart : Type 0
  SomePart = (one : List ℕ) × Is one × MatchesSome collation matching keys one

  pub part_decides : Decides (part_matches collation matching keys part) SomePart
  part_decides = split part refl
    where
      split : (o : Option (List ℕ)) → part ≡ o → Decides (part_matches collation matching keys part) SomePart
      split None none = subst (λ (o : Option (List ℕ)). Decides (part_matches collation matching keys o) SomePart) (sym none)
          (λ h. absurd (cc h), λ (one, there, h). let no : None ≡ Some one = sym none ∙ only one there in absurd (cc no))
      split (Some found) some = subst (λ (o : Option (List ℕ)). Decides (part_matches collation matching keys o) SomePart) (sym some)
          (decides_as _ (λ h. (found, is found some, h))
          (λ (one, there, h). given (MatchesSome collation matching keys) one found (sym (only one there) ∙ some) h)
          (matches_some_decides collation matching keys found))
