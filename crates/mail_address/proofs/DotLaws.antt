-- A text is read as atoms with dots between exactly where it is that.
use Rattle.std.proofs.Common.{◌≡◌, ℕ, Bool, true, false, cond, ◌==◌, ◌&&◌, not, List, [], ◌∷◌, ◌++◌, refl, sym, ap, ◌∙◌, subst, inl, inr}
use Rattle.std.proofs.lemmas.Bool.{eqb-true}
use Rattle.std.proofs.lemmas.List.{append-nil}
use Rattle.octets.proofs.Lists.{fork}
use Rattle.mail_address.specs.Pieces.{is_atom_octet, AreAtoms}
use Rattle.mail_address.specs.Spelling.{IsAtomText, AreDotted, IsDotAtom, is_dotted, is_dot_atom}

-- no dot stands in an atom
no_dot : (octet : ℕ) → is_atom_octet octet ≡ true → (octet == 46) ≡ false
no_dot octet atom = way (octet == 46) refl where
  way : (test : Bool) → (octet == 46) ≡ test → test ≡ false
  way true is = absurd (cc (sym atom ∙ ap is_atom_octet (eqb-true octet 46 is)))
  way false is = refl

both : (a b : Bool) → (a && b) ≡ true → (a ≡ true) × (b ≡ true)
both true b is = (refl, is)
both false b is = absurd (cc is)

-- an octet before the first atom
onto_first : (octet : ℕ) (atoms : List (List ℕ)) (text : List ℕ) → is_atom_octet octet ≡ true → AreDotted atoms text → IsDotAtom (octet ∷ text)
onto_first octet [] text atom dotted = absurd dotted
onto_first octet (first ∷ []) text atom (is, spelled) = record {
  atoms = (octet ∷ first) ∷ [];
  dotted = (record { present = λ none. absurd (cc none); octets = (atom, is.octets) }, ap (λ t. octet ∷ t) spelled);
}
onto_first octet (first ∷ (next ∷ more)) text atom (rest, (is, (spelled, dotted))) = record {
  atoms = (octet ∷ first) ∷ (next ∷ more);
  dotted = (rest, (record { present = λ none. absurd (cc none); octets = (atom, is.octets) }, (ap (λ t. octet ∷ t) spelled, dotted)));
}

-- an octet and a dot before atoms
before_dot : (octet : ℕ) (atoms : List (List ℕ)) (text : List ℕ) → is_atom_octet octet ≡ true → AreDotted atoms text → IsDotAtom (octet ∷ (46 ∷ text))
before_dot octet [] text atom dotted = absurd dotted
before_dot octet (first ∷ more) text atom dotted = record {
  atoms = (octet ∷ []) ∷ (first ∷ more);
  dotted = (text, (record { present = λ none. absurd (cc none); octets = (atom, tt) }, (refl, dotted)));
}

-- what is read is atoms with dots between
mutual
  -- after an octet of an atom
  after_octet : (octet : ℕ) (text : List ℕ) → is_atom_octet octet ≡ true → is_dotted false text ≡ true → IsDotAtom (octet ∷ text)
  after_octet octet [] atom read = record {
    atoms = (octet ∷ []) ∷ [];
    dotted = (record { present = λ none. absurd (cc none); octets = (atom, tt) }, refl);
  }
  after_octet octet (next ∷ more) atom read = elim (fork (next == 46) (not false && is_dotted true more) (is_atom_octet next && is_dotted false more) true read) [
    | inl dot ↦
        let rest = dotted_is more dot.1 in
        let found = before_dot octet rest.atoms more atom rest.dotted in
        subst (λ x. IsDotAtom (octet ∷ (x ∷ more))) (sym (eqb-true next 46 dot.0)) found
    | inr other ↦
        let parts = both (is_atom_octet next) (is_dotted false more) other.1 in
        let rest = after_octet next more parts.0 parts.1 in
        onto_first octet rest.atoms (next ∷ more) atom rest.dotted
  ]

  pub dotted_is : (text : List ℕ) → is_dot_atom text ≡ true → IsDotAtom text
  dotted_is [] read = absurd (cc read)
  dotted_is (octet ∷ more) read = elim (fork (octet == 46) (not true && is_dotted true more) (is_atom_octet octet && is_dotted false more) true read) [
    | inl dot ↦ let bad : false ≡ true = dot.1 in absurd cc
    | inr other ↦
        let parts = both (is_atom_octet octet) (is_dotted false more) other.1 in
        after_octet octet more parts.0 parts.1
  ]

-- the second of two
second : (test x y : Bool) → test ≡ false → cond test x y ≡ y
second true x y is = absurd (cc is)
second false x y is = refl

-- reading passes an octet of an atom
octet_passed : (due : Bool) (octet : ℕ) (rest : List ℕ) → is_atom_octet octet ≡ true → is_dotted due (octet ∷ rest) ≡ is_dotted false rest
octet_passed due octet rest is =
    second (octet == 46) (not due && is_dotted true rest) (is_atom_octet octet && is_dotted false rest) (no_dot octet is) ∙ ap (λ a. a && is_dotted false rest) is

-- and an atom
atom_passed : (due : Bool) (octet : ℕ) (atom rest : List ℕ) → AreAtoms (octet ∷ atom) → is_dotted due (octet ∷ (atom ++ rest)) ≡ is_dotted false rest
atom_passed due octet [] rest are = octet_passed due octet rest are.0
atom_passed due octet (next ∷ atom) rest are = octet_passed due octet (next ∷ (atom ++ rest)) are.0 ∙ atom_passed false next atom rest are.1

read_atom : (atom rest : List ℕ) → IsAtomText atom → is_dotted true (atom ++ rest) ≡ is_dotted false rest
read_atom [] rest is = absurd (is.present refl)
read_atom (octet ∷ atom) rest is = atom_passed true octet atom rest is.octets

-- and atoms with dots between are read
dotted_again : (atoms : List (List ℕ)) (text : List ℕ) → AreDotted atoms text → is_dot_atom text ≡ true
dotted_again [] text dotted = absurd dotted
dotted_again (atom ∷ []) text (is, spelled) = ap is_dot_atom (spelled ∙ sym (append-nil atom)) ∙ read_atom atom [] is
dotted_again (atom ∷ (next ∷ more)) text (rest, (is, (spelled, dotted))) =
    ap is_dot_atom spelled ∙ (read_atom atom (46 ∷ rest) is ∙ dotted_again (next ∷ more) rest dotted)

pub is_dotted_again : (text : List ℕ) → IsDotAtom text → is_dot_atom text ≡ true
is_dotted_again text is = dotted_again is.atoms text is.dotted
