-- The pieces of a text are its only cut.
use Rattle.std.proofs.Common.{◌≡◌, ℕ, zero, suc, ◌+◌, ◌-◌, ◌≤◌, ◌==◌, ◌⊎◌, Bool, true, false, cond, List, [], ◌∷◌, ◌++◌, take, drop, length, Option, Some, None, refl, ap, sym, ◌∙◌, subst, inl, inr, arith, one-add, length-append}
use Rattle.std.proofs.lemmas.Bool.{eqb-true, cases_Bool, false≢true}
use Rattle.std.proofs.lemmas.List.{take_at, drop_at, take_all, drop_all, append-nil}
use Rattle.std.specs.List.{prefix_len}
use Rattle.octets.proofs.Lists.{fork}
use Rattle.octets.specs.Ascii.{is_blank}
use Rattle.mail_address.specs.declared.scanner.AddrPieceKind.{AddrPieceKind}
use Rattle.mail_address.specs.declared.scanner.AddrPieceKind.TheVariants as K
use Rattle.mail_address.specs.Pieces.{AddrPiece, piece_kind_of, is_atom_octet, is_atom_kind, is_stray, IsEnclosed, IsComment, IsClosed, IsSingle, AreAtoms, IsNoAtom, IsUnclosed, IsAddrPieceShape, Cut, inner_before, comment_before}
use Rattle.mail_address.specs.Reading.{front, front_of, closed, len_before, after_close, after_comment, pieces}
use Rattle.mail_address.proofs.Enclosed.{written-append, noted-append, after-again, after-is, comment-again, comment-is}
use Rattle.mail_address.proofs.Fronts.{pieces-next, pieces-nil}

-- the kinds that begin with one octet alone
abbrev is_opener : AddrPieceKind → Bool
is_opener K.Quoted = true
is_opener K.Comment = true
is_opener K.Literal = true
is_opener _ = false

neither : (test : Bool) (x y : AddrPieceKind) → is_opener x ≡ false → is_opener y ≡ false → is_opener (cond test x y) ≡ false
neither true x y first second = first
neither false x y first second = second

-- what the table has after its first three rows
abbrev later : ℕ → AddrPieceKind
later octet =
    cond (octet == 60) K.Less (cond (octet == 62) K.Greater (cond (octet == 64) K.At (cond (octet == 44) K.Comma (cond (octet == 58) K.Colon
    (cond (octet == 59) K.Semicolon (cond (octet == 46) K.Dot (cond (is_blank octet) K.Blank (cond (is_stray octet) K.Bad K.Atom))))))))

later-no_opener : (octet : ℕ) → is_opener (later octet) ≡ false
later-no_opener octet =
    neither (octet == 60) K.Less _ refl (neither (octet == 62) K.Greater _ refl (neither (octet == 64) K.At _ refl (neither (octet == 44) K.Comma _ refl (neither (octet == 58) K.Colon _ refl
    (neither (octet == 59) K.Semicolon _ refl (neither (octet == 46) K.Dot _ refl (neither (is_blank octet) K.Blank _ refl (neither (is_stray octet) K.Bad K.Atom refl refl))))))))

no_later : (octet : ℕ) (kind : AddrPieceKind) → is_opener kind ≡ true → later octet ≡ kind → ⊥
no_later octet kind opens is = false≢true (sym (later-no_opener octet) ∙ ap is_opener is ∙ opens)

pub quoted-octet : (octet : ℕ) → piece_kind_of octet ≡ K.Quoted → octet ≡ 34
quoted-octet octet is =
    elim (fork (octet == 34) K.Quoted (cond (octet == 40) K.Comment (cond (octet == 91) K.Literal (later octet))) K.Quoted is) [
      | inl p ↦ eqb-true octet 34 p.0
      | inr p ↦ elim (fork (octet == 40) K.Comment (cond (octet == 91) K.Literal (later octet)) K.Quoted p.1) [
        | inl q ↦ absurd (cc)
        | inr q ↦ elim (fork (octet == 91) K.Literal (later octet) K.Quoted q.1) [ inl r ↦ absurd (cc) | inr r ↦ absurd (no_later octet K.Quoted refl r.1) ]
      ]
    ]

pub comment-octet : (octet : ℕ) → piece_kind_of octet ≡ K.Comment → octet ≡ 40
comment-octet octet is =
    elim (fork (octet == 34) K.Quoted (cond (octet == 40) K.Comment (cond (octet == 91) K.Literal (later octet))) K.Comment is) [
      | inl p ↦ absurd (cc)
      | inr p ↦ elim (fork (octet == 40) K.Comment (cond (octet == 91) K.Literal (later octet)) K.Comment p.1) [
        | inl q ↦ eqb-true octet 40 q.0
        | inr q ↦ elim (fork (octet == 91) K.Literal (later octet) K.Comment q.1) [ inl r ↦ absurd (cc) | inr r ↦ absurd (no_later octet K.Comment refl r.1) ]
      ]
    ]

pub literal-octet : (octet : ℕ) → piece_kind_of octet ≡ K.Literal → octet ≡ 91
literal-octet octet is =
    elim (fork (octet == 34) K.Quoted (cond (octet == 40) K.Comment (cond (octet == 91) K.Literal (later octet))) K.Literal is) [
      | inl p ↦ absurd (cc)
      | inr p ↦ elim (fork (octet == 40) K.Comment (cond (octet == 91) K.Literal (later octet)) K.Literal p.1) [
        | inl q ↦ absurd (cc)
        | inr q ↦ elim (fork (octet == 91) K.Literal (later octet) K.Literal q.1) [ inl r ↦ eqb-true octet 91 r.0 | inr r ↦ absurd (no_later octet K.Literal refl r.1) ]
      ]
    ]

pub atom-kind : (kind : AddrPieceKind) → is_atom_kind kind ≡ true → kind ≡ K.Atom
atom-kind K.Atom is = refl
atom-kind _ is = absurd (cc)

-- a run of atom octets is as long as it can be
run-again : (run rest : List ℕ) → AreAtoms run → IsNoAtom rest → prefix_len is_atom_octet (run ++ rest) ≡ length run
run-again [] [] atoms ends = refl
run-again [] (octet ∷ rest) atoms ends = rw ends
run-again (octet ∷ run) rest atoms ends = rw atoms.0 (ap (λ n. 1 + n) (run-again run rest atoms.1 ends) ∙ one-add (length run))

run-atoms : (text : List ℕ) → AreAtoms (take (prefix_len is_atom_octet text) text) × IsNoAtom (drop (prefix_len is_atom_octet text) text)
run-atoms [] = (tt, tt)
run-atoms (octet ∷ more) = elim (cases_Bool (is_atom_octet octet)) [
  | inl yes' ↦ rw (yes', one-add (prefix_len is_atom_octet more)) ((yes', (run-atoms more).0), (run-atoms more).1)
  | inr no' ↦ rw no' (tt, no')
]

-- a piece that begins a text
pub record Begins (kind : AddrPieceKind) (text rest : List ℕ) : Type 0 where
  pub octet : ℕ
  pub others : List ℕ
  pub is : text ++ rest ≡ octet ∷ others
  pub front : front octet others ≡ (kind, length text)

-- a kind with a length
abbrev pair : AddrPieceKind → ℕ → AddrPieceKind × ℕ
pair kind n = (kind, n)

closed-again : (kind : AddrPieceKind) (others body rest : List ℕ) (found : Option (List ℕ)) → others ≡ body ++ rest → found ≡ Some rest → closed kind others (len_before others found) ≡ (kind, suc (length body))
closed-again kind others body rest found is seen =
    let long : 1 + (length others - length rest) ≡ suc (length body) = omega (arith, ap length is, length-append body rest) in
    rw seen (ap (pair kind) long)

quoted-begins : (text rest : List ℕ) → IsEnclosed 34 34 text → Begins K.Quoted text rest
quoted-begins text rest e =
    let body = inner_before e.inside (34 ∷ []) in
    record {
      octet = 34;
      others = body ++ rest;
      is = ap (λ s. s ++ rest) e.spelled;
      front = closed-again K.Quoted (body ++ rest) body rest (after_close 34 false (body ++ rest)) refl (ap (after_close 34 false) (written-append e.inside (34 ∷ []) rest) ∙ after-again 34 e.inside rest refl e.plain) ∙ ap (λ s. pair K.Quoted (length s)) (sym e.spelled);
    }

literal-begins : (text rest : List ℕ) → IsEnclosed 91 93 text → Begins K.Literal text rest
literal-begins text rest e =
    let body = inner_before e.inside (93 ∷ []) in
    record {
      octet = 91;
      others = body ++ rest;
      is = ap (λ s. s ++ rest) e.spelled;
      front = closed-again K.Literal (body ++ rest) body rest (after_close 93 false (body ++ rest)) refl (ap (after_close 93 false) (written-append e.inside (93 ∷ []) rest) ∙ after-again 93 e.inside rest refl e.plain) ∙ ap (λ s. pair K.Literal (length s)) (sym e.spelled);
    }

comment-begins : (text rest : List ℕ) → IsComment text → Begins K.Comment text rest
comment-begins text rest e =
    let body = comment_before e.notes (41 ∷ []) in
    record {
      octet = 40;
      others = body ++ rest;
      is = ap (λ s. s ++ rest) e.spelled;
      front = closed-again K.Comment (body ++ rest) body rest (after_comment 0 false (body ++ rest)) refl (ap (after_comment 0 false) (noted-append e.notes (41 ∷ []) rest) ∙ comment-again e.notes rest e.plain) ∙ ap (λ s. pair K.Comment (length s)) (sym e.spelled);
    }

single-begins : (kind : AddrPieceKind) (text rest : List ℕ) → ((others : List ℕ) → front_of kind others ≡ pair kind 1) → IsSingle kind text → Begins kind text rest
single-begins kind text rest one s = record {
  octet = s.octet;
  others = rest;
  is = ap (λ t. t ++ rest) s.alone;
  front = ap (λ k. front_of k rest) s.begins ∙ one rest ∙ ap (λ t. pair kind (length t)) (sym s.alone);
}

atom-begins : (text rest : List ℕ) → (text ≡ [] → ⊥) → AreAtoms text → IsNoAtom rest → Begins K.Atom text rest
atom-begins [] rest some atoms ends = absurd (some refl)
atom-begins (octet ∷ run) rest some atoms ends = record {
  octet = octet;
  others = run ++ rest;
  is = refl;
  front = ap (λ k. front_of k (run ++ rest)) (atom-kind (piece_kind_of octet) atoms.0) ∙ ap (λ n. pair K.Atom (1 + n)) (run-again run rest atoms.1 ends) ∙ ap (pair K.Atom) (one-add (length run));
}

none-of : (found : Option (List ℕ)) → ((rest : List ℕ) → found ≡ Some rest → ⊥) → found ≡ None
none-of None never = refl
none-of (Some rest) never = absurd (never rest refl)

-- no end was found where no front is closed
quoted-none : (octet : ℕ) (more : List ℕ) → piece_kind_of octet ≡ K.Quoted → ((front back : List ℕ) → octet ∷ more ≡ front ++ back → IsClosed (piece_kind_of octet) front → ⊥) → after_close 34 false more ≡ None
quoted-none octet more kind never = none-of (after_close 34 false more) (λ rest found.
    let e = after-is 34 more rest found in
    never (34 ∷ inner_before e.inside (34 ∷ [])) rest (ap (λ b. b ∷ more) (quoted-octet octet kind) ∙ ap (λ s. 34 ∷ s) (e.is ∙ sym (written-append e.inside (34 ∷ []) rest)))
    (subst (λ k. IsClosed k (34 ∷ inner_before e.inside (34 ∷ []))) (sym kind) (record { inside = e.inside; plain = e.plain; spelled = refl })))

literal-none : (octet : ℕ) (more : List ℕ) → piece_kind_of octet ≡ K.Literal → ((front back : List ℕ) → octet ∷ more ≡ front ++ back → IsClosed (piece_kind_of octet) front → ⊥) → after_close 93 false more ≡ None
literal-none octet more kind never = none-of (after_close 93 false more) (λ rest found.
    let e = after-is 93 more rest found in
    never (91 ∷ inner_before e.inside (93 ∷ [])) rest (ap (λ b. b ∷ more) (literal-octet octet kind) ∙ ap (λ s. 91 ∷ s) (e.is ∙ sym (written-append e.inside (93 ∷ []) rest)))
    (subst (λ k. IsClosed k (91 ∷ inner_before e.inside (93 ∷ []))) (sym kind) (record { inside = e.inside; plain = e.plain; spelled = refl })))

comment-none : (octet : ℕ) (more : List ℕ) → piece_kind_of octet ≡ K.Comment → ((front back : List ℕ) → octet ∷ more ≡ front ++ back → IsClosed (piece_kind_of octet) front → ⊥) → after_comment 0 false more ≡ None
comment-none octet more kind never = none-of (after_comment 0 false more) (λ rest found.
    let e = comment-is more rest found in
    never (40 ∷ comment_before e.notes (41 ∷ [])) rest (ap (λ b. b ∷ more) (comment-octet octet kind) ∙ ap (λ s. 40 ∷ s) (e.is ∙ sym (noted-append e.notes (41 ∷ []) rest)))
    (subst (λ k. IsClosed k (40 ∷ comment_before e.notes (41 ∷ []))) (sym kind) (record { notes = e.notes; plain = e.plain; spelled = refl })))

unclosed-begins : (text rest : List ℕ) → IsUnclosed text → rest ≡ [] → Begins K.Bad text rest
unclosed-begins text rest u last =
    let never : (front back : List ℕ) → u.octet ∷ u.more ≡ front ++ back → IsClosed (piece_kind_of u.octet) front → ⊥ = λ front back is. u.never front back (u.begins ∙ is) in
    let long : (1 + length u.more) ≡ length text = one-add (length u.more) ∙ sym (ap length u.begins) in
    record {
      octet = u.octet;
      others = u.more;
      is = ap (λ s. text ++ s) last ∙ append-nil text ∙ u.begins;
      front = elim u.opens [
        | inl kind ↦ ap (λ k. front_of k u.more) kind ∙ ap (λ o. closed K.Quoted u.more (len_before u.more o)) (quoted-none u.octet u.more kind never) ∙ ap (pair K.Bad) long
        | inr others ↦ elim others [
          | inl kind ↦ ap (λ k. front_of k u.more) kind ∙ ap (λ o. closed K.Literal u.more (len_before u.more o)) (literal-none u.octet u.more kind never) ∙ ap (pair K.Bad) long
          | inr kind ↦ ap (λ k. front_of k u.more) kind ∙ ap (λ o. closed K.Comment u.more (len_before u.more o)) (comment-none u.octet u.more kind never) ∙ ap (pair K.Bad) long
        ]
      ];
    }

-- a piece of any kind is cut off as it is
front-again : (kind : AddrPieceKind) (text rest : List ℕ) → IsAddrPieceShape kind text rest → Begins kind text rest
front-again K.Atom text rest shape = atom-begins text rest shape.0 shape.1.0 shape.1.1
front-again K.Quoted text rest shape = quoted-begins text rest shape
front-again K.Literal text rest shape = literal-begins text rest shape
front-again K.Comment text rest shape = comment-begins text rest shape
front-again K.Bad text rest shape = elim shape [ inl s ↦ single-begins K.Bad text rest (λ others. refl) s | inr u ↦ unclosed-begins text rest u.0 u.1 ]
front-again K.Blank text rest shape = single-begins K.Blank text rest (λ others. refl) shape
front-again K.Less text rest shape = single-begins K.Less text rest (λ others. refl) shape
front-again K.Greater text rest shape = single-begins K.Greater text rest (λ others. refl) shape
front-again K.At text rest shape = single-begins K.At text rest (λ others. refl) shape
front-again K.Comma text rest shape = single-begins K.Comma text rest (λ others. refl) shape
front-again K.Colon text rest shape = single-begins K.Colon text rest (λ others. refl) shape
front-again K.Semicolon text rest shape = single-begins K.Semicolon text rest (λ others. refl) shape
front-again K.Dot text rest shape = single-begins K.Dot text rest (λ others. refl) shape

-- the shape of what is cut off
abbrev Shaped : AddrPieceKind × ℕ → List ℕ → Type 0
Shaped found text = IsAddrPieceShape found.0 (take found.1 text) (drop found.1 text)

cut-off : (octet : ℕ) (others body rest : List ℕ) → others ≡ body ++ rest → take (1 + (length others - length rest)) (octet ∷ others) ≡ octet ∷ body
cut-off octet others body rest is =
    let long : 1 + (length others - length rest) ≡ suc (length body) = omega (arith, ap length is, length-append body rest) in
    ap (λ n. take n (octet ∷ others)) long ∙ ap (λ s. octet ∷ take (length body) s) is ∙ ap (λ s. octet ∷ s) (take_at body rest (length body) refl)

bad-shape : (octet : ℕ) (others : List ℕ) → (piece_kind_of octet ≡ K.Quoted) ⊎ ((piece_kind_of octet ≡ K.Literal) ⊎ (piece_kind_of octet ≡ K.Comment)) → ((front back : List ℕ) → octet ∷ others ≡ front ++ back → IsClosed (piece_kind_of octet) front → ⊥) → Shaped (pair K.Bad (1 + length others)) (octet ∷ others)
bad-shape octet others opens never =
    let whole : take (1 + length others) (octet ∷ others) ≡ octet ∷ others = take_all (1 + length others) (octet ∷ others) (omega arith) in
    inr (record { octet = octet; more = others; begins = whole; opens = opens; never = λ front back is. never front back (sym whole ∙ is) }, drop_all (1 + length others) (octet ∷ others) (omega arith))

enclosed-after : (opening' close octet : ℕ) (others front back : List ℕ) → (92 == close) ≡ false → octet ∷ others ≡ front ++ back → IsEnclosed opening' close front → after_close close false others ≡ Some back
enclosed-after opening' close octet others front back other is e =
    let all : octet ∷ others ≡ opening' ∷ inner_before e.inside (close ∷ back) = is ∙ ap (λ s. s ++ back) e.spelled ∙ ap (λ s. opening' ∷ s) (written-append e.inside (close ∷ []) back) in
    let tail : others ≡ inner_before e.inside (close ∷ back) = cc in
    ap (after_close close false) tail ∙ after-again close e.inside back other e.plain

comment-after : (octet : ℕ) (others front back : List ℕ) → octet ∷ others ≡ front ++ back → IsComment front → after_comment 0 false others ≡ Some back
comment-after octet others front back is e =
    let all : octet ∷ others ≡ 40 ∷ comment_before e.notes (41 ∷ back) = is ∙ ap (λ s. s ++ back) e.spelled ∙ ap (λ s. 40 ∷ s) (noted-append e.notes (41 ∷ []) back) in
    let tail : others ≡ comment_before e.notes (41 ∷ back) = cc in
    ap (after_comment 0 false) tail ∙ comment-again e.notes back e.plain

quoted-shape : (octet : ℕ) (others : List ℕ) (found : Option (List ℕ)) → after_close 34 false others ≡ found → piece_kind_of octet ≡ K.Quoted → Shaped (closed K.Quoted others (len_before others found)) (octet ∷ others)
quoted-shape octet others None none kind = bad-shape octet others (inl kind) (λ front back is e.
    let found = enclosed-after 34 34 octet others front back refl is (subst (λ k. IsClosed k front) kind e) in absurd (cc))
quoted-shape octet others (Some rest) found kind =
    let e = after-is 34 others rest found in
    record { inside = e.inside; plain = e.plain; spelled = cut-off octet others (inner_before e.inside (34 ∷ [])) rest (e.is ∙ sym (written-append e.inside (34 ∷ []) rest)) ∙ ap (λ b. b ∷ inner_before e.inside (34 ∷ [])) (quoted-octet octet kind) }

literal-shape : (octet : ℕ) (others : List ℕ) (found : Option (List ℕ)) → after_close 93 false others ≡ found → piece_kind_of octet ≡ K.Literal → Shaped (closed K.Literal others (len_before others found)) (octet ∷ others)
literal-shape octet others None none kind = bad-shape octet others (inr (inl kind)) (λ front back is e.
    let found = enclosed-after 91 93 octet others front back refl is (subst (λ k. IsClosed k front) kind e) in absurd (cc))
literal-shape octet others (Some rest) found kind =
    let e = after-is 93 others rest found in
    record { inside = e.inside; plain = e.plain; spelled = cut-off octet others (inner_before e.inside (93 ∷ [])) rest (e.is ∙ sym (written-append e.inside (93 ∷ []) rest)) ∙ ap (λ b. b ∷ inner_before e.inside (93 ∷ [])) (literal-octet octet kind) }

comment-shape : (octet : ℕ) (others : List ℕ) (found : Option (List ℕ)) → after_comment 0 false others ≡ found → piece_kind_of octet ≡ K.Comment → Shaped (closed K.Comment others (len_before others found)) (octet ∷ others)
comment-shape octet others None none kind = bad-shape octet others (inr (inr kind)) (λ front back is e.
    let found = comment-after octet others front back is (subst (λ k. IsClosed k front) kind e) in absurd (cc))
comment-shape octet others (Some rest) found kind =
    let e = comment-is others rest found in
    record { notes = e.notes; plain = e.plain; spelled = cut-off octet others (comment_before e.notes (41 ∷ [])) rest (e.is ∙ sym (noted-append e.notes (41 ∷ []) rest)) ∙ ap (λ b. b ∷ comment_before e.notes (41 ∷ [])) (comment-octet octet kind) }

atom-shape : (octet : ℕ) (others : List ℕ) → piece_kind_of octet ≡ K.Atom → Shaped (pair K.Atom (1 + prefix_len is_atom_octet others)) (octet ∷ others)
atom-shape octet others kind =
    let P : ℕ → Type 0 = λ n. IsAddrPieceShape K.Atom (take n (octet ∷ others)) (drop n (octet ∷ others)) in
    let run = run-atoms others in
    subst P (sym (one-add (prefix_len is_atom_octet others))) ((λ none. absurd (cc)), ((ap is_atom_kind kind, run.0), run.1))

front-shape : (octet : ℕ) (others : List ℕ) (kind : AddrPieceKind) → piece_kind_of octet ≡ kind → Shaped (front_of kind others) (octet ∷ others)
front-shape octet others K.Atom is = atom-shape octet others is
front-shape octet others K.Quoted is = quoted-shape octet others (after_close 34 false others) refl is
front-shape octet others K.Literal is = literal-shape octet others (after_close 93 false others) refl is
front-shape octet others K.Comment is = comment-shape octet others (after_comment 0 false others) refl is
front-shape octet others K.Bad is = inl (record { octet = octet; alone = refl; begins = is })
front-shape octet others K.Blank is = record { octet = octet; alone = refl; begins = is }
front-shape octet others K.Less is = record { octet = octet; alone = refl; begins = is }
front-shape octet others K.Greater is = record { octet = octet; alone = refl; begins = is }
front-shape octet others K.At is = record { octet = octet; alone = refl; begins = is }
front-shape octet others K.Comma is = record { octet = octet; alone = refl; begins = is }
front-shape octet others K.Colon is = record { octet = octet; alone = refl; begins = is }
front-shape octet others K.Semicolon is = record { octet = octet; alone = refl; begins = is }
front-shape octet others K.Dot is = record { octet = octet; alone = refl; begins = is }

-- the pieces of a text where a piece stands first
pieces-begin : (kind : AddrPieceKind) (text rest : List ℕ) → IsAddrPieceShape kind text rest → pieces (text ++ rest) ≡ (record { kind = kind; text = text }) ∷ pieces rest
pieces-begin kind text rest shape =
    let b = front-again kind text rest shape in
    let n = pieces-next b.octet b.others in
    let cut : take (front b.octet b.others).1 (b.octet ∷ b.others) ≡ text = ap (λ f. take f.1 (b.octet ∷ b.others)) b.front ∙ ap (take (length text)) (sym b.is) ∙ take_at text rest (length text) refl in
    let left : drop (front b.octet b.others).1 (b.octet ∷ b.others) ≡ rest = ap (λ f. drop f.1 (b.octet ∷ b.others)) b.front ∙ ap (drop (length text)) (sym b.is) ∙ drop_at text rest (length text) refl in
    let is_kind : (front b.octet b.others).0 ≡ kind = ap (λ f. f.0) b.front in
    ap pieces b.is ∙ n.pieces ∙ ap (λ r. (record { kind = (front b.octet b.others).0; text = take (front b.octet b.others).1 (b.octet ∷ b.others) }) ∷ pieces r) left
    ∙ ap (λ t. (record { kind = (front b.octet b.others).0; text = t }) ∷ pieces rest) cut
    ∙ ap (λ k. (record { kind = k; text = text }) ∷ pieces rest) is_kind

-- every cut is the one that the reading finds
pub cut-only : (value : List ℕ) (cut : List AddrPiece) → Cut value cut → pieces value ≡ cut
cut-only value [] none = pieces-nil value (ap length none)
cut-only value (piece ∷ more) (rest, (is, (shape, others))) = ap pieces is ∙ pieces-begin piece.kind piece.text rest shape ∙ ap (λ ps. piece ∷ ps) (cut-only rest more others)

cut-within : (n : ℕ) (value : List ℕ) → length value ≤ n → Cut value (pieces value)
cut-within n [] short = subst (λ ps. Cut [] ps) (sym (pieces-nil [] refl)) refl
cut-within zero (octet ∷ others) short = absurd (omega arith)
cut-within (suc n) (octet ∷ others) short =
    let f = front octet others in
    let next = pieces-next octet others in
    let rest = drop f.1 (octet ∷ others) in
    subst (λ ps. Cut (octet ∷ others) ps) (sym next.pieces) (rest, (next.cut, (front-shape octet others (piece_kind_of octet) refl, cut-within n rest (omega (arith, next.shorter)))))

-- and it is a cut
pub cut-all : (value : List ℕ) → Cut value (pieces value)
cut-all value = cut-within (length value) value (omega arith)
