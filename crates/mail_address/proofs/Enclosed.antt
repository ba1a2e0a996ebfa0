-- What is closed: quoted strings, literals and comments, and the scans for their ends.
use Rattle.std.proofs.Common.{◌≡◌, ℕ, zero, suc, ◌==◌, true, false, List, [], ◌∷◌, ◌++◌, length, Some, refl, ap, ◌∙◌, inl, inr, eq-eqb, arith}
use Rattle.std.proofs.lemmas.Bool.{eqb-true}
use Rattle.octets.proofs.Lists.{fork, some_is}
use Rattle.mail_address.specs.Pieces.{Inner, Plain, Pair, inner_before, IsInside, CommentContent, End, Note, Nested, comment_before, IsCommentContent}
use Rattle.mail_address.specs.Reading.{after_close, after_comment}
use Rattle.mail_address.proofs.Scanning.{at_backslash, at_opening, at_other}

-- what follows may be written apart
pub written-append : (inside : List Inner) (end rest : List ℕ) → inner_before inside end ++ rest ≡ inner_before inside (end ++ rest)
written-append [] end rest = refl
written-append (Plain octet ∷ more) end rest = ap (λ s. octet ∷ s) (written-append more end rest)
written-append (Pair octet ∷ more) end rest = ap (λ s. 92 ∷ (octet ∷ s)) (written-append more end rest)

pub noted-append : (notes : CommentContent) (end rest : List ℕ) → comment_before notes end ++ rest ≡ comment_before notes (end ++ rest)
noted-append End end rest = refl
noted-append (Note (Plain octet) more) end rest = ap (λ s. octet ∷ s) (noted-append more end rest)
noted-append (Note (Pair octet) more) end rest = ap (λ s. 92 ∷ (octet ∷ s)) (noted-append more end rest)
noted-append (Nested inner more) end rest = ap (λ s. 40 ∷ s) (noted-append inner (41 ∷ comment_before more end) rest ∙ ap (λ s. comment_before inner (41 ∷ s)) (noted-append more end rest))

-- what is written so is scanned to its end
pub after-again : (close : ℕ) (inside : List Inner) (rest : List ℕ) → (92 == close) ≡ false → IsInside close inside → after_close close false (inner_before inside (close ∷ rest)) ≡ Some rest
after-again close [] rest other plain = let same : (close == close) ≡ true = eq-eqb close close refl in rw same
after-again close (Plain octet ∷ more) rest other plain = rw (plain.0, plain.1.0) (after-again close more rest other plain.1.1)
after-again close (Pair octet ∷ more) rest other plain = rw other (after-again close more rest other plain)

-- octets and pairs up to the closing octet, and what follows
pub record IsScanned (close : ℕ) (text rest : List ℕ) : Type 0 where
  pub inside : List Inner
  pub plain : IsInside close inside
  pub is : text ≡ inner_before inside (close ∷ rest)

scanned-plain : (close octet : ℕ) (more rest : List ℕ) → (octet == close) ≡ false → (octet == 92) ≡ false → IsScanned close more rest → IsScanned close (octet ∷ more) rest
scanned-plain close octet more rest within other scanned = record { inside = Plain octet ∷ scanned.inside; plain = (within, (other, scanned.plain)); is = ap (λ s. octet ∷ s) scanned.is }

scanned-pair : (close slash octet : ℕ) (more rest : List ℕ) → (slash == 92) ≡ true → IsScanned close more rest → IsScanned close (slash ∷ (octet ∷ more)) rest
scanned-pair close slash octet more rest is scanned = record { inside = Pair octet ∷ scanned.inside; plain = scanned.plain; is = ap (λ b. b ∷ (octet ∷ more)) (eqb-true slash 92 is) ∙ ap (λ s. 92 ∷ (octet ∷ s)) scanned.is }

scanned-end : (close octet : ℕ) (more rest : List ℕ) → (octet == close) ≡ true → Some more ≡ Some rest → IsScanned close (octet ∷ more) rest
scanned-end close octet more rest is left = record { inside = []; plain = tt; is = ap (λ b. b ∷ more) (eqb-true octet close is) ∙ ap (λ s. close ∷ s) (some_is more rest left) }

-- what is scanned to an end is written so
pub after-is : (close : ℕ) (text rest : List ℕ) → after_close close false text ≡ Some rest → IsScanned close text rest
after-is close [] rest found = absurd (cc)
after-is close (octet ∷ []) rest found =
    elim (fork (octet == close) _ _ _ found) [
      | inl p ↦ scanned-end close octet [] rest p.0 p.1
      | inr p ↦ elim (fork (octet == 92) _ _ _ p.1) [ inl q ↦ absurd (cc) | inr q ↦ absurd (cc) ]
    ]
after-is close (octet ∷ (next ∷ more)) rest found =
    elim (fork (octet == close) _ _ _ found) [
      | inl p ↦ scanned-end close octet (next ∷ more) rest p.0 p.1
      | inr p ↦ elim (fork (octet == 92) _ _ _ p.1) [
        | inl q ↦ scanned-pair close octet next more rest q.0 (after-is close more rest q.1)
        | inr q ↦ scanned-plain close octet (next ∷ more) rest p.0 q.0 (after-is close (next ∷ more) rest q.1)
      ]
    ]

-- the inside of a comment is passed over
pub noted-passed : (depth : ℕ) (notes : CommentContent) (rest : List ℕ) → IsCommentContent notes → after_comment depth false (comment_before notes rest) ≡ after_comment depth false rest
noted-passed depth End rest plain = refl
noted-passed depth (Note (Plain octet) more) rest plain = at_other depth octet (comment_before more rest) plain.0 plain.1.0 plain.1.1.0 ∙ noted-passed depth more rest plain.1.1.1
noted-passed depth (Note (Pair octet) more) rest plain = at_backslash depth 92 (octet ∷ comment_before more rest) refl ∙ noted-passed depth more rest plain
noted-passed depth (Nested inner more) rest plain = at_opening depth 40 (comment_before inner (41 ∷ comment_before more rest)) refl refl ∙ noted-passed (suc depth) inner (41 ∷ comment_before more rest) plain.0 ∙ noted-passed depth more rest plain.1

-- a comment is scanned to its end
pub comment-again : (notes : CommentContent) (rest : List ℕ) → IsCommentContent notes → after_comment 0 false (comment_before notes (41 ∷ rest)) ≡ Some rest
comment-again notes rest plain = noted-passed 0 notes (41 ∷ rest) plain

-- the ends of the comments that are open
abbrev closed_by : List CommentContent → List ℕ → List ℕ
closed_by [] rest = rest
closed_by (outer ∷ more) rest = comment_before outer (41 ∷ closed_by more rest)

abbrev All-notes : List CommentContent → Type 0
All-notes [] = Unit {0}
All-notes (outer ∷ more) = IsCommentContent outer × All-notes more

record IsUnwound (depth : ℕ) (text rest : List ℕ) : Type 0 where
  notes : CommentContent
  outer : List CommentContent
  deep : length outer ≡ depth
  plain : IsCommentContent notes
  others : All-notes outer
  is : text ≡ comment_before notes (41 ∷ closed_by outer rest)

unwound-plain : (depth octet : ℕ) (more rest : List ℕ) → (octet == 92) ≡ false → (octet == 40) ≡ false → (octet == 41) ≡ false → IsUnwound depth more rest → IsUnwound depth (octet ∷ more) rest
unwound-plain depth octet more rest a b d u = record { notes = Note (Plain octet) u.notes; outer = u.outer; deep = u.deep; plain = (a, (b, (d, u.plain))); others = u.others; is = ap (λ s. octet ∷ s) u.is }

unwound-pair : (depth slash octet : ℕ) (more rest : List ℕ) → (slash == 92) ≡ true → IsUnwound depth more rest → IsUnwound depth (slash ∷ (octet ∷ more)) rest
unwound-pair depth slash octet more rest is u = record { notes = Note (Pair octet) u.notes; outer = u.outer; deep = u.deep; plain = u.plain; others = u.others; is = ap (λ b. b ∷ (octet ∷ more)) (eqb-true slash 92 is) ∙ ap (λ s. 92 ∷ (octet ∷ s)) u.is }

nest : (depth octet : ℕ) (more rest : List ℕ) → (octet == 40) ≡ true → (notes : CommentContent) (outer : List CommentContent) → length outer ≡ suc depth → IsCommentContent notes → All-notes outer → more ≡ comment_before notes (41 ∷ closed_by outer rest) → IsUnwound depth (octet ∷ more) rest
nest depth octet more rest is notes [] deep plain others same = absurd (omega arith)
nest depth octet more rest is notes (first ∷ outer) deep plain others same = record { notes = Nested notes first; outer = outer; deep = omega arith; plain = (plain, others.0); others = others.1; is = ap (λ b. b ∷ more) (eqb-true octet 40 is) ∙ ap (λ s. 40 ∷ s) same }

unwound-open : (depth octet : ℕ) (more rest : List ℕ) → (octet == 40) ≡ true → IsUnwound (suc depth) more rest → IsUnwound depth (octet ∷ more) rest
unwound-open depth octet more rest is u = nest depth octet more rest is u.notes u.outer u.deep u.plain u.others u.is

unwound-close : (depth octet : ℕ) (more rest : List ℕ) → (octet == 41) ≡ true → IsUnwound depth more rest → IsUnwound (suc depth) (octet ∷ more) rest
unwound-close depth octet more rest is u = record { notes = End; outer = u.notes ∷ u.outer; deep = ap suc u.deep; plain = tt; others = (u.plain, u.others); is = ap (λ b. b ∷ more) (eqb-true octet 41 is) ∙ ap (λ s. 41 ∷ s) u.is }

unwound-end : (octet : ℕ) (more rest : List ℕ) → (octet == 41) ≡ true → Some more ≡ Some rest → IsUnwound 0 (octet ∷ more) rest
unwound-end octet more rest is left = record { notes = End; outer = []; deep = refl; plain = tt; others = tt; is = ap (λ b. b ∷ more) (eqb-true octet 41 is) ∙ ap (λ s. 41 ∷ s) (some_is more rest left) }

unwound : (depth : ℕ) (text rest : List ℕ) → after_comment depth false text ≡ Some rest → IsUnwound depth text rest
unwound depth [] rest found = absurd (cc)
unwound zero (octet ∷ []) rest found =
    elim (fork (octet == 92) _ _ _ found) [
      | inl p ↦ absurd (cc)
      | inr p ↦ elim (fork (octet == 40) _ _ _ p.1) [ inl q ↦ absurd (cc) | inr q ↦ elim (fork (octet == 41) _ _ _ q.1) [ inl r ↦ unwound-end octet [] rest r.0 r.1 | inr r ↦ absurd (cc) ] ]
    ]
unwound zero (octet ∷ (next ∷ more)) rest found =
    elim (fork (octet == 92) _ _ _ found) [
      | inl p ↦ unwound-pair zero octet next more rest p.0 (unwound zero more rest p.1)
      | inr p ↦ elim (fork (octet == 40) _ _ _ p.1) [
        | inl q ↦ unwound-open zero octet (next ∷ more) rest q.0 (unwound 1 (next ∷ more) rest q.1)
        | inr q ↦ elim (fork (octet == 41) _ _ _ q.1) [
          | inl r ↦ unwound-end octet (next ∷ more) rest r.0 r.1
          | inr r ↦ unwound-plain zero octet (next ∷ more) rest p.0 q.0 r.0 (unwound zero (next ∷ more) rest r.1)
        ]
      ]
    ]
unwound (suc depth) (octet ∷ []) rest found =
    elim (fork (octet == 92) _ _ _ found) [
      | inl p ↦ absurd (cc)
      | inr p ↦ elim (fork (octet == 40) _ _ _ p.1) [ inl q ↦ absurd (cc) | inr q ↦ elim (fork (octet == 41) _ _ _ q.1) [ inl r ↦ absurd (cc) | inr r ↦ absurd (cc) ] ]
    ]
unwound (suc depth) (octet ∷ (next ∷ more)) rest found =
    elim (fork (octet == 92) _ _ _ found) [
      | inl p ↦ unwound-pair (suc depth) octet next more rest p.0 (unwound (suc depth) more rest p.1)
      | inr p ↦ elim (fork (octet == 40) _ _ _ p.1) [
        | inl q ↦ unwound-open (suc depth) octet (next ∷ more) rest q.0 (unwound (suc (suc depth)) (next ∷ more) rest q.1)
        | inr q ↦ elim (fork (octet == 41) _ _ _ q.1) [
          | inl r ↦ unwound-close depth octet (next ∷ more) rest r.0 (unwound depth (next ∷ more) rest r.1)
          | inr r ↦ unwound-plain (suc depth) octet (next ∷ more) rest p.0 q.0 r.0 (unwound (suc depth) (next ∷ more) rest r.1)
        ]
      ]
    ]

-- the inside of a comment up to its end, and what follows
pub record IsNoted (text rest : List ℕ) : Type 0 where
  pub notes : CommentContent
  pub plain : IsCommentContent notes
  pub is : text ≡ comment_before notes (41 ∷ rest)

noted-flat : (text rest : List ℕ) (notes : CommentContent) (outer : List CommentContent) → length outer ≡ 0 → IsCommentContent notes → text ≡ comment_before notes (41 ∷ closed_by outer rest) → IsNoted text rest
noted-flat text rest notes [] flat plain is = record { notes = notes; plain = plain; is = is }
noted-flat text rest notes (first ∷ outer) flat plain is = absurd (omega arith)

-- what is scanned to the end of a comment is written so
pub comment-is : (text rest : List ℕ) → after_comment 0 false text ≡ Some rest → IsNoted text rest
comment-is text rest found = let u = unwound 0 text rest found in noted-flat text rest u.notes u.outer u.deep u.plain u.is
