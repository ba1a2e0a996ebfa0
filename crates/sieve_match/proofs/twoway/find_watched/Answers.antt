use Rattle.std.proofs.Common.{◌≡◌, ℕ, ◌+◌, ◌<◌, ◌≤◌, length, List, Option, Some, None, sym, ap, subst, ◌∙◌, arith}
use Rattle.memchr.specs.Find.{Nowhere, IsFirst}
use Rattle.memchr.proofs.lemmas.FindLemmas.{Nowhere-then}
use Rattle.sieve_match.specs.Search.{image_in, HasImage, StandsAt}
use Rattle.sieve_match.proofs.twoway.find_watched.Goals as goal

-- the first place from one on is the first from an earlier one on, where there is none between the two
first_from : {P : ℕ → Type 0} (from mid end : ℕ) (r : Option ℕ) → from ≤ mid → Nowhere P from mid → IsFirst P mid end r → IsFirst P from end r
first_from from mid end None ahead gone first = Nowhere-then gone first
first_from from mid end (Some k) ahead gone first =
    let low = first.0.low in
    (record { low = omega (arith, ahead, low); high = first.0.high; before = Nowhere-then gone first.0.before }, first.1)

-- where the key stands its first octet does
first_octet : (f octets : ℕ → ℕ) (m : ℕ) (v : List ℕ) (k octet : ℕ) → 0 < m → octet ≡ octets 0 → StandsAt f octets m v k → HasImage f (f octet) v k
first_octet f octets m v k octet some same stands =
    let place : k + 0 ≡ k = omega arith in
    ap (image_in f v) (sym place) ∙ stands.reads 0 some ∙ ap f (sym same)

pub returns-then-m-le-MAX_PLACES-clause-found : goal.returns-then-m-le-MAX_PLACES-clause-found
returns-then-m-le-MAX_PLACES-clause-found g c =
    let f : ℕ → ℕ = g.C.Comparator.image_of in
    let octets : ℕ → ℕ = g.K.Key.octet_at c.args.key.now in
    let m : ℕ = g.K.Key.size c.args.key.now in
    let v = c.args.value.now in
    let found = subst (IsFirst (HasImage f (f c.octet.result) v) c.args.from (length v)) c.in-Some.is c.first_of.ensures.first in
    let some : 0 < m = omega (arith, c.if-m-eq0.false, c.len-m.ensures) in
    let same : c.octet.result ≡ octets 0 = c.octet.ensures ∙ ap octets c.first.ensures.index in
    first_from c.args.from c.in-Some.first (length v + 1) c.find_short.result found.0.low
    (λ k low high stands. found.0.before k low high (first_octet f octets m v k c.octet.result some same stands)) c.find_short.ensures.found

pub returns-clause-found : goal.returns-clause-found
returns-clause-found g c =
    let f : ℕ → ℕ = g.C.Comparator.image_of in
    let octets : ℕ → ℕ = g.K.Key.octet_at c.args.key.now in
    let m : ℕ = g.K.Key.size c.args.key.now in
    let v = c.args.value.now in
    let found = subst (IsFirst (HasImage f (f c.octet.result) v) c.args.from (length v)) c.in-Some.is c.first_of.ensures.first in
    let some : 0 < m = omega (arith, c.if-m-eq0.false, c.len-m.ensures) in
    let same : c.octet.result ≡ octets 0 = c.octet.ensures ∙ ap octets c.first.ensures.index in
    first_from c.args.from c.in-Some.first (length v + 1) c.find_cut.result found.0.low
    (λ k low high stands. found.0.before k low high (first_octet f octets m v k c.octet.result some same stands)) c.find_cut.ensures.found
