use Rattle.std.proofs.Common.{◌≡◌, ℕ, ◌+◌, ◌-◌, List, [], ◌∷◌, ◌++◌, length, take, drop, get_or, refl, sym, ap, subst, ◌∙◌, arith}
use Rattle.std.proofs.lemmas.List.{append-nil, take_all}
use Rattle.sieve_match.specs.Glob.{items}
use Rattle.sieve_match.specs.Wildcards.{octets_taken}
use Rattle.sieve_match.specs.declared.pattern.GlobItem.{GlobItem}
use Rattle.sieve_match.specs.declared.pattern.GlobItem.TheVariants.{Star}
use Rattle.sieve_match.specs.declared.captures.TheConstants.{MAX_CAPTURES}
use Rattle.sieve_match.proofs.Cursors.{item_at, left_after}
use Rattle.sieve_match.proofs.Patterns.{inside_pattern}
use Rattle.sieve_match.proofs.Steps.{segment_len-within, no_star}
use Rattle.sieve_match.specs.Segments.{segment_len}
use Rattle.sieve_match.proofs.CaptureSteps.{taken_after, taken_one_at, taken_exact_at, push_more, one_octet, few}
use Rattle.sieve_match.proofs.captures.push_octets.Goals as goal
use Rattle.sieve_match.proofs.captures.push_octets.Goals.{in-One, in-Star, in-Exact}

pub loop-j-init : goal.loop-j-init
loop-j-init c =
    let segment = c.args.segment.now in
    let is : List GlobItem = items (drop segment.from segment.pattern.now) in
    record {
      cursor = refl;
      few = c.requires.few;
      goes = ap (λ q. take (MAX_CAPTURES + 1) (c.args.kept.now ++ octets_taken is c.args.value.now q)) (omega arith);
    }

pub read_item-item-requires : goal.read_item-item-requires
read_item-item-requires c =
    let segment = c.args.segment.now in
    let is : List GlobItem = items (drop segment.from segment.pattern.now) in
    inside_pattern segment.pattern.now c.loop-j.place is c.loop-j.j c.loop-j.invariant.cursor
    (omega (arith, c.requires.segment.counted, segment_len-within is, c.loop-j-test.true))

pub loop-j-preserved : goal.loop-j-preserved
loop-j-preserved c =
    let segment = c.args.segment.now in
    let p : List ℕ = segment.pattern.now in
    let v : List ℕ = c.args.value.now in
    let is : List GlobItem = items (drop segment.from p) in
    let j : ℕ = c.loop-j.j in
    let q : ℕ = c.args.at + j in
    let item : GlobItem = c.read_item-item.result.0 in
    let rest : List GlobItem = items (drop c.read_item-item.result.1 p) in
    let old = c.loop-j.invariant in
    let left : drop j is ≡ item ∷ rest = sym old.cursor ∙ c.read_item-item.ensures.item in
    let here = item_at Star is j _ _ left in
    let now : take (MAX_CAPTURES + 1) (c.loop-j.kept ++ octets_taken (item ∷ rest) v q) ≡ take (MAX_CAPTURES + 1) (c.args.kept.now ++ octets_taken is v c.args.at) =
    subst (λ l. take (MAX_CAPTURES + 1) (c.loop-j.kept ++ octets_taken l v q) ≡ take (MAX_CAPTURES + 1) (c.args.kept.now ++ octets_taken is v c.args.at)) c.read_item-item.ensures.item old.goes in
    let later : List (List ℕ) = octets_taken rest v (q + 1) in
    let next : q + 1 ≡ c.args.at + (j + 1) = omega arith in
    let text : List ℕ = take (q + 1 - q) (drop q v) in
    let goes : take (MAX_CAPTURES + 1) (c.match-item.kept ++ later) ≡ take (MAX_CAPTURES + 1) (c.args.kept.now ++ octets_taken is v c.args.at) =
    elim c.match-item.branch [
      | in-One w ↦
          let one : text ≡ get_or v q 0 ∷ [] = one_octet v q (q + 1 - q) (omega (arith, c.requires.within, c.loop-j-test.true)) (omega arith) in
          let kept_is : c.match-item.kept ≡ take (MAX_CAPTURES + 1) (c.loop-j.kept ++ text ∷ []) = w.kept-is ∙ w.push.ensures in
          push_more (MAX_CAPTURES + 1) c.loop-j.kept c.match-item.kept later text kept_is
          ∙ ap (λ x. take (MAX_CAPTURES + 1) (c.loop-j.kept ++ x ∷ later)) one
          ∙ ap (λ l. take (MAX_CAPTURES + 1) (c.loop-j.kept ++ l)) (sym (taken_one_at item rest v q w.in-One.is)) ∙ now
      | in-Star w ↦ absurd (no_star is j (omega (arith, c.requires.segment.counted, c.loop-j-test.true)) (here ∙ w.in-Star.is))
      | in-Exact w ↦
          ap (λ k. take (MAX_CAPTURES + 1) (k ++ later)) w.kept-is
          ∙ ap (λ l. take (MAX_CAPTURES + 1) (c.loop-j.kept ++ l)) (sym (taken_exact_at item rest v q _ w.in-Exact.is)) ∙ now
    ] in
    record {
      cursor = sym (left_after Star is j _ _ left);
      few = elim c.match-item.branch [
        | in-One w ↦ few (MAX_CAPTURES + 1) (c.loop-j.kept ++ text ∷ []) c.match-item.kept (w.kept-is ∙ w.push.ensures)
        | in-Star w ↦ omega (arith, ap length w.kept-is, c.loop-j.invariant.few)
        | in-Exact w ↦ omega (arith, ap length w.kept-is, c.loop-j.invariant.few)
      ];
      goes = ap (λ n. take (MAX_CAPTURES + 1) (c.match-item.kept ++ octets_taken rest v n)) (sym next) ∙ goes;
    }

pub returns : goal.returns
returns c =
    let segment = c.args.segment.now in
    let p : List ℕ = segment.pattern.now in
    let v : List ℕ = c.args.value.now in
    let is : List GlobItem = items (drop segment.from p) in
    let ended : c.loop-j.j ≡ segment.count = omega (arith, c.loop-j.auto.j-end, c.loop-j-test.false) in
    let last : items (drop c.loop-j.place p) ≡ drop (segment_len is) is =
    c.loop-j.invariant.cursor ∙ ap (λ n. drop n is) (ended ∙ c.requires.segment.counted) in
    let none : octets_taken (items (drop c.loop-j.place p)) v (c.args.at + c.loop-j.j) ≡ [] =
    ap (λ l. octets_taken l v (c.args.at + c.loop-j.j)) last ∙ taken_after is v (c.args.at + c.loop-j.j) in
    let whole : take (MAX_CAPTURES + 1) (c.loop-j.kept ++ octets_taken (items (drop c.loop-j.place p)) v (c.args.at + c.loop-j.j)) ≡ c.loop-j.kept =
    ap (λ l. take (MAX_CAPTURES + 1) (c.loop-j.kept ++ l)) none ∙ ap (take (MAX_CAPTURES + 1)) (append-nil c.loop-j.kept)
    ∙ take_all (MAX_CAPTURES + 1) c.loop-j.kept c.loop-j.invariant.few in
    sym whole ∙ c.loop-j.invariant.goes
