use Rattle.std.proofs.Common.{refl, ◌-◌, max, ap, ◌∙◌, sym, ℕ, ◌+◌}
use Rattle.std.proofs.lemmas.Bool.{false≢true}
use Rattle.sieve_match.specs.Search.{image_at}
use Rattle.sieve_match.proofs.Cuts.{IsCut-whole, IsCut-periodic}
use Rattle.sieve_match.proofs.twoway.cut_at.Goals as goal

pub returns-then-not-repeats_before-clause-cut : goal.returns-then-not-repeats_before-clause-cut
returns-then-not-repeats_before-clause-cut g c =
    let x : ℕ → ℕ = image_at g.C.Comparator.image_of (g.K.Key.octet_at c.args.key.now) in
    let critical : ℕ = c.args.suffix.start.index in
    IsCut-whole x (g.K.Key.size c.args.key.now) _ c.args.suffix.period c.requires.place
    (λ all. false≢true (c.if-not-repeats_before.ensures.same.1 (λ k l. all k l ∙ ap (λ d. x (k + d)) (sym c.spot_of-back.ensures.index))))
    (c.max.ensures ∙ ap (λ n. max critical (n - critical)) c.len.ensures) c.first.ensures.index

pub returns-clause-cut : goal.returns-clause-cut
returns-clause-cut g c =
    let x : ℕ → ℕ = image_at g.C.Comparator.image_of (g.K.Key.octet_at c.args.key.now) in
    IsCut-periodic x (g.K.Key.size c.args.key.now) _ c.args.suffix.period c.requires.place
    (λ k l. c.if-not-repeats_before.ensures.same.0 refl k l ∙ ap (λ d. x (k + d)) c.spot_of-back.ensures.index)
    refl (c.spot_of.ensures.index ∙ ap (λ n. n - c.args.suffix.period) c.len-2.ensures)
