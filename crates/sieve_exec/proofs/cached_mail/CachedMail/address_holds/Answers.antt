use Rattle.std.proofs.Common.{◌≡◌, ◌∙◌, true, sym, ap}
use Rattle.sieve_exec.specs.Extension.Relational.{is_count}
use Rattle.sieve_exec.specs.Counts.{addresses_counted}
use Rattle.sieve_exec.specs.Matches.{count_matches}
use Rattle.sieve_exec.proofs.Decisions.{each_asked, number_asked}
use Rattle.sieve_exec.proofs.cached_mail.CachedMail.address_holds.Goals as goal

pub returns-then-not-is_count-clause-truth : goal.returns-then-not-is_count-clause-truth
returns-then-not-is_count-clause-truth c =
    each_asked c.some_address_matches.result (is_count c.args.address.now.matching) _ _ (sym c.is_count.ensures ∙ c.if-not-is_count.true) c.some_address_matches.ensures.truth

pub returns-clause-truth : goal.returns-clause-truth
returns-clause-truth c =
    let x = c.args.address.now in
    let named : c.in_ok-count.count ≡ addresses_counted c.self.inside.addresses x.part c.as_slice-names.result.now = c.in_ok-count.ensures.count in
    let count : c.in_ok-count.count ≡ addresses_counted c.self.inside.addresses x.part x.fields = named ∙ ap (addresses_counted c.self.inside.addresses x.part) c.as_slice-names.ensures in
    let on : is_count x.matching ≡ true = sym c.is_count.ensures ∙ c.if-not-is_count.false in
    (rw c.as_slice.ensures at c.count_matches.ensures) ∙ ap (count_matches x.comparator x.matching x.keys) count
    ∙ ap (λ m. count_matches x.comparator x.matching x.keys (addresses_counted m x.part x.fields)) (c.self.invariant.1 ∙ c.self.view_is) ∙ number_asked (is_count x.matching) _ _ on
