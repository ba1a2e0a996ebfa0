-- The values are those of the mail.
use Rattle.std.proofs.Common.{◌≡◌, ◌+◌, ◌<◌, length, ap, subst, ◌∙◌}
use Rattle.sieve_exec.specs.Sizes.{IsLeft, names_work, values_work}
use Rattle.sieve_exec.specs.Work.{address_sizes}
use Rattle.sieve_exec.proofs.WorkLemmas.{left_then, too_large}
use Rattle.sieve_exec.proofs.cached_mail.CachedMail.spend_address.Goals as goal

pub returns-in_default-2-clause-left : goal.returns-in_default-2-clause-left
returns-in_default-2-clause-left c =
    let fields = c.args.address.now.fields in
    let paid : c.in-Some.left + names_work fields ≡ c.args.left = rw c.as_slice-names.ensures at c.in-Some.ensures in
    let found = rw c.in_default-2.is at c.in_ok-sizes.ensures.sizes in
    let here : c.in-Some.left < (address_sizes c.self.inside.addresses fields).octets = rw c.as_slice-names.ensures at found in
    too_large _ _ _ _ _ paid (subst (λ m. c.in-Some.left < (address_sizes m fields).octets) (c.self.invariant.1 ∙ c.self.view_is) here)

pub returns-clause-left : goal.returns-clause-left
returns-clause-left c =
    let address = c.args.address.now in
    let paid : c.in-Some.left + names_work address.fields ≡ c.args.left = rw c.as_slice-names.ensures at c.in-Some.ensures in
    let found = rw c.in-Some-2.is at c.in_ok-sizes.ensures.sizes in
    let here : c.in-Some-2.sizes ≡ address_sizes c.self.inside.addresses address.fields = rw c.as_slice-names.ensures at found.0 in
    let same : c.in-Some-2.sizes ≡ address_sizes c.args.self.now address.fields = here ∙ ap (λ m. address_sizes m address.fields) (c.self.invariant.1 ∙ c.self.view_is) in
    left_then _ _ _ _ c.spend_values.result paid
    (subst (λ s. IsLeft c.in-Some.left (values_work (length address.fields) address.matching s address.keys) c.spend_values.result) same (rw (c.as_slice-names.ensures, c.as_slice.ensures) at c.spend_values.ensures))
