-- The keys are those of the test, and the addresses those of the mail.
use Rattle.std.proofs.Common.{◌≡◌, ◌∙◌, ℕ, Bool, IfOk, List, subst, ap}
use Rattle.std.specs.List.{list_any}
use Rattle.octets.specs.Ascii.{lowered}
use Rattle.sieve_syntax.specs.declared.tree.checks.AddressPart.{AddressPart}
use Rattle.sieve_exec.specs.Indexes.{addresses_keyed}
use Rattle.sieve_exec.specs.Mails.{MailSpec}
use Rattle.sieve_exec.specs.Parts.{address_part_of}
use Rattle.sieve_exec.specs.Ready.{KeysSpec, keys_spec_of}
use Rattle.sieve_exec.specs.Matches.{part_matches}
use Rattle.sieve_exec.specs.Truth.{some_address_matches}
use Rattle.sieve_exec.proofs.cached_mail.CachedMail.some_address_matches.Goals as goal

abbrev asked : AddressPart → MailSpec → KeysSpec → List (List ℕ) → Bool
asked part mail keys names = list_any (λ name. list_any (λ one. part_matches keys.collation keys.matching keys.keys (address_part_of part one)) (addresses_keyed mail (lowered name))) names

pub returns-clause-truth : goal.returns-clause-truth
returns-clause-truth c =
    let address = c.args.address.now in
    let ready = c.in_ok-new.field-0 in
    let names = c.as_slice-names.result.now in
    let keys : ready ≡ keys_spec_of address.comparator address.matching address.keys = c.in_ok-new.ensures ∙ ap (keys_spec_of address.comparator address.matching) c.as_slice-keys.ensures in
    let here : IfOk c.holds.result (λ holds. holds ≡ asked address.part c.sizes_for.new.self ready names) = c.holds.ensures.holds in
    let same : asked address.part c.sizes_for.new.self ready names ≡ some_address_matches c.args.self.now address =
    ap (λ mail. asked address.part mail ready names) (c.sizes_for.ensures ∙ c.self.invariant.1 ∙ c.self.view_is) ∙ ap (λ these. asked address.part c.args.self.now these names) keys
    ∙ ap (asked address.part c.args.self.now (keys_spec_of address.comparator address.matching address.keys)) c.as_slice-names.ensures in
    subst (λ b. IfOk c.holds.result (λ holds. holds ≡ b)) same here
