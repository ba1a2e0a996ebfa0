-- The keys are those of the test, and the texts those of the mail.
use Rattle.std.proofs.Common.{◌≡◌, ◌∙◌, ℕ, Bool, IfOk, List, subst, ap}
use Rattle.std.specs.List.{list_any}
use Rattle.octets.specs.Ascii.{lowered}
use Rattle.sieve_exec.specs.Indexes.{texts_keyed}
use Rattle.sieve_exec.specs.Mails.{MailSpec}
use Rattle.sieve_exec.specs.Ready.{KeysSpec, keys_spec_of, matches_some_of}
use Rattle.sieve_exec.specs.Truth.{some_text_matches}
use Rattle.sieve_exec.proofs.cached_mail.CachedMail.some_text_matches.Goals as goal

abbrev asked : MailSpec → KeysSpec → List (List ℕ) → Bool
asked mail keys names = list_any (λ name. list_any (matches_some_of keys) (texts_keyed mail (lowered name))) names

pub returns-clause-truth : goal.returns-clause-truth
returns-clause-truth c =
    let header = c.args.header.now in
    let ready = c.in_ok-ready.ready in
    let names = c.as_slice-names.result.now in
    let keys : ready ≡ keys_spec_of header.comparator header.matching header.keys = c.in_ok-ready.ensures ∙ ap (keys_spec_of header.comparator header.matching) c.as_slice-keys.ensures in
    let here : IfOk c.holds.result (λ holds. holds ≡ asked c.sizes_for.new.self ready names) = c.holds.ensures.holds in
    let same : asked c.sizes_for.new.self ready names ≡ some_text_matches c.args.self.now header =
    ap (λ mail. asked mail ready names) (c.sizes_for.ensures ∙ c.self.invariant.0 ∙ c.self.view_is) ∙ ap (λ these. asked c.args.self.now these names) keys
    ∙ ap (asked c.args.self.now (keys_spec_of header.comparator header.matching header.keys)) c.as_slice-names.ensures in
    subst (λ b. IfOk c.holds.result (λ holds. holds ≡ b)) same here
