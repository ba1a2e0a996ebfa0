use Rattle.std.proofs.Common.{◌≡◌, ◌+◌, ◌-◌, subst, arith}
use Rattle.std.specs.Prelude.{sum_by}
use Rattle.sieve_exec.specs.Sizes.{IsLeft, texts_size, tried_work}
use Rattle.sieve_exec.proofs.WorkLemmas.{left_then}
use Rattle.sieve_exec.proofs.extension.imap4flags.spend_flags.Goals as goal

pub returns : goal.returns
returns c =
    let flags = texts_size c.args.flags.now in
    let keys = texts_size c.args.test.now.keys in
    let octets : c.args.left - c.in_ok-rest.rest ≡ flags = omega (arith, c.in_ok-rest.ensures) in
    let looked = rw c.as_slice-keys.ensures at c.in_ok-left.ensures in
    let tried = rw c.as_slice-keys.ensures at c.spend_words.ensures in
    left_then c.args.left c.in_ok-left.left (flags + keys) _ c.spend_words.result (omega (arith, c.in_ok-rest.ensures, looked))
    (subst (λ o. IsLeft c.in_ok-left.left (sum_by (tried_work o) c.args.test.now.keys) c.spend_words.result) octets tried)
