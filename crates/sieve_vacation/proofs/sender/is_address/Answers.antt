use Rattle.std.proofs.Common.{arith}
use Rattle.std.proofs.lemmas.Bool.Decides.{nat_tests}
use Rattle.sieve_vacation.proofs.AddressLemmas.{address_is}
use Rattle.sieve_vacation.proofs.sender.is_address.Goals as goal
use Rattle.sieve_vacation.proofs.sender.is_address.Goals.{then-not-is_same-via-then-not-is_same, then-not-is_same-via-else-not-is_same+then-at-ne64}

pub returns-then-not-is_same : goal.returns-then-not-is_same
returns-then-not-is_same c =
    let whole = address_is c.args.address.now c.as_slice-local.result.now c.args.text.now c.split_at.result.0.now c.split_at.result.1.now c.in-Some.after.now c.in-Some.at.now
    c.as_slice-local.ensures (omega arith) c.split_at.ensures.front c.split_at.ensures.back c.in-Some.ensures.cases.0 in
    elim c.then-not-is_same.branch [
      | then-not-is_same-via-then-not-is_same w ↦ grind (arith, nat_tests, whole)
      | then-not-is_same-via-else-not-is_same+then-at-ne64 w ↦ grind (arith, nat_tests, whole)
    ]

pub returns : goal.returns
returns c =
    let whole = address_is c.args.address.now c.as_slice-local.result.now c.args.text.now c.split_at.result.0.now c.split_at.result.1.now c.in-Some.after.now c.in-Some.at.now
    c.as_slice-local.ensures (omega arith) c.split_at.ensures.front c.split_at.ensures.back c.in-Some.ensures.cases.0 in
    grind (arith, nat_tests, whole)
