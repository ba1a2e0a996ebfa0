-- Right cases of the echo's rules, and near misses.
use Rattle.std.proofs.Common.{◌≡◌, ◌-◌, ◌^◌, None, refl}
use Rattle.test_sockets.specs.declared.echo_outside.EchoNote.TheVariants.{Answered, Added}
use Rattle.test_sockets.specs.EchoRules.{Totals, echo_want_by}
use Rattle.net_loop.specs.declared.machine.Want.TheVariants as want

adds : Totals (Added 3) 4 7
adds = refl

begins_anew : Totals (Added 1) (2 ^ 64 - 1) 0
begins_anew = refl

-- near misses: an answer adds; one adds too much
not_by_an_answer : Totals Answered 4 7 → ⊥
not_by_an_answer is = cc

not_too_much : Totals (Added 3) 4 8 → ⊥
not_too_much is = cc

done_where_nobody_is : echo_want_by None ≡ want.Done
done_where_nobody_is = refl
