use Rattle.std.proofs.Common.{◌≡◌, false, drop}
use Rattle.mail_address.specs.Reading.{after_close}
use Rattle.mail_address.proofs.scanner.enclosed_len.Given as goal

abbrev pub invariant-loop-i : goal.invariant-loop-i
invariant-loop-i l = after_close l.close l.escaped (drop l.i l.inside) ≡ after_close l.close false l.inside
