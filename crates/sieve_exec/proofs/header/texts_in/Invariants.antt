-- The texts so far are those of the values so far.
use Rattle.std.proofs.Common.{◌≡◌, map, take}
use Rattle.mail_head.specs.Heads.{unfold_of}
use Rattle.sieve_exec.specs.Mails.{text_shown}
use Rattle.sieve_exec.proofs.header.texts_in.Given as goal

abbrev pub invariant-loop-raw : goal.invariant-loop-raw
invariant-loop-raw l = l.texts ≡ map text_shown (map unfold_of (map (λ raw. raw.now) (take l.raw-index l.raws)))
