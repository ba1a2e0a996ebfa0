use Rattle.std.proofs.Common.{None, Some, sym, ap, ◌∙◌, refl}
use Rattle.mail_words.proofs.QuotedLemmas.{onto, step_left, read_one, read_none}
use Rattle.mail_words.proofs.quoted.from_quoted.Goals as goal
use Rattle.mail_words.proofs.quoted.from_quoted.Goals.{in-Some-read+in_ok-push, in_default-read}

pub returns-in_default : goal.returns-in_default
returns-in_default c =
    let left = step_left c.args.text.now c.loop-octet.mode c.loop-octet.octet-index _ None c.loop-octet-test.true refl c.in_default.ensures.reads in
    ap (onto c.loop-octet.octets.items) (sym left) ∙ c.loop-octet.invariant.left

pub loop-octet-preserved : goal.loop-octet-preserved
loop-octet-preserved c =
    let left = step_left c.args.text.now c.loop-octet.mode c.loop-octet.octet-index _ (Some (c.in-Some.next, c.in-Some.read)) c.loop-octet-test.true refl c.in-Some.ensures.reads in
    elim c.match-read.branch [
      | in-Some-read+in_ok-push w ↦
          read_one c.args.text.now c.loop-octet.octets.items c.match-read.octets.items c.loop-octet.mode c.in-Some.next c.match-read.mode c.loop-octet.octet-index w.in-Some-read.read
          c.in-Some.read w.in-Some-read.is c.loop-octet.invariant c.in-Some.ensures.kept left (ap (λ v. v.items) w.octets-is ∙ w.in_ok-push.ensures.items) w.mode-is
      | in_default-read w ↦
          read_none c.args.text.now c.loop-octet.octets.items c.match-read.octets.items c.loop-octet.mode c.in-Some.next c.match-read.mode c.loop-octet.octet-index
          c.in-Some.read w.in_default-read.is c.loop-octet.invariant c.in-Some.ensures.kept left (ap (λ v. v.items) w.octets-is) w.mode-is
    ]
