use Rattle.std.proofs.Common.{◌∙◌, sym, ap}
use Rattle.octets.specs.Ascii as ascii
use Rattle.octets.proofs.AsciiLemmas.{trim_back-blank, trim_back-other}
use Rattle.mail_parts.proofs.blanks.trim_back.Goals as goal

pub loop-last-preserved : goal.loop-last-preserved
loop-last-preserved c =
    let blank = sym c.is_blank.ensures ∙ c.if-not-is_blank.false in
    sym (ap ascii.trim_back c.in-Some.ensures.cases.0 ∙ trim_back-blank c.in-Some.front.now c.in-Some.last.now blank) ∙ c.loop-last.invariant

pub returns-then-not-is_blank : goal.returns-then-not-is_blank
returns-then-not-is_blank c =
    let other = sym c.is_blank.ensures ∙ c.if-not-is_blank.true in
    let parts = c.in-Some.ensures.cases.0 in
    parts ∙ sym (ap ascii.trim_back parts ∙ trim_back-other c.in-Some.front.now c.in-Some.last.now other) ∙ c.loop-last.invariant
