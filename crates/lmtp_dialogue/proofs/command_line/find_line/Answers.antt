use Rattle.std.proofs.Common.{◌≡◌, take, subst, arith}
use Rattle.std.proofs.lemmas.List.{take_all}
use Rattle.lmtp_dialogue.specs.Lines.{HasNoLineEnd}
use Rattle.lmtp_dialogue.proofs.LineLemmas.{line_in, line_fits, no_end_in}
use Rattle.lmtp_dialogue.proofs.command_line.find_line.Goals as goal

pub returns-in-Some : goal.returns-in-Some
returns-in-Some c =
    let at = c.in-Some.ensures in
    let fits = line_fits c.args.octets.now c.min-most.result c.in-Some.count at.1 in
    (line_in c.args.octets.now c.min-most.result c.in-Some.count at.0.before at.1, omega (arith, fits.0, c.min-most.ensures), fits.1)

pub returns-then-octets-lt-MAX_LINE : goal.returns-then-octets-lt-MAX_LINE
returns-then-octets-lt-MAX_LINE c =
    let all = take_all c.min-most.result c.args.octets.now (omega (arith, c.min-most.ensures, c.if-octets-lt-MAX_LINE.true)) in
    (subst HasNoLineEnd all (no_end_in (take c.min-most.result c.args.octets.now) _ (omega arith) c.in-None.ensures), c.if-octets-lt-MAX_LINE.true)

pub returns-else-octets-lt-MAX_LINE : goal.returns-else-octets-lt-MAX_LINE
returns-else-octets-lt-MAX_LINE c =
    let most : c.min-most.result ≡ 2048 = omega (arith, c.min-most.ensures, c.if-octets-lt-MAX_LINE.false) in
    (subst (λ n. HasNoLineEnd (take n c.args.octets.now)) most (no_end_in (take c.min-most.result c.args.octets.now) _ (omega arith) c.in-None.ensures), c.if-octets-lt-MAX_LINE.false)
