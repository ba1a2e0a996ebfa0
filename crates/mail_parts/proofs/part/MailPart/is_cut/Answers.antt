use Rattle.std.proofs.Common.{◌≡◌, ◌∙◌, arith}
use Rattle.mail_parts.proofs.WalkLemmas.{cut_is}
use Rattle.mail_parts.proofs.part.MailPart.is_cut.Goals as goal

pub returns : goal.returns
returns c =
    let own = c.self.inside in
    let last : own.left ≡ 0 = omega (arith, c.if-self-ne0.false) in
    c.is_some.ensures
    ∙ cut_is own.digest own.text.now own.body.now own.left own.media_type own.encoding c.args.self.now c.in_ok-found.found c.self.invariant last
    c.self.view_is c.in_ok-found.ensures
