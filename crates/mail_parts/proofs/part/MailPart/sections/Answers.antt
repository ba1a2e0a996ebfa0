use Rattle.std.proofs.Common.{◌≡◌, ◌∙◌}
use Rattle.std.proofs.lemmas.Result.{IfOk-weaker}
use Rattle.mail_parts.specs.Parts.{entity_texts}
use Rattle.mail_parts.specs.PartReading.{maybe_texts, texts_below}
use Rattle.mail_parts.proofs.WalkLemmas.{below_is}
use Rattle.mail_parts.proofs.part.MailPart.sections.Goals as goal

pub returns : goal.returns
returns c =
    let own = c.self.inside in
    let below = below_is own.digest own.text.now own.body.now own.left own.media_type own.encoding c.args.self.now c.self.invariant c.if-self-eq0.false c.self.view_is in
    IfOk-weaker c.sections_in.result (λ found. maybe_texts found ≡ entity_texts own.media_type own.encoding own.body.now)
    (λ found. maybe_texts found ≡ texts_below c.args.self.now) (λ found same. same ∙ below) c.sections_in.ensures
