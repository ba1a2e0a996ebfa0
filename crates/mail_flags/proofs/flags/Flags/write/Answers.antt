use Rattle.std.proofs.Common.{ap, sym, ◌∙◌, arith}
use Rattle.std.proofs.lemmas.List.{take_all}
use Rattle.mail_flags.specs.Flags.{flags_text}
use Rattle.mail_flags.proofs.TextLemmas.{behind, written_behind}
use Rattle.mail_flags.proofs.flags.Flags.write.Goals as goal

pub returns : goal.returns
returns c =
    c.loop-name.invariant
    ∙ ap (behind c.in_ok-text.text) (take_all c.loop-name.name-index c.in-Some.more.now (omega arith))
    ∙ ap (λ first. behind first c.in-Some.more.now) c.in_ok-text.ensures
    ∙ written_behind c.in-Some.first.now c.in-Some.more.now
    ∙ ap flags_text (sym c.in-Some.ensures.cases.0 ∙ c.as_slice.ensures.value ∙ c.self.view_is)
