use Rattle.std.proofs.Common.{rules, ap, ◌∙◌, not, filter}
use Rattle.std.proofs.lemmas.Fn.{filter_same}
use Rattle.mail_flags.specs.Names.{are_same}
use Rattle.mail_flags.proofs.flags.Flags.remove_one.Goals as goal

pub returns : goal.returns
returns c =
    filter_same _ (λ there. not (are_same there c.args.name.now)) _ (λ x b f' k. search rules) _ _ c.retain.ensures.filtered
    ∙ ap (filter (λ there. not (are_same there c.args.name.now))) c.self.view_is
