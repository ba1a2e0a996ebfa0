use Rattle.std.proofs.Common.{◌++◌, sym, ap, ◌∙◌}
use Rattle.mail_parts.specs.PartReading.{maybe_texts}
use Rattle.mail_parts.specs.Walks.{parts_in, parts_pending}
use Rattle.mail_parts.specs.declared.walk.Pending.{Pending}
use Rattle.mail_parts.proofs.WalkLemmas.{pending-push, parts_in-none}
use Rattle.mail_parts.proofs.walk.push_sections.Goals as goal

pub returns-in_ok-push : goal.returns-in_ok-push
returns-in_ok-push c =
    let old = c.args.pending.now.items in
    let entry : Pending = record { sections = c.in-Some.sections; digest = c.args.digest; left = c.args.left } in
    ap parts_pending c.in_ok-push.ensures.items
    ∙ (pending-push old entry
    ∙ ap (λ sections. parts_in c.args.left c.args.digest (maybe_texts sections) ++ parts_pending old) (sym c.in-Some.is))

pub returns-in_default : goal.returns-in_default
returns-in_default c =
    let old = c.args.pending.now.items in
    sym (ap (λ sections. parts_in c.args.left c.args.digest (maybe_texts sections) ++ parts_pending old) c.in_default.is
    ∙ ap (λ parts. parts ++ parts_pending old) (parts_in-none c.args.left c.args.digest))
