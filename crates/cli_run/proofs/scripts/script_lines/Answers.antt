-- The reply to LISTSCRIPTS, without its last line.
use Rattle.std.proofs.Common.{◌≡◌, ◌++◌, [], Option, Some, None, sym, ap, ◌∙◌, subst, rules, append-nil}
use Rattle.managesieve_protocol.specs.Replies.{lines_spelled}
use Rattle.managesieve_protocol.specs.declared.replies.ServerReply.{ServerReply}
use Rattle.managesieve_sessions.specs.Scripts.{list_reply}
use Rattle.cli_run.proofs.scripts.script_lines.Goals as goal

pub returns : goal.returns
returns c a fits =
    let same : c.in_ok-names.names ≡ c.args.found.now.names = search rules in
    let told = c.in_ok-decision.ensures.replies a (same ∙ fits.0, fits.1 ∙ sym c.active_in.ensures) in
    let spelled : c.spell.new.out ≡ lines_spelled c.in_ok-decision.decision.reply.lines ++ [] = c.in_ok-spell.ensures.ok ∙ ap (λ t. t ++ (lines_spelled c.in_ok-decision.decision.reply.lines ++ [])) c.new-text.ensures in
    spelled ∙ append-nil _ ∙ ap (λ (r : ServerReply). lines_spelled r.lines) told
