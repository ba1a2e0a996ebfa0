use Rattle.std.proofs.Common.{◌∙◌, ap, codes, decimal}
use Rattle.daemon_log.specs.Lines.{pair, with_pairs}
use Rattle.daemon_host.specs.Log.{id_pairs}
use Rattle.daemon_host.specs.MessageIds.{logged_id}
use Rattle.daemon_host.proofs.LogLemmas.{three_and_more}
use Rattle.daemon_host.proofs.log.of_moved.Goals as goal

pub returns : goal.returns
returns c =
    three_and_more c.end.result (codes "moved") _ _ _ _ _ (pair (codes "user") c.args.user.now) (pair (codes "folder") c.args.folder.now) (pair (codes "number") (decimal c.args.mail.now.number))
    (id_pairs (logged_id c.args.mail.now.message)) c.in_ok-line.ensures c.in_ok-add_pair.ensures c.in_ok-add_pair-2.ensures c.in_ok-add_number.ensures
    (c.in_ok-add_id.ensures ∙ ap (λ message. with_pairs c.add_number.new.line (id_pairs (logged_id message))) c.as_slice.ensures) c.end.ensures
