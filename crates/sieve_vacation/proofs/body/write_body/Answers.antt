use Rattle.std.proofs.Common.{◌++◌, ap, ◌∙◌}
use Rattle.sieve_vacation.specs.Layout.{with_line_end}
use Rattle.std.proofs.lemmas.Result.{on_ok_weaker}
use Rattle.sieve_vacation.proofs.ReplyLemmas.{body_written}
use Rattle.sieve_vacation.proofs.body.write_body.Goals as goal

pub returns : goal.returns
returns c =
    on_ok_weaker c.write_reason.result
    (λ last. body_written c.args.args.now c.args.mail.now c.args.out.now c.extend_from_slice.new.self c.write_in_reply_to.new.out c.write_version.new.out c.write_content_header.new.out c.write_reason.new.out
    c.in_ok-extend_from_slice.ensures.ok c.in_ok-write_in_reply_to.ensures c.in_ok-write_version.ensures c.in_ok-write_content_header.ensures (last ∙ ap (λ t. c.write_content_header.new.out ++ with_line_end t) c.as_slice.ensures))
    c.write_reason.ensures
