use Rattle.std.proofs.Common.{sym, subst, List, ℕ, Option, Some, Bor}
use Rattle.std.specs.Option.{option_copied}
use Rattle.dovecot_userdb.specs.Lines.{CutsAt, userdb_line_end}
use Rattle.dovecot_userdb.specs.declared.answer.UserdbReply.{UserdbReply}
use Rattle.dovecot_userdb.proofs.TalkLemmas.{HearsSome, some_more}
use Rattle.dovecot_userdb.proofs.talk.UserdbTalk.hear_lines.Goals as goal

pub loop-rest-preserved : goal.loop-rest-preserved
loop-rest-preserved c =
    let cut : CutsAt userdb_line_end c.loop-rest.left.now c.cut_at.result.0.now (Some c.in-Some.rest.now) =
    subst (λ (o : Option (Bor (List ℕ))). CutsAt userdb_line_end c.loop-rest.left.now c.cut_at.result.0.now (option_copied o)) c.in-Some.is c.cut_at.ensures in
    let more = some_more c.args.octets.now c.args.self.now c.loop-rest.self c.hear_line.new.self c.loop-rest.replies c.loop-rest.left.now c.cut_at.result.0.now c.in-Some.rest.now c.in_ok-told.told c.loop-rest.invariant cut c.in_ok-told.ensures in
    subst (λ (z : List UserdbReply). HearsSome c.args.octets.now c.args.self.now z c.in-Some.rest.now c.hear_line.new.self) (sym c.in_ok-push_told.ensures) more
