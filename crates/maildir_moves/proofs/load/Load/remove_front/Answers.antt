use Rattle.std.proofs.Common.{◌<◌, ◌∙◌, ap, refl, sym, true≢false, vec_capacity, vec_len, arith}
use Rattle.maildir_moves.specs.declared.batch.MailBatch.{MailBatch}
use Rattle.maildir_moves.proofs.StepLemmas.{none_waits, rest_waits}
use Rattle.maildir_moves.proofs.load.Load.remove_front.Goals as goal

pub returns-then-not-is_empty : goal.returns-then-not-is_empty
returns-then-not-is_empty c =
    let room : vec_len c.remove.new.self < vec_capacity c.remove.new.self = omega (arith, c.remove.ensures.len, c.remove.ensures.capacity, c.args.self.now.settled.ok.1) in
    rest_waits c.args.at c.args.count c.args.self.now (record c.args.self.now { settled = c.insert.new.self }) c.remove.result c.requires c.remove.ensures.value refl (record { homes = refl; separator = refl })
    c.insert.result c.behind-batch.result c.remove.new.self.items c.behind-batch.ensures (λ none. true≢false (sym (c.is_empty.ensures.1 none) ∙ c.if-not-is_empty.true)) c.remove.ensures.items (c.insert.ensures.succeeds room) c.insert.ensures.items

pub returns-else-not-is_empty : goal.returns-else-not-is_empty
returns-else-not-is_empty c =
    none_waits c.args.at c.args.count c.args.self.now (record c.args.self.now { settled = c.remove.new.self }) c.remove.result c.requires c.remove.ensures.value refl (record { homes = refl; separator = refl })
    (sym (ap (λ (b : MailBatch). b.mails) c.behind-batch.ensures) ∙ c.is_empty.ensures.0 c.if-not-is_empty.false) c.remove.ensures.items
