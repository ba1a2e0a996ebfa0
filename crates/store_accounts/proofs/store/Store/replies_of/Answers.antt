use Rattle.std.proofs.Common.{◌≡◌, Ok, OnOk, IfErr, map, rules}
use Rattle.octets.specs.Ascii.{lowered}
use Rattle.sqlite.specs.Held.{state}
use Rattle.store_accounts.specs.Refusals.{IsTransient}
use Rattle.store_tables.proofs.ListLemmas.{pair_key}
use Rattle.store_tables.specs.ReplyTable.{select_replies}
use Rattle.store_tables.proofs.TextFacts.{select_replies_plain}
use Rattle.store_accounts.specs.declared.refusal.Refusal.{Refusal}
use Rattle.store_accounts.specs.FirstCells.{first_two}
use Rattle.store_accounts.specs.ReplyRows.{AreKeptReplies, AreReplyRows, kept_cells, kept_reply, replies_to}
use Rattle.store_accounts.proofs.ReplyLemmas.{replies_are, replies_read}
use Rattle.store_accounts.proofs.EnterLemmas.{entered_unasked}
use Rattle.store_accounts.proofs.EachLemmas.{reads_entered}
use Rattle.store_accounts.proofs.store.Store.replies_of.Goals as goal

pub read_each-requires-clause-plain : goal.read_each-requires-clause-plain
read_each-requires-clause-plain g c = select_replies_plain.0

pub returns-in_err-sender : goal.returns-in_err-sender
returns-in_err-sender g c =
    let none : OnOk c.from_residual.result ⊥ = search rules in
    let transient : IfErr c.from_residual.result IsTransient = search rules in
    entered_unasked c.args.user.now (AreKeptReplies c.args.sender.now) (state g.S.Store c.args.self.now) c.from_residual.result none transient

pub returns : goal.returns
returns g c =
    let same : c.self.inside.conn ≡ c.args.self.now = search rules in
    let user = c.args.user.now in
    let sender = lowered c.args.sender.now in
    let folded : c.as_slice.result.now ≡ sender = search rules in
    (rw same at (reads_entered g.S.Store select_replies (pair_key user sender) kept_cells first_two c.self.inside.conn c.read_each.new.conn c.read_each.result user (AreReplyRows sender) (AreKeptReplies c.args.sender.now)
    (λ rows accounts p. replies_read _ _ rows accounts p user sender) (λ rows all a are is. replies_are {E = Refusal} (Ok all) rows (map kept_reply (replies_to sender a.replies)) is are) (rw (c.params-to_sql.ensures, c.params-to_sql-2.ensures, folded) at c.read_each.ensures))).finds
