use Rattle.std.proofs.Common.{◌≡◌, Ok, map, rules}
use Rattle.std.specs.FinMap.{keys}
use Rattle.store_tables.proofs.ListLemmas.{owner_key}
use Rattle.store_accounts.specs.declared.refusal.Refusal.{Refusal}
use Rattle.store_accounts.specs.FirstCells.{first_two}
use Rattle.store_accounts.specs.Listing.{select_reply_keys}
use Rattle.store_accounts.specs.ReplyRows.{reply_key_of, key_cells, AreKeyRows}
use Rattle.store_accounts.proofs.EachLemmas.{reads_entered}
use Rattle.store_accounts.proofs.ReplyKeyLemmas.{select_reply_keys_plain, keys_are, keys_read}
use Rattle.store_accounts.proofs.store.Store.reply_keys_of.Goals as goal

pub read_each-requires-clause-plain : goal.read_each-requires-clause-plain
read_each-requires-clause-plain g c = select_reply_keys_plain.0

pub returns : goal.returns
returns g c =
    let same : c.self.inside.conn ≡ c.args.self.now = search rules in
    let user = c.args.user.now in
    (rw same at (reads_entered g.S.Store select_reply_keys (owner_key user) key_cells first_two c.self.inside.conn c.read_each.new.conn c.read_each.result user AreKeyRows (λ all a. all ≡ map reply_key_of (keys a.replies))
    (λ rows accounts p. keys_read _ _ rows accounts p user) (λ rows all a are is. keys_are {E = Refusal} (Ok all) rows (map reply_key_of (keys a.replies)) is are) (rw (c.params-to_sql.ensures) at c.read_each.ensures))).finds
