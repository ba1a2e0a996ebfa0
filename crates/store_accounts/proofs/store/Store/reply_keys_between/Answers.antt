use Rattle.std.proofs.Common.{◌≡◌, Ok, map, rules}
use Rattle.store_accounts.specs.declared.refusal.Refusal.{Refusal}
use Rattle.store_accounts.specs.FirstCells.{first_two}
use Rattle.store_accounts.specs.Listing.{select_keys_between}
use Rattle.store_accounts.specs.ReplyRows.{reply_key_of, key_cells, first_between, AreBetweenRows, AreFirstBetween}
use Rattle.store_accounts.proofs.EachLemmas.{reads_entered}
use Rattle.store_accounts.proofs.ReplyKeyLemmas.{select_keys_between_plain, between_params, between_read, keys_are}
use Rattle.store_accounts.proofs.store.Store.reply_keys_between.Goals as goal

pub read_each-requires-clause-plain : goal.read_each-requires-clause-plain
read_each-requires-clause-plain g c = select_keys_between_plain.0

pub returns : goal.returns
returns g c =
    let same : c.self.inside.conn ≡ c.args.self.now = search rules in
    let user = c.args.user.now in
    let from = c.args.from.now in
    let below = c.args.below.now in
    (rw same at (reads_entered g.S.Store select_keys_between (between_params user from below) key_cells first_two c.self.inside.conn c.read_each.new.conn c.read_each.result user (AreBetweenRows from below) (AreFirstBetween from below)
    (λ rows accounts p. between_read _ _ rows accounts p user from below) (λ rows all a are is. keys_are {E = Refusal} (Ok all) rows (map reply_key_of (first_between from below a.replies)) is are) (rw (c.params-to_sql.ensures, c.params-to_sql-2.ensures, c.params-to_sql-3.ensures) at c.read_each.ensures))).finds
