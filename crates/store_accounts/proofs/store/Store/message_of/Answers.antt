use Rattle.std.proofs.Common.{◌≡◌, ◌∙◌, pos, Vec, Ok, Some, slice_get, option_map, filter, w64, SFits, to_z-of_z, rules}
use Rattle.std.specs.declared.alloc.Global.{Global}
use Rattle.sqlite.specs.Held.{state}
use Rattle.sqlite_value.specs.declared.value.Value.TheVariants.{Blob}
use Rattle.sqlite_value.specs.Order.{Row, column}
use Rattle.store_tables.specs.Rows.{has_key}
use Rattle.store_tables.specs.MessageTable.{message_key, message_tree}
use Rattle.store_accounts.specs.Shows.{AreOctetRows, HasMessageOctets}
use Rattle.store_accounts.proofs.AmongLemmas.{among_made}
use Rattle.store_accounts.proofs.FirstLemmas.{octets_first}
use Rattle.store_accounts.proofs.store.Store.message_of.Goals as goal

pub returns-in-Some-clause-finds : goal.returns-in-Some-clause-finds
returns-in-Some-clause-finds g c =
    let user = c.args.user.now in
    let same : c.self.inside.conn ≡ c.args.self.now = search rules in
    let fits : SFits w64 c.in_ok-id.id = search rules in
    let number = to_z-of_z fits ∙ c.in_ok-id.ensures.same in
    let told : Some (Blob c.in-Some.octets) ≡ option_map (λ (r : Row). column r 0) (slice_get c.in_ok-rows.rows.items 0) = search rules in
    among_made user (λ (rows : Vec Row Global). AreOctetRows user _ rows.items) (HasMessageOctets user c.args.id) (state g.S.Store c.args.self.now) (state g.S.Store c.find_message.new.conn) c.find_message.result (rw same at c.find_message.ensures.finds) c.in_ok-rows.rows c.in_ok-rows.was (Ok c.in-Some.octets)
    (λ own are. octets_first c.in-Some.octets c.in_ok-rows.rows.items (filter (has_key (message_key user (pos c.args.id))) (own message_tree)) (rw number at are) told)
