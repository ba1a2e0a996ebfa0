use Rattle.std.proofs.Common.{◌≡◌, ◌==◌, ◌∙◌, Vec, length, w64, SFits, to_z-of_z, rules}
use Rattle.std.specs.declared.alloc.Global.{Global}
use Rattle.sqlite.specs.Held.{state}
use Rattle.sqlite_value.specs.Order.{Row}
use Rattle.store_accounts.specs.Shows.{AreOtherRows, IsShared}
use Rattle.store_accounts.proofs.AmongLemmas.{among_made}
use Rattle.store_accounts.proofs.OtherLemmas.{shared_is}
use Rattle.store_accounts.proofs.store.Store.has_other_copy.Goals as goal

pub returns-clause-finds : goal.returns-clause-finds
returns-clause-finds g c =
    let user = c.args.user.now in
    let same : c.self.inside.conn ≡ c.args.self.now = search rules in
    let id_fits : SFits w64 c.in_ok-id.id = search rules in
    let n_fits : SFits w64 c.in_ok-n.n = search rules in
    let id = to_z-of_z id_fits ∙ c.in_ok-id.ensures.same in
    let n = to_z-of_z n_fits ∙ c.in_ok-n.ensures.same in
    let tells : c.is_empty.result ≡ (length c.in_ok-rows.rows.items == 0) = search rules in
    among_made user (λ (rows : Vec Row Global). AreOtherRows user _ _ rows.items) (IsShared user c.args.copy.now) (state g.S.Store c.args.self.now) (state g.S.Store c.find_other.new.conn) c.find_other.result (rw same at c.find_other.ensures.finds) c.in_ok-rows.rows c.in_ok-rows.was _
    (λ own are. shared_is user c.args.copy.now _ _ c.in_ok-rows.rows.items own id n c.is_empty.result tells are)
