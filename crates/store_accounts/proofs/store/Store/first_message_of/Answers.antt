use Rattle.std.proofs.Common.{pos}
use Rattle.sqlite.specs.Held.{state}
use Rattle.store_accounts.specs.CopyRows.{IsFirstIn}
use Rattle.store_accounts.specs.Shows.{IsFirstOf, IsNthOf}
use Rattle.store_accounts.proofs.AmongLemmas.{among_reads, among_told}
use Rattle.store_accounts.proofs.FirstLemmas.{first_shows, nth_first}
use Rattle.store_accounts.proofs.store.Store.first_message_of.Goals as goal

pub returns-clause-first : goal.returns-clause-first
returns-clause-first g c =
    let user = c.args.user.now in
    let folder = c.args.folder.now in
    among_reads user (IsNthOf user folder (pos 0)) (IsFirstIn folder) (state g.S.Store c.args.self.now) (state g.S.Store c.nth_numbered_of.new.self) c.nth_numbered_of.result
    (λ first own a s is. first_shows user folder first own a s (nth_first user folder first own is)) c.nth_numbered_of.ensures.named c.nth_numbered_of.ensures.finds

pub returns-clause-numbered : goal.returns-clause-numbered
returns-clause-numbered g c =
    let user = c.args.user.now in
    let folder = c.args.folder.now in
    among_told user (IsNthOf user folder (pos 0)) (IsFirstOf user folder) (state g.S.Store c.args.self.now) (state g.S.Store c.nth_numbered_of.new.self) c.nth_numbered_of.result
    (λ first own is. nth_first user folder first own is) c.nth_numbered_of.ensures.finds
