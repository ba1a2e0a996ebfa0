use Rattle.std.proofs.Common.{◌≡◌, ◌∙◌, OnOk, IfErr, Option, option_map, w64, SFits, to_z-of_z, rules}
use Rattle.sqlite.specs.Held.{state}
use Rattle.store_accounts.specs.declared.taking.NumberedMessage.{NumberedMessage}
use Rattle.store_accounts.specs.CopyRows.{IsNthMessage}
use Rattle.store_accounts.specs.Refusals.{IsTransient}
use Rattle.store_accounts.specs.Shows.{IsNthOf}
use Rattle.store_accounts.proofs.AmongLemmas.{among_reads}
use Rattle.store_accounts.proofs.EnterLemmas.{entered_other, entered_again}
use Rattle.store_accounts.proofs.FirstLemmas.{nth_shows}
use Rattle.store_accounts.proofs.store.Store.nth_message_of.Goals as goal

pub returns-in_err-nth : goal.returns-in_err-nth
returns-in_err-nth g c =
    let user = c.args.user.now in
    let folder = c.args.folder.now in
    let fits : SFits w64 c.args.count = search rules in
    let none : OnOk c.from_residual.result ⊥ = search rules in
    let transient : IfErr c.from_residual.result IsTransient = search rules in
    entered_again user (λ (nth : Option NumberedMessage) a. IsNthMessage folder c.args.count (option_map (λ m. m.message) nth) a) (IsNthMessage folder c.args.count) (state g.S.Store c.args.self.now) (state g.S.Store c.nth_numbered_of.new.self) c.nth_numbered_of.result
    (among_reads user (IsNthOf user folder c.args.count) _ (state g.S.Store c.args.self.now) (state g.S.Store c.nth_numbered_of.new.self) c.nth_numbered_of.result (λ nth own a s is. nth_shows user folder c.args.count nth own a s is) c.nth_numbered_of.ensures.named
    (rw (to_z-of_z fits) at c.nth_numbered_of.ensures.finds)) c.from_residual.result none transient

pub returns : goal.returns
returns g c =
    let user = c.args.user.now in
    let folder = c.args.folder.now in
    let fits : SFits w64 c.args.count = search rules in
    entered_other user (λ (nth : Option NumberedMessage) a. IsNthMessage folder c.args.count (option_map (λ m. m.message) nth) a) (IsNthMessage folder c.args.count) (state g.S.Store c.args.self.now) (state g.S.Store c.nth_numbered_of.new.self) c.nth_numbered_of.result
    (among_reads user (IsNthOf user folder c.args.count) _ (state g.S.Store c.args.self.now) (state g.S.Store c.nth_numbered_of.new.self) c.nth_numbered_of.result (λ nth own a s is. nth_shows user folder c.args.count nth own a s is) c.nth_numbered_of.ensures.named
    (rw (to_z-of_z fits) at c.nth_numbered_of.ensures.finds)) _ c.in_ok-nth.nth c.in_ok-nth.was tt (λ a is n given. c.without_number.ensures ∙ is n given)
