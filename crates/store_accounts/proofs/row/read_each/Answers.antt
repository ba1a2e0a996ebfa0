use Rattle.std.proofs.Common.{◌≡◌, ◌∙◌, [], ◌∷◌, ◌++◌, Err, OnOk, IfErr, inr, refl, rules}
use Rattle.store_accounts.specs.declared.refusal.Refusal.TheVariants.{Store}
use Rattle.store_accounts.specs.Refusals.{IsTransient}
use Rattle.store_accounts.proofs.EachLemmas.{begun, advanced, read_whole, refused, stopped, passed_over, failed, seen_committed}
use Rattle.store_accounts.proofs.row.read_each.Goals as goal

pub returns-in_err-rows : goal.returns-in_err-rows
returns-in_err-rows g c =
    let asked = c.is_autocommit-settled.ensures in
    let none : OnOk c.from_residual.result ⊥ = search rules in
    let transient : IfErr c.from_residual.result IsTransient = search rules in
    refused g.S.Store _ _ _ _ c.args.conn.now c.requires.plain c.query.follows.lender-at-none c.from_residual.result none transient c.in_err-rows.field-0.0 c.requires.outside
    (seen_committed g.S.Store c.args.conn.now c.is_autocommit-settled.result asked.value asked.settled c.requires.outside) (rw c.in_err-rows.was at c.query.follows.holds-at-none)

pub rows-init : goal.rows-init
rows-init g c =
    let made = c.in_ok-rows.ensures in
    (refl, rw c.new-all.ensures.items (begun g.S.Store _ _ _ _ c.args.conn.now c.requires.plain c.in_ok-rows.rows.conn.now (made.mode c.requires.outside) made.survives made.begun))

pub returns-in_err-row : goal.returns-in_err-row
returns-in_err-row g c =
    let asked = c.is_autocommit-settled.ensures in
    let moved = c.next.follows.holds-at-none in
    let now = c.next.follows.lender-at-none.conn.now in
    let under = c.rows.invariant.1 in
    let none : OnOk c.from_residual-in_err-row.result ⊥ = search rules in
    let transient : IfErr c.from_residual-in_err-row.result IsTransient = search rules in
    let answer = failed g.S.Store _ _ _ _ c.args.conn.now c.requires.plain now c.from_residual-in_err-row.result none transient c.rows.rows.conn.now c.rows.all.items c.in_err-row.field-0.0
    (seen_committed g.S.Store c.args.conn.now c.is_autocommit-settled.result asked.value asked.settled c.requires.outside) under moved.survives (moved.mode under.ended) (rw c.in_err-row.was at moved.kept) in
    search rules

pub returns-in_default : goal.returns-in_default
returns-in_default g c =
    let moved = c.next.follows.holds-at-none in
    let now = c.next.follows.lender-at-none.conn.now in
    let under = c.rows.invariant.1 in
    let answer = read_whole g.S.Store _ _ _ _ c.args.conn.now c.requires.plain c.rows.rows.conn.now now c.rows.all.items under moved.survives (moved.mode under.ended) (rw (c.in_ok-row.was, c.in_default.is) at moved.ok) (rw c.in_ok-row.was at moved.same) in
    search rules

pub returns-in_err-from_row : goal.returns-in_err-from_row
returns-in_err-from_row g c =
    let moved = c.next.follows.holds-at-none in
    let now = c.next.follows.lender-at-none.conn.now in
    let under = c.rows.invariant.1 in
    let none : OnOk c.from_residual-in_err-from_row.result ⊥ = search rules in
    let transient : IfErr c.from_residual-in_err-from_row.result IsTransient = search rules in
    let answer = passed_over g.S.Store _ _ _ _ c.args.conn.now c.requires.plain now c.from_residual-in_err-from_row.result none transient c.rows.rows.conn.now c.rows.all.items under moved.survives (moved.mode under.ended) (rw c.in_ok-row.was at moved.same) in
    search rules

pub returns-in_err-push : goal.returns-in_err-push
returns-in_err-push g c =
    let moved = c.next.follows.holds-at-none in
    let now = c.next.follows.lender-at-none.conn.now in
    let under = c.rows.invariant.1 in
    let none : OnOk c.from_residual-in_err-push.result ⊥ = search rules in
    let transient : IfErr c.from_residual-in_err-push.result IsTransient = search rules in
    let answer = passed_over g.S.Store _ _ _ _ c.args.conn.now c.requires.plain now c.from_residual-in_err-push.result none transient c.rows.rows.conn.now c.rows.all.items under moved.survives (moved.mode under.ended) (rw c.in_ok-row.was at moved.same) in
    search rules

pub rows-preserved : goal.rows-preserved
rows-preserved g c =
    let moved = c.next.follows.holds-at-none in
    let now = c.next.follows.lender-at-none.conn.now in
    let under = c.rows.invariant.1 in
    let pushed : c.push.new.self.items ≡ c.rows.all.items ++ c.in_ok-from_row.field-0 ∷ [] = search rules in (
      moved.same_reference ∙ c.rows.invariant.0,
      rw pushed (advanced g.S.Store _ _ _ _ c.args.conn.now c.requires.plain c.rows.rows.conn.now now c.rows.all.items under moved.survives (moved.mode under.ended) c.in-Some.row.now c.in_ok-from_row.field-0
          (rw (c.in_ok-row.was, c.in-Some.is) at moved.ok) (rw c.in_ok-row.was at moved.same) (rw c.in_ok-from_row.was at c.from_row.ensures.shown)),
    )

pub returns : goal.returns
returns g c =
    let answer = stopped g.S.Store _ _ _ _ c.args.conn.now c.requires.plain c.rows.rows.conn.now (Err Store) tt (inr refl) c.rows.all.items c.rows.invariant.1 in
    search rules
