use Rattle.std.proofs.Common.{Ok, Err, inl, inr, refl, subst}
use Rattle.sqlite.specs.Held.{state}
use Rattle.store_accounts.specs.declared.refusal.Refusal.TheVariants.{Memory, NoRow, NoUser}
use Rattle.store_engine.specs.Takings.{ActsMailTakings, TakesLongestRun}
use Rattle.maildir_moves.specs.declared.moving.Moving.TheVariants as moving
use Rattle.maildir_moves.proofs.MoveLemmas.{acts_clean, acts_of, batch_gone, batch_left, batch_refused, no_row_lasts, no_user_lasts, run_of, still_on, still_transient}
use Rattle.maildir_moves.proofs.StepLemmas.{lost_account, lost_front, takes_gone, takes_left, takes_none, takes_not}
use Rattle.maildir_moves.proofs.route.take_out.Goals as goal

pub returns-in_default-clause-moves : goal.returns-in_default-clause-moves
returns-in_default-clause-moves g c = still_on (moving.Failed Memory) (state g.S.Store c.args.store.now) tt

pub returns-in_default-clause-takes : goal.returns-in_default-clause-takes
returns-in_default-clause-takes g c = takes_not c.args.at c.args.route.now.load (state g.S.Store c.args.store.now) (state g.S.Store c.args.store.now) Memory c.requires.there c.requires.idle

-- ---- some left

pub returns-in-Ok-take_mails-clause-moves : goal.returns-in-Ok-take_mails-clause-moves
returns-in-Ok-take_mails-clause-moves g c =
    let old = state g.S.Store c.args.store.now in
    let new = state g.S.Store c.take_mails.new.store in
    batch_left c.in-Ok.batch old new c.in-Ok-take_mails.count c.moved.result c.moved.ensures.left
    (acts_of c.in-Ok.batch c.as_slice-user.result.now c.as_slice-folder.result.now c.as_slice.result.now old new (Ok c.in-Ok-take_mails.count) c.as_slice-user.ensures c.as_slice-folder.ensures c.as_slice.ensures c.in-Ok-take_mails.ensures.acts)

pub returns-in-Ok-take_mails-clause-clean : goal.returns-in-Ok-take_mails-clause-clean
returns-in-Ok-take_mails-clause-clean g c =
    let old = state g.S.Store c.args.store.now in
    let new = state g.S.Store c.take_mails.new.store in
    acts_clean c.in-Ok.batch old new (Ok c.in-Ok-take_mails.count)
    (acts_of c.in-Ok.batch c.as_slice-user.result.now c.as_slice-folder.result.now c.as_slice.result.now old new (Ok c.in-Ok-take_mails.count) c.as_slice-user.ensures c.as_slice-folder.ensures c.as_slice.ensures c.in-Ok-take_mails.ensures.acts)

pub returns-in-Ok-take_mails-clause-takes : goal.returns-in-Ok-take_mails-clause-takes
returns-in-Ok-take_mails-clause-takes g c =
    let old = state g.S.Store c.args.store.now in
    let new = state g.S.Store c.take_mails.new.store in
    takes_left c.args.at c.args.route.now.load c.moved.new.self.load c.in-Ok.batch old new c.in-Ok.ensures c.requires.idle c.in-Ok-take_mails.count c.moved.ensures.load c.moved.result c.moved.ensures.left
    (run_of c.in-Ok.batch c.as_slice-user.result.now c.as_slice-folder.result.now c.as_slice.result.now old new (Ok c.in-Ok-take_mails.count) c.as_slice-user.ensures c.as_slice-folder.ensures c.as_slice.ensures c.in-Ok-take_mails.ensures.numbered)

-- ---- the first one isn't the first of its folder

pub returns-in-NoRow-clause-moves : goal.returns-in-NoRow-clause-moves
returns-in-NoRow-clause-moves g c =
    let old = state g.S.Store c.args.store.now in
    let new = state g.S.Store c.take_mails.new.store in
    let acts = acts_of c.in-Ok.batch c.as_slice-user.result.now c.as_slice-folder.result.now c.as_slice.result.now old new (Err c.in-Err.refusal) c.as_slice-user.ensures c.as_slice-folder.ensures c.as_slice.ensures c.in-Err.ensures.acts in
    batch_gone c.in-Ok.batch old new NoRow c.forget.result c.forget.ensures.passed no_row_lasts (subst (λ e. ActsMailTakings c.in-Ok.batch.user c.in-Ok.batch.folder c.in-Ok.batch.mails old new (Err e)) c.in-NoRow.is acts)

pub returns-in-NoRow-clause-clean : goal.returns-in-NoRow-clause-clean
returns-in-NoRow-clause-clean g c =
    let old = state g.S.Store c.args.store.now in
    let new = state g.S.Store c.take_mails.new.store in
    acts_clean c.in-Ok.batch old new (Err c.in-Err.refusal)
    (acts_of c.in-Ok.batch c.as_slice-user.result.now c.as_slice-folder.result.now c.as_slice.result.now old new (Err c.in-Err.refusal) c.as_slice-user.ensures c.as_slice-folder.ensures c.as_slice.ensures c.in-Err.ensures.acts)

pub returns-in-NoRow-clause-takes : goal.returns-in-NoRow-clause-takes
returns-in-NoRow-clause-takes g c =
    let old = state g.S.Store c.args.store.now in
    let new = state g.S.Store c.take_mails.new.store in
    let run = run_of c.in-Ok.batch c.as_slice-user.result.now c.as_slice-folder.result.now c.as_slice.result.now old new (Err c.in-Err.refusal) c.as_slice-user.ensures c.as_slice-folder.ensures c.as_slice.ensures c.in-Err.ensures.numbered in
    takes_gone c.args.at c.args.route.now.load c.forget.new.self.load c.in-Ok.batch old new c.in-Ok.ensures c.requires.idle 1 c.forget.ensures.load c.forget.result c.forget.ensures.passed
    (inl (refl, lost_front c.in-Ok.batch old new (subst (λ e. TakesLongestRun c.in-Ok.batch.user c.in-Ok.batch.folder c.in-Ok.batch.mails old new (Err e)) c.in-NoRow.is run)))

-- ---- its account is away

pub returns-in-NoUser-clause-moves : goal.returns-in-NoUser-clause-moves
returns-in-NoUser-clause-moves g c =
    let old = state g.S.Store c.args.store.now in
    let new = state g.S.Store c.take_mails.new.store in
    let acts = acts_of c.in-Ok.batch c.as_slice-user.result.now c.as_slice-folder.result.now c.as_slice.result.now old new (Err c.in-Err.refusal) c.as_slice-user.ensures c.as_slice-folder.ensures c.as_slice.ensures c.in-Err.ensures.acts in
    batch_gone c.in-Ok.batch old new NoUser c.forget-in-NoUser.result c.forget-in-NoUser.ensures.passed no_user_lasts (subst (λ e. ActsMailTakings c.in-Ok.batch.user c.in-Ok.batch.folder c.in-Ok.batch.mails old new (Err e)) c.in-NoUser.is acts)

pub returns-in-NoUser-clause-clean : goal.returns-in-NoUser-clause-clean
returns-in-NoUser-clause-clean g c =
    let old = state g.S.Store c.args.store.now in
    let new = state g.S.Store c.take_mails.new.store in
    acts_clean c.in-Ok.batch old new (Err c.in-Err.refusal)
    (acts_of c.in-Ok.batch c.as_slice-user.result.now c.as_slice-folder.result.now c.as_slice.result.now old new (Err c.in-Err.refusal) c.as_slice-user.ensures c.as_slice-folder.ensures c.as_slice.ensures c.in-Err.ensures.acts)

pub returns-in-NoUser-clause-takes : goal.returns-in-NoUser-clause-takes
returns-in-NoUser-clause-takes g c =
    let old = state g.S.Store c.args.store.now in
    let new = state g.S.Store c.take_mails.new.store in
    let acts = acts_of c.in-Ok.batch c.as_slice-user.result.now c.as_slice-folder.result.now c.as_slice.result.now old new (Err c.in-Err.refusal) c.as_slice-user.ensures c.as_slice-folder.ensures c.as_slice.ensures c.in-Err.ensures.acts in
    takes_gone c.args.at c.args.route.now.load c.forget-in-NoUser.new.self.load c.in-Ok.batch old new c.in-Ok.ensures c.requires.idle c.len.result c.forget-in-NoUser.ensures.load c.forget-in-NoUser.result c.forget-in-NoUser.ensures.passed
    (inr (c.len.ensures, lost_account c.in-Ok.batch old new (subst (λ e. ActsMailTakings c.in-Ok.batch.user c.in-Ok.batch.folder c.in-Ok.batch.mails old new (Err e)) c.in-NoUser.is acts)))

-- ---- it waits

pub returns-in_default-refusal-clause-moves : goal.returns-in_default-refusal-clause-moves
returns-in_default-refusal-clause-moves g c =
    let old = state g.S.Store c.args.store.now in
    let new = state g.S.Store c.take_mails.new.store in
    let acts = acts_of c.in-Ok.batch c.as_slice-user.result.now c.as_slice-folder.result.now c.as_slice.result.now old new (Err c.in-Err.refusal) c.as_slice-user.ensures c.as_slice-folder.ensures c.as_slice.ensures c.in-Err.ensures.acts in
    batch_refused c.in-Ok.batch old new c.in-Err.refusal c.refuse.result c.refuse.ensures.left
    (still_transient c.in-Err.refusal c.in-Err.ensures.named c.in_default-refusal.not-NoUser c.in_default-refusal.not-NoRow) acts

pub returns-in_default-refusal-clause-clean : goal.returns-in_default-refusal-clause-clean
returns-in_default-refusal-clause-clean g c =
    let old = state g.S.Store c.args.store.now in
    let new = state g.S.Store c.take_mails.new.store in
    acts_clean c.in-Ok.batch old new (Err c.in-Err.refusal)
    (acts_of c.in-Ok.batch c.as_slice-user.result.now c.as_slice-folder.result.now c.as_slice.result.now old new (Err c.in-Err.refusal) c.as_slice-user.ensures c.as_slice-folder.ensures c.as_slice.ensures c.in-Err.ensures.acts)

pub returns-in_default-refusal-clause-takes : goal.returns-in_default-refusal-clause-takes
returns-in_default-refusal-clause-takes g c =
    takes_none c.args.at c.args.route.now.load c.refuse.new.self.load c.in-Ok.batch (state g.S.Store c.args.store.now) (state g.S.Store c.take_mails.new.store) c.in-Ok.ensures c.requires.idle
    c.in-Err.refusal c.refuse.result c.refuse.ensures.left c.refuse.ensures.load
