use Rattle.std.proofs.Common.{◌≡◌, ◌≢◌, ◌≤◌, ◌<◌, ◌∙◌, Ok, Err, Some, length, slice_get, sym, subst, refl, true≢false, w64, arith, rules}
use Rattle.std.proofs.lemmas.Int.{to_z_pos}
use Rattle.std.proofs.lemmas.Option.{slice_get_read}
use Rattle.sqlite.specs.Held.{state}
use Rattle.store_accounts.specs.Account.{Account}
use Rattle.store_accounts.specs.AccountRows.{profile_of}
use Rattle.store_accounts.specs.declared.profile.Profile.{Profile}
use Rattle.store_accounts.specs.Promises.{ReadsOwn}
use Rattle.store_engine.proofs.TogetherLemmas.{AreSame, same_none, same_more, same_end, same_lost, same_all, same_refused}
use Rattle.store_engine.proofs.taking.count_same.Goals as goal

abbrev Known : Profile → Account → Type 0
Known profile a = profile ≡ profile_of a

pub returns-in_err-profile : goal.returns-in_err-profile
returns-in_err-profile g c =
    let is : c.from_residual.result ≡ Err c.in_err-profile.field-0.0 = search rules in
    same_refused c.args.user.now c.args.folder.now c.args.mails.now Known (state g.S.Store c.args.store.now) (state g.S.Store c.profile.new.store) c.in_err-profile.field-0.0 c.from_residual.result is c.in_err-profile.ensures

pub loop-at-init : goal.loop-at-init
loop-at-init g c =
    same_none c.args.user.now c.args.folder.now c.args.mails.now Known (state g.S.Store c.args.store.now) (state g.S.Store c.profile.new.store) c.profile.result c.in_ok-profile.field-0 c.in_ok-profile.was c.profile.ensures

pub returns-in_err-there : goal.returns-in_err-there
returns-in_err-there g c =
    let small : c.loop-at.at < 9223372036854775808 = omega arith in
    let is : c.from_residual-in_err-there.result ≡ Err c.in_err-there.field-0.0 = search rules in
    same_lost c.args.user.now c.args.folder.now c.args.mails.now c.loop-at.at (state g.S.Store c.args.store.now) (state g.S.Store c.loop-at.store) (state g.S.Store c.nth_numbered_of.new.self) c.loop-at.invariant
    c.nth_numbered_of.result (rw (to_z_pos w64 c.loop-at.at small) at c.nth_numbered_of.ensures.finds) c.in_err-there.field-0.0 c.from_residual-in_err-there.result is c.in_err-there.ensures.named

pub returns-then-not-is_same : goal.returns-then-not-is_same
returns-then-not-is_same g c =
    let user = c.args.user.now in
    let folder = c.args.folder.now in
    let mails = c.args.mails.now in
    let n = c.loop-at.at in
    let mail = c.index-mails-at.result in
    let small : n < 9223372036854775808 = omega arith in
    let within : n < length mails = omega (arith, c.loop-at-test.true, c.together-most.ensures.within) in
    let at : slice_get mails n ≡ Some mail = slice_get_read mails (length mails) n mail refl within c.index-mails-at.is in
    let other : c.in_ok-there.there ≢ Some mail = λ e. true≢false (sym (c.is_same.ensures.1 e) ∙ c.if-not-is_same.true) in
    let few : n ≤ 64 = omega (arith, c.loop-at-test.true, c.together-most.ensures.few) in
    same_end user folder mails n (state g.S.Store c.args.store.now) (state g.S.Store c.loop-at.store) (state g.S.Store c.nth_numbered_of.new.self) c.loop-at.invariant c.nth_numbered_of.result (rw (to_z_pos w64 n small) at c.nth_numbered_of.ensures.finds)
    c.in_ok-there.there c.in_ok-there.was mail at other few within

pub loop-at-preserved : goal.loop-at-preserved
loop-at-preserved g c =
    let user = c.args.user.now in
    let folder = c.args.folder.now in
    let mails = c.args.mails.now in
    let n = c.loop-at.at in
    let mail = c.index-mails-at.result in
    let small : n < 9223372036854775808 = omega arith in
    let within : n < length mails = omega (arith, c.loop-at-test.true, c.together-most.ensures.within) in
    let at : slice_get mails n ≡ Some mail = slice_get_read mails (length mails) n mail refl within c.index-mails-at.is in
    same_more user folder mails n (state g.S.Store c.args.store.now) (state g.S.Store c.loop-at.store) (state g.S.Store c.nth_numbered_of.new.self) c.loop-at.invariant c.nth_numbered_of.result (rw (to_z_pos w64 n small) at c.nth_numbered_of.ensures.finds)
    c.in_ok-there.there c.in_ok-there.was mail at (c.is_same.ensures.0 c.if-not-is_same.false)

pub returns : goal.returns
returns g c =
    let user = c.args.user.now in
    let folder = c.args.folder.now in
    let mails = c.args.mails.now in
    let old = state g.S.Store c.args.store.now in
    let new = state g.S.Store c.loop-at.store in
    let all : c.loop-at.at ≡ c.together-most.result = omega (arith, c.loop-at.auto.at-end, c.loop-at-test.false) in
    same_all user folder mails c.together-most.result old new (subst (λ n. ReadsOwn user (AreSame user folder mails) old new (Ok n)) all c.loop-at.invariant) c.together-most.ensures.most c.together-most.ensures.few c.together-most.ensures.within
