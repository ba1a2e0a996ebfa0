-- What was answered under the lock, or nothing, is what the keeper holds once all is given back.
use Rattle.std.proofs.Common.{Err, ap, ◌∙◌, sym, subst}
use Rattle.sqlite.specs.Effect.{Database}
use Rattle.sqlite.specs.Held.{state}
use Rattle.store_lock.specs.declared.keeper.StoreUnavailable.{StoreUnavailable}
use Rattle.store_accounts.specs.Shows.{OffersAccounts}
use Rattle.cli_run.specs.Serving.{AreSeen, HasGiven, HasNoted, HasOpenStore, IsDeniedBy, Unstopped, WasOut}
use Rattle.cli_run.proofs.ServingLemmas.{answered_as, answered_back, answered_none, closed_so, kept_then, noted_or_busy, noted_then}
use Rattle.cli_run.proofs.session.answer_under_lock.Goals as goal

pub returns-in-Err-clause-answers : goal.returns-in-Err-clause-answers
returns-in-Err-clause-answers g c tells accounts shown =
    answered_none Unstopped (WasOut g.K.Keeper.gives g.K.Keeper.will_wait g.K.Keeper.closes c.args.location (HasNoted c.note_denial.new.first_fault)) accounts c.args.session.now.client c.args.answers.now (OffersAccounts (g.K.Keeper.holds c.lock.new.self)) (subst (λ (db : Database). OffersAccounts db accounts) (sym (c.lock.ensures.same tells ∙ c.wait_for_lock.ensures.same tells)) shown)

pub returns-in-Ok-clause-answers : goal.returns-in-Ok-clause-answers
returns-in-Ok-clause-answers g c tells accounts shown =
    let given = WasOut g.K.Keeper.gives g.K.Keeper.will_wait g.K.Keeper.closes c.args.location (HasNoted c.note_refusal.new.first_fault) in
    let closed = closed_so g.K.Keeper.closes c.answer_ready-answered.new.keeper c.answer_ready-answered.new.store c.give_back-unclosed.result (HasNoted c.note_refusal.new.first_fault) c.give_back-unclosed.ensures.told c.note_refusal.ensures.noted in
    answered_back Unstopped given (HasGiven g.K.Keeper.gives g.K.Keeper.will_wait c.args.location) (λ s. (state g.K.S.Store s).now) (g.K.Keeper.holds c.answer_ready-answered.new.keeper) (g.K.Keeper.holds c.give_back-unclosed.new.keeper) c.answer_ready-answered.new.store (c.give_back-unclosed.ensures.held tells)
    accounts c.args.session.now.client c.answer_ready-answered.new.session.client c.args.answers.now c.answer_ready-answered.new.answers
    (answered_as Unstopped Unstopped (HasOpenStore g.K.Keeper.gives g.K.Keeper.will_wait c.args.location c.answer_ready-answered.new.store) given (λ x never. never) (λ was. (was.0, closed was.1)) accounts c.args.session.now.client c.args.answers.now c.answer_ready-answered.new.answers c.answer_ready-answered.new.session.client (AreSeen (HasGiven g.K.Keeper.gives g.K.Keeper.will_wait c.args.location) (λ s. (state g.K.S.Store s).now) (g.K.Keeper.holds c.answer_ready-answered.new.keeper) c.answer_ready-answered.new.store)
    (c.answer_ready-answered.ensures.answers tells accounts (subst (λ (db : Database). OffersAccounts db accounts) (sym (c.lock.ensures.same tells ∙ c.wait_for_lock.ensures.same tells)) shown)))

pub returns-in-Err-answered-clause-answers : goal.returns-in-Err-answered-clause-answers
returns-in-Err-answered-clause-answers g c tells accounts shown =
    let given = WasOut g.K.Keeper.gives g.K.Keeper.will_wait g.K.Keeper.closes c.args.location (HasNoted c.note_refusal-in-Err-answered.new.first_fault) in
    let closed = closed_so g.K.Keeper.closes c.answer_ready-answered.new.keeper c.answer_ready-answered.new.store c.give_back-unclosed.result (HasNoted c.note_refusal-in-Err-answered.new.first_fault) c.give_back-unclosed.ensures.told c.note_refusal-in-Err-answered.ensures.noted in
    answered_back Unstopped given (HasGiven g.K.Keeper.gives g.K.Keeper.will_wait c.args.location) (λ s. (state g.K.S.Store s).now) (g.K.Keeper.holds c.answer_ready-answered.new.keeper) (g.K.Keeper.holds c.give_back-unclosed.new.keeper) c.answer_ready-answered.new.store (c.give_back-unclosed.ensures.held tells)
    accounts c.args.session.now.client c.answer_ready-answered.new.session.client c.args.answers.now c.answer_ready-answered.new.answers
    (answered_as Unstopped Unstopped (HasOpenStore g.K.Keeper.gives g.K.Keeper.will_wait c.args.location c.answer_ready-answered.new.store) given (λ x never. never) (λ was. (was.0, closed was.1)) accounts c.args.session.now.client c.args.answers.now c.answer_ready-answered.new.answers c.answer_ready-answered.new.session.client (AreSeen (HasGiven g.K.Keeper.gives g.K.Keeper.will_wait c.args.location) (λ s. (state g.K.S.Store s).now) (g.K.Keeper.holds c.answer_ready-answered.new.keeper) c.answer_ready-answered.new.store)
    (c.answer_ready-answered.ensures.answers tells accounts (subst (λ (db : Database). OffersAccounts db accounts) (sym (c.lock.ensures.same tells ∙ c.wait_for_lock.ensures.same tells)) shown)))

pub returns-in-Err-clause-noted : goal.returns-in-Err-clause-noted
returns-in-Err-clause-noted g c was idle =
    let Denied = IsDeniedBy g.K.Keeper.refuses g.K.Keeper.will_wait c.args.location in
    let keeper = c.wait_for_lock.new.self in
    let free = c.wait_for_lock.ensures.kept ∙ idle in
    noted_or_busy Denied c.note_denial.new.first_fault c.in-Err.denial c.note_denial.ensures.noted (λ is. (keeper, subst (g.K.Keeper.refuses keeper c.args.location.path.now) is (c.in-Err.ensures.denied free), c.wait_for_lock.ensures.asked))

pub returns-in-Err-answered-clause-noted : goal.returns-in-Err-answered-clause-noted
returns-in-Err-answered-clause-noted g c was idle =
    let Denied = IsDeniedBy g.K.Keeper.refuses g.K.Keeper.will_wait c.args.location in
    noted_then Denied c.note_denial-in-Err-answered.new.first_fault c.note_refusal-in-Err-answered.new.first_fault c.note_refusal-in-Err-answered.ensures.later
    (noted_or_busy Denied c.note_denial-in-Err-answered.new.first_fault c.in-Err-answered.denial c.note_denial-in-Err-answered.ensures.noted (λ is. c.in-Err-answered.ensures.busy (ap (λ (d : StoreUnavailable). Err d) is)))

pub returns-in-Err-answered-clause-kept : goal.returns-in-Err-answered-clause-kept
returns-in-Err-answered-clause-kept g c =
    kept_then c.args.first_fault.now c.note_denial-in-Err-answered.new.first_fault c.note_refusal-in-Err-answered.new.first_fault (c.note_denial-in-Err-answered.ensures.told, c.note_denial-in-Err-answered.ensures.later) (c.note_refusal-in-Err-answered.ensures.told, c.note_refusal-in-Err-answered.ensures.later)
