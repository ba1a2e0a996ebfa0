-- What stood ready was answered, and what couldn't be was given up after it.
use Rattle.std.proofs.Common.{◌≡◌, ℕ, List, [], Err, ◌∙◌, sym, subst, rules}
use Rattle.store_accounts.specs.Shows.{OffersAccounts}
use Rattle.cli_run.specs.Serving.{RoundsAnswer, HasNoted, StopsServing, Unstopped, WasOut, RoundsWrite, WritesFirst}
use Rattle.cli_run.proofs.ServingLemmas.{answered_as, first_given_up, first_on, first_written, never_stops}
use Rattle.cli_run.proofs.session.answer_some.Goals as goal
use Rattle.cli_run.specs.Transitions.{from_to}

pub returns-in_err-write_all-clause-answers : goal.returns-in_err-write_all-clause-answers
returns-in_err-write_all-clause-answers g c tells idle accounts shown =
    let out = g.W.Write.contents c.args.output.now in
    let stop = StopsServing g.K.Keeper.refuses g.K.Keeper.will_wait c.args.location (HasNoted c.answer_under_lock-answered.new.first_fault) in
    let given = WasOut g.K.Keeper.gives g.K.Keeper.will_wait g.K.Keeper.closes c.args.location (HasNoted c.answer_under_lock-answered.new.first_fault) in
    let m = c.answer_under_lock-answered.new.session.client in
    let new = g.K.Keeper.holds c.answer_under_lock-answered.new.keeper in
    let empty : c.new-answers.result ≡ [] = search rules in
    let text : c.answer_under_lock-answered.new.answers ≡ c.as_slice.result.now = search rules in
    let is : c.from_residual.result ≡ Err c.in_err-write_all.field-0.0 = search rules in
    let answered : RoundsAnswer stop given accounts (from_to c.args.session.now.client m) (from_to [] c.as_slice.result.now) (OffersAccounts new) =
    subst (λ (w : List ℕ). RoundsAnswer stop given accounts (from_to c.args.session.now.client m) (from_to [] w) (OffersAccounts new)) text
    (subst (λ (w : List ℕ). RoundsAnswer stop given accounts (from_to c.args.session.now.client m) (from_to w c.answer_under_lock-answered.new.answers) (OffersAccounts new)) empty (answered_as Unstopped stop given given (never_stops stop) (λ out. out) accounts c.args.session.now.client _ c.answer_under_lock-answered.new.answers m (OffersAccounts new) (c.answer_under_lock-answered.ensures.answers tells accounts shown))) in
    subst (WritesFirst stop given accounts (from_to c.args.session.now.client m) (from_to out (g.W.Write.contents c.write_all.new.output)) new) (c.in_err-write_all.was ∙ sym is)
    (first_written stop given accounts c.args.session.now.client m out (g.W.Write.contents c.write_all.new.output) c.as_slice.result.now new answered c.write_all.result c.write_all.ensures)

pub returns-then-answered-clause-answers : goal.returns-then-answered-clause-answers
returns-then-answered-clause-answers g c tells idle accounts shown =
    let out = g.W.Write.contents c.args.output.now in
    let stop = StopsServing g.K.Keeper.refuses g.K.Keeper.will_wait c.args.location (HasNoted c.answer_under_lock-answered.new.first_fault) in
    let given = WasOut g.K.Keeper.gives g.K.Keeper.will_wait g.K.Keeper.closes c.args.location (HasNoted c.answer_under_lock-answered.new.first_fault) in
    let m = c.answer_under_lock-answered.new.session.client in
    let new = g.K.Keeper.holds c.answer_under_lock-answered.new.keeper in
    let empty : c.new-answers.result ≡ [] = search rules in
    let text : c.answer_under_lock-answered.new.answers ≡ c.as_slice.result.now = search rules in
    let answered : RoundsAnswer stop given accounts (from_to c.args.session.now.client m) (from_to [] c.as_slice.result.now) (OffersAccounts new) =
    subst (λ (w : List ℕ). RoundsAnswer stop given accounts (from_to c.args.session.now.client m) (from_to [] w) (OffersAccounts new)) text
    (subst (λ (w : List ℕ). RoundsAnswer stop given accounts (from_to c.args.session.now.client m) (from_to w c.answer_under_lock-answered.new.answers) (OffersAccounts new)) empty (answered_as Unstopped stop given given (never_stops stop) (λ out. out) accounts c.args.session.now.client _ c.answer_under_lock-answered.new.answers m (OffersAccounts new) (c.answer_under_lock-answered.ensures.answers tells accounts shown))) in
    subst (WritesFirst stop given accounts (from_to c.args.session.now.client m) (from_to out (g.W.Write.contents c.write_all.new.output)) new) c.in_ok-write_all.was
    (first_written stop given accounts c.args.session.now.client m out (g.W.Write.contents c.write_all.new.output) c.as_slice.result.now new answered c.write_all.result c.write_all.ensures)

pub returns-clause-answers : goal.returns-clause-answers
returns-clause-answers g c tells idle accounts shown =
    let out = g.W.Write.contents c.args.output.now in
    let out2 = g.W.Write.contents c.write_all.new.output in
    let out3 = g.W.Write.contents c.write_all-2.new.output in
    let stop = StopsServing g.K.Keeper.refuses g.K.Keeper.will_wait c.args.location (HasNoted c.answer_under_lock-answered.new.first_fault) in
    let given = WasOut g.K.Keeper.gives g.K.Keeper.will_wait g.K.Keeper.closes c.args.location (HasNoted c.answer_under_lock-answered.new.first_fault) in
    let m = c.answer_under_lock-answered.new.session.client in
    let new = g.K.Keeper.holds c.answer_under_lock-answered.new.keeper in
    let empty : c.new-answers.result ≡ [] = search rules in
    let text : c.answer_under_lock-answered.new.answers ≡ c.as_slice.result.now = search rules in
    let answered : RoundsAnswer stop given accounts (from_to c.args.session.now.client m) (from_to [] c.as_slice.result.now) (OffersAccounts new) =
    subst (λ (w : List ℕ). RoundsAnswer stop given accounts (from_to c.args.session.now.client m) (from_to [] w) (OffersAccounts new)) text
    (subst (λ (w : List ℕ). RoundsAnswer stop given accounts (from_to c.args.session.now.client m) (from_to w c.answer_under_lock-answered.new.answers) (OffersAccounts new)) empty (answered_as Unstopped stop given given (never_stops stop) (λ out. out) accounts c.args.session.now.client _ c.answer_under_lock-answered.new.answers m (OffersAccounts new) (c.answer_under_lock-answered.ensures.answers tells accounts shown))) in
    let written : RoundsWrite stop given accounts (from_to c.args.session.now.client m) (from_to out out2) new =
    subst (WritesFirst stop given accounts (from_to c.args.session.now.client m) (from_to out out2) new) c.in_ok-write_all.was
    (first_written stop given accounts c.args.session.now.client m out out2 c.as_slice.result.now new answered c.write_all.result c.write_all.ensures) in
    first_on stop given accounts c.args.session.now.client m c.give_up.new.self.client out out2 out3 new new written c.write_all-2.result
    (λ a there. first_given_up stop given a m c.give_up.new.self.client out2 out3 c.give_up.result.now new (c.answer_under_lock-answered.ensures.stopped c.if-answered.false) (c.answer_under_lock-answered.ensures.cause c.if-answered.false idle, c.answer_under_lock-answered.ensures.noted c.if-answered.false idle) there
    c.give_up.ensures.text c.give_up.ensures.client c.write_all-2.result c.write_all-2.ensures)
