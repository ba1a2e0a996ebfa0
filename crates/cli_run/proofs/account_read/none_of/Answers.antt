-- The account was entered, and nothing else read.
use Rattle.std.proofs.Common.{◌≡◌, None, refl, rules}
use Rattle.sqlite.specs.Held.{state}
use Rattle.store_accounts.specs.AccountRows.{profile_of}
use Rattle.cli_run.proofs.WordLemmas.{reads_so, reads_not}
use Rattle.cli_run.proofs.account_read.none_of.Goals as goal

pub returns-in_err-enter : goal.returns-in_err-enter
returns-in_err-enter g c =
    reads_not c.args.user.now (λ profile a. profile ≡ profile_of a) (λ message a. message ≡ None) (state g.S.Store c.args.store.now) (state g.S.Store c.enter.new.self) c.enter.result c.in_err-enter.field-0.0 c.from_residual.result
    c.in_err-enter.was (search rules) c.enter.ensures

pub returns : goal.returns
returns g c =
    reads_so c.args.user.now (λ profile a. profile ≡ profile_of a) (λ message a. message ≡ None) (state g.S.Store c.args.store.now) (state g.S.Store c.enter.new.self) c.enter.result c.in_ok-enter.field-0 None _
    c.in_ok-enter.was refl (λ a h. refl) c.enter.ensures
