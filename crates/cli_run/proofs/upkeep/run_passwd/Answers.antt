-- The other password is the first line of what was read, and the line is printed after it is set.
use Rattle.std.proofs.Common.{Ok, Err, ◌≡◌, ◌++◌, codes, ap, ◌∙◌, inl, inr, rules}
use Rattle.std.specs.Option.{option_copied}
use Rattle.store_engine.specs.declared.answer.Answer.TheVariants.{Changed}
use Rattle.store_engine.specs.declared.event.Event.TheVariants.{DoUpkeep}
use Rattle.store_engine.specs.declared.upkeep.Upkeep.TheVariants.{SetPassword}
use Rattle.cli_reports.specs.Reports.{ended_line}
use Rattle.cli_run.specs.Faults.{memory}
use Rattle.cli_run.specs.Promise.{first_line}
use Rattle.cli_run.specs.Serving.{HasDenied}
use Rattle.cli_run.specs.Values.{HasNoSalt}
use Rattle.cli_run.specs.Subcommands.{IsPasswdEvent, DeniedAtEnd, SaltFailed}
use Rattle.cli_run.proofs.WordLemmas.{event_hindered, event_unmade, event_made, put_at_end, wrong, broken, no_memory, unread}
use Rattle.cli_run.proofs.upkeep.run_passwd.Goals as goal

pub returns-in_err-salt-clause-does : goal.returns-in_err-salt-clause-does
returns-in_err-salt-clause-does g c tells =
    let user = c.args.asked in
    event_hindered (SaltFailed (option_copied user.salt) c.args.random) (HasNoSalt (option_copied user.salt)) (DeniedAtEnd (HasDenied g.K.Keeper.refuses g.K.Keeper.will_wait c.args.asked.location) (g.R.Read.remaining c.args.input.now)) (IsPasswdEvent (option_copied user.salt) c.args.random user.user.now (g.R.Read.remaining c.args.input.now)) (g.W.Write.contents c.args.output.now)
    (g.K.Keeper.holds c.args.keeper.now) c.in_err-salt.field-0.0 c.from_residual.result (search rules) (elim c.in_err-salt.ensures.fault [ inl bad ↦ wrong (SaltFailed (option_copied user.salt) c.args.random) (HasNoSalt (option_copied user.salt)) (DeniedAtEnd (HasDenied g.K.Keeper.refuses g.K.Keeper.will_wait c.args.asked.location) (g.R.Read.remaining c.args.input.now)) _ bad.0 bad.1 | inr none ↦ broken (SaltFailed (option_copied user.salt) c.args.random) (HasNoSalt (option_copied user.salt)) (DeniedAtEnd (HasDenied g.K.Keeper.refuses g.K.Keeper.will_wait c.args.asked.location) (g.R.Read.remaining c.args.input.now)) _ none.0 (inr (none.1, none.2)) ])

pub returns-in_err-octets-clause-does : goal.returns-in_err-octets-clause-does
returns-in_err-octets-clause-does g c tells =
    let user = c.args.asked in
    let fault = c.in_err-octets.field-0.0 in
    event_hindered (SaltFailed (option_copied user.salt) c.args.random) (HasNoSalt (option_copied user.salt)) (DeniedAtEnd (HasDenied g.K.Keeper.refuses g.K.Keeper.will_wait c.args.asked.location) (g.R.Read.remaining c.read_all.new.input)) (IsPasswdEvent (option_copied user.salt) c.args.random user.user.now (g.R.Read.remaining c.args.input.now)) (g.W.Write.contents c.args.output.now)
    (g.K.Keeper.holds c.args.keeper.now) fault c.from_residual-in_err-octets.result (search rules) (unread (SaltFailed (option_copied user.salt) c.args.random) (HasNoSalt (option_copied user.salt)) (DeniedAtEnd (HasDenied g.K.Keeper.refuses g.K.Keeper.will_wait c.args.asked.location) (g.R.Read.remaining c.read_all.new.input)) fault c.in_err-octets.ensures.err (λ is. inl (c.in_err-octets.ensures.failed is)))

pub returns-in_err-password-clause-does : goal.returns-in_err-password-clause-does
returns-in_err-password-clause-does g c tells =
    let user = c.args.asked in
    event_hindered (SaltFailed (option_copied user.salt) c.args.random) (HasNoSalt (option_copied user.salt)) (DeniedAtEnd (HasDenied g.K.Keeper.refuses g.K.Keeper.will_wait c.args.asked.location) (g.R.Read.remaining c.read_all.new.input)) (IsPasswdEvent (option_copied user.salt) c.args.random user.user.now (g.R.Read.remaining c.args.input.now)) (g.W.Write.contents c.args.output.now)
    (g.K.Keeper.holds c.args.keeper.now) memory c.from_residual-in_err-password.result (search rules) (no_memory (SaltFailed (option_copied user.salt) c.args.random) (HasNoSalt (option_copied user.salt)) (DeniedAtEnd (HasDenied g.K.Keeper.refuses g.K.Keeper.will_wait c.args.asked.location) (g.R.Read.remaining c.read_all.new.input)))

pub returns-in_err-keep_up-clause-does : goal.returns-in_err-keep_up-clause-does
returns-in_err-keep_up-clause-does g c tells =
    let user = c.args.asked in
    let given = g.R.Read.remaining c.args.input.now in
    let octets = c.in_ok-octets.octets.items in
    let salt = c.in_ok-salt.salt in
    let password = c.in_ok-password.password in
    let event = DoUpkeep c.as_bytes.result.now (SetPassword salt password) in
    let name : c.as_bytes.result.now ≡ user.user.now = search rules in
    let line : password ≡ first_line octets = search rules in
    let same : event ≡ DoUpkeep user.user.now (SetPassword salt (first_line octets)) =
    ap (λ n. DoUpkeep n (SetPassword salt password)) name ∙ ap (λ p. DoUpkeep user.user.now (SetPassword salt p)) line in
    event_unmade (SaltFailed (option_copied user.salt) c.args.random) (HasNoSalt (option_copied user.salt)) (DeniedAtEnd (HasDenied g.K.Keeper.refuses g.K.Keeper.will_wait c.args.asked.location) (g.R.Read.remaining c.read_all.new.input)) (IsPasswdEvent (option_copied user.salt) c.args.random user.user.now given) {X = Unit {0}} event
    (record { octets = octets; read = c.in_ok-octets.ensures.ok; salt = salt; salted = c.in_ok-salt.ensures.ok; same = same }) (λ done. Changed) (g.K.Keeper.holds c.args.keeper.now) (g.K.Keeper.holds c.keep_up.new.keeper)
    (g.W.Write.contents c.args.output.now) c.in_ok-salt.ensures.right c.in_err-keep_up.field-0.0 c.from_residual-in_err-keep_up.result (search rules) (put_at_end {X = Unit {0}} (HasDenied g.K.Keeper.refuses g.K.Keeper.will_wait c.args.asked.location) (g.R.Read.remaining c.read_all.new.input) c.in_ok-octets.ensures.end event (λ done. Changed) (Err c.in_err-keep_up.field-0.0) (g.K.Keeper.holds c.args.keeper.now) (g.K.Keeper.holds c.keep_up.new.keeper) (c.in_err-keep_up.ensures.puts tells))

pub returns-clause-does : goal.returns-clause-does
returns-clause-does g c tells =
    let user = c.args.asked in
    let given = g.R.Read.remaining c.args.input.now in
    let octets = c.in_ok-octets.octets.items in
    let salt = c.in_ok-salt.salt in
    let password = c.in_ok-password.password in
    let event = DoUpkeep c.as_bytes.result.now (SetPassword salt password) in
    let name : c.as_bytes.result.now ≡ user.user.now = search rules in
    let line : password ≡ first_line octets = search rules in
    let same : event ≡ DoUpkeep user.user.now (SetPassword salt (first_line octets)) =
    ap (λ n. DoUpkeep n (SetPassword salt password)) name ∙ ap (λ p. DoUpkeep user.user.now (SetPassword salt p)) line in
    let old = g.W.Write.contents c.args.output.now in
    let new = g.W.Write.contents c.write_line.new.output in
    let told : c.as_bytes-2.result.now ≡ c.as_bytes.result.now = search rules in
    event_made (SaltFailed (option_copied user.salt) c.args.random) (HasNoSalt (option_copied user.salt)) (DeniedAtEnd (HasDenied g.K.Keeper.refuses g.K.Keeper.will_wait c.args.asked.location) (g.R.Read.remaining c.read_all.new.input)) (IsPasswdEvent (option_copied user.salt) c.args.random user.user.now given) {X = Unit {0}} event
    (record { octets = octets; read = c.in_ok-octets.ensures.ok; salt = salt; salted = c.in_ok-salt.ensures.ok; same = same }) (λ done. Changed) (g.K.Keeper.holds c.args.keeper.now) (g.K.Keeper.holds c.keep_up.new.keeper)
    tt (ended_line (codes "changed " ++ c.as_bytes-2.result.now)) (ap (λ n. ended_line (codes "changed " ++ n)) told) (put_at_end {X = Unit {0}} (HasDenied g.K.Keeper.refuses g.K.Keeper.will_wait c.args.asked.location) (g.R.Read.remaining c.read_all.new.input) c.in_ok-octets.ensures.end event (λ done. Changed) (Ok tt) (g.K.Keeper.holds c.args.keeper.now) (g.K.Keeper.holds c.keep_up.new.keeper) (c.in_ok-keep_up.ensures.puts tells)) old new c.write_line.result c.write_line.ensures
