use Rattle.std.proofs.Common.{◌≡◌, rules, sym, ◌∙◌, refl}
use Rattle.store_accounts.specs.declared.refusal.Refusal.TheVariants.{Memory}
use Rattle.store_engine.specs.declared.answer.Answer.TheVariants.{Refused}
use Rattle.store_engine.specs.declared.event.Event.TheVariants.{Open}
use Rattle.store_engine.specs.Hosts.{answer_of}
use Rattle.store_engine.proofs.HostLemmas.{open_twice, open_lacks, opened, lacking}
use Rattle.store_engine.proofs.clients.open.Goals as goal

pub returns-then-contains_key : goal.returns-then-contains_key
returns-then-contains_key c = open_twice c.args.sessions.now c.args.number (sym c.contains_key.ensures ∙ c.if-contains_key.true)

pub returns-in_err-session : goal.returns-in_err-session
returns-in_err-session c =
    let is : answer_of c.from_residual.result ≡ Refused Memory = search rules in
    lacking (Open c.args.number) c.args.sessions.now c.args.sessions.now (answer_of c.from_residual.result) is (open_lacks c.args.sessions.now c.args.number (sym c.contains_key.ensures ∙ c.if-contains_key.false)) refl

pub returns-in-Err : goal.returns-in-Err
returns-in-Err c = lacking (Open c.args.number) c.args.sessions.now c.insert.new.self (Refused Memory) refl (open_lacks c.args.sessions.now c.args.number (sym c.contains_key.ensures ∙ c.if-contains_key.false)) (search rules)

pub returns : goal.returns
returns c =
    opened c.args.sessions.now c.insert.new.self c.args.number c.new.new.out (sym c.contains_key.ensures ∙ c.if-contains_key.false) (search rules) (search rules)
