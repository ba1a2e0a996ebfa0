use Rattle.std.proofs.Common.{◌≡◌, ◌∙◌, Some, ap, sym, rules, true, false, length, subst, List, ℕ}
use Rattle.std.specs.Prelude.{slice_get}
use Rattle.lmtp_dialogue.specs.Names.{AreForms}
use Rattle.lmtp_connections.specs.Stands.{FormFollows}
use Rattle.lmtp_connections.specs.declared.demand.Question.{Question}
use Rattle.lmtp_connections.proofs.DemandLemmas.{put_off, account}
use Rattle.lmtp_connections.proofs.connection.LmtpConnection.demand_account.Goals as goal

pub returns-then-not-may_ask : goal.returns-then-not-may_ask
returns-then-not-may_ask c =
    let no : c.may_ask.result ≡ false = search rules in
    put_off c.args.now c.args.self.now c.args.address.now c.requires (c.may_ask.ensures.waited no)

pub returns : goal.returns
returns c =
    let yes : c.may_ask.result ≡ true = search rules in
    let forms = c.in_ok-forms.forms in
    let question : Question = record { user = c.in_ok-user.user; address = c.in_ok-address.address; next = c.following.result } in
    let address : c.in_ok-address.address ≡ c.args.address.now = c.in_ok-address.ensures in
    let there : slice_get forms c.args.self.now.progress.tried ≡ Some c.in_ok-user.user =
    ap (λ (xs : List (List ℕ)). slice_get xs c.args.self.now.progress.tried) (sym c.as_slice.ensures) ∙ (sym c.in-Some.ensures ∙ ap (λ b. Some b) (sym c.in_ok-user.ensures)) in
    let follows : FormFollows c.args.self.now.progress.tried (length forms) c.following.result = subst (λ n. FormFollows c.args.self.now.progress.tried n c.following.result) c.len.ensures c.following.ensures in
    account c.args.now c.args.self.now question forms (rw address c.requires) (subst (λ a. AreForms c.args.self.now.names a forms) (sym address) c.in_ok-forms.ensures) there follows (c.may_ask.ensures.may yes)
