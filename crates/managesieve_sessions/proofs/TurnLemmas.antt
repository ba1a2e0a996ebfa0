-- What a command comes to, from what was answered.
use Rattle.std.proofs.Common.{◌≡◌, ℕ, List, refl, sym, subst}
use Rattle.managesieve_protocol.specs.declared.commands.ClientCommand.{ClientCommand}
use Rattle.managesieve_protocol.specs.declared.commands.ClientCommand.TheVariants.{CheckScript}
use Rattle.managesieve_protocol.specs.declared.replies.ServerReply.{ServerReply}
use Rattle.store_accounts.specs.Account.{Accounts}
use Rattle.managesieve_sessions.specs.declared.command_outcome.CommandOutcome.{CommandOutcome}
use Rattle.managesieve_sessions.specs.declared.command_outcome.SessionChange.TheVariants.{Stay}
use Rattle.managesieve_sessions.specs.Clients.{Client}
use Rattle.managesieve_sessions.specs.Scripts.{RepliesToCheck}
use Rattle.managesieve_sessions.specs.CommandOutcomes.{IsCommandOutcome}

-- a text was checked, whose command this is
pub checked : (Fits : Accounts → Client → Type 0) (command : ClientCommand) (text seen : List ℕ) (reply : ServerReply) (turn : CommandOutcome) → command ≡ CheckScript text → seen ≡ text → RepliesToCheck seen reply
    → turn ≡ record { reply = reply; session_change = Stay } → IsCommandOutcome Fits command turn
checked Fits command text seen reply turn at same right is =
    let replies = subst (λ (t : List ℕ). RepliesToCheck t reply) same right in
    subst (λ (c : ClientCommand). IsCommandOutcome Fits c turn) (sym at)
    (subst (λ (t : CommandOutcome). IsCommandOutcome Fits (CheckScript text) t) (sym is) (record { replies = λ accounts c fits. replies; session = λ accounts c fits. refl }))
