-- The message with the number is the one that stands that far in the folder.
use Rattle.std.proofs.Common.{◌≡◌, suc, rules}
use Prim.Native.Nat.{zero}
use Rattle.sqlite.specs.Held.{state}
use Rattle.cli_run.proofs.WordLemmas.{message_read, message_none}
use Rattle.cli_run.proofs.account_read.MessageOfAccountRead.read.Goals as goal

pub returns-in-Some : goal.returns-in-Some
returns-in-Some g c =
    let is : c.args.self.now.2 ≡ suc c.in-Some.at = search rules in
    message_read c.as_bytes-user.result.now c.args.self.now.0.now c.as_bytes.result.now c.args.self.now.1.now c.args.self.now.2 c.in-Some.at c.as_bytes-user.ensures.value c.as_bytes.ensures.value is
    (state g.S.Store c.args.store.now) (state g.S.Store c.message_at.new.self) c.message_at.result c.message_at.ensures

pub returns-in-None : goal.returns-in-None
returns-in-None g c =
    let is : c.args.self.now.2 ≡ zero = search rules in
    message_none c.as_bytes-user.result.now c.args.self.now.0.now c.args.self.now.1.now c.args.self.now.2 c.as_bytes-user.ensures.value is
    (state g.S.Store c.args.store.now) (state g.S.Store c.none_of.new.store) c.none_of.result c.none_of.ensures
