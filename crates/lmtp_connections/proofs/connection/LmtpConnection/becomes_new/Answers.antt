use Rattle.std.proofs.Common.{◌≡◌, rules, true, false}
use Rattle.lmtp_dialogue.specs.Copies.{was_delivered}
use Rattle.lmtp_connections.specs.Connections.{has_long_text_header}
use Rattle.lmtp_connections.proofs.DemandLemmas.{too_long, goes_round, puts_off, due}
use Rattle.lmtp_connections.proofs.connection.LmtpConnection.becomes_new.Goals as goal

pub returns-then-has_long_header : goal.returns-then-has_long_header
returns-then-has_long_header c =
    let is : has_long_text_header c.args.text.now ≡ true = search rules in
    too_long c.args.now c.args.self.now c.args.addressee.now c.args.text.now c.requires.fresh is

pub returns-then-branch : goal.returns-then-branch
returns-then-branch c =
    let is : was_delivered c.args.addressee.now.address c.args.text.now ≡ true = search rules in
    goes_round c.args.now c.args.self.now c.args.addressee.now c.args.text.now c.requires.fresh is

pub returns-then-not-may_ask : goal.returns-then-not-may_ask
returns-then-not-may_ask c =
    let headed : has_long_text_header c.args.text.now ≡ false = search rules in
    let is : was_delivered c.args.addressee.now.address c.args.text.now ≡ false = search rules in
    let no : c.may_ask.result ≡ false = search rules in
    puts_off c.args.now c.args.self.now c.args.addressee.now c.args.text.now c.requires.fresh c.requires.once headed is (c.may_ask.ensures.waited no)

pub returns : goal.returns
returns c =
    let headed : has_long_text_header c.args.text.now ≡ false = search rules in
    let is : was_delivered c.args.addressee.now.address c.args.text.now ≡ false = search rules in
    let yes : c.may_ask.result ≡ true = search rules in
    due c.args.now c.args.self.now c.args.addressee.now c.args.text.now c.requires.fresh c.requires.once headed is (c.may_ask.ensures.may yes)
