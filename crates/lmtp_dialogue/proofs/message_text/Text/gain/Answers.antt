use Rattle.lmtp_dialogue.specs.declared.message_text.TextState.TheVariants.{Start, Dot, DotReturn, Inside, Return}
use Rattle.lmtp_dialogue.proofs.FeedLemmas.{keeps_same, gained_at, dot_return_gains}
use Rattle.lmtp_dialogue.proofs.message_text.Text.gain.Goals as goal

pub returns-in-Start-clause-keeps : goal.returns-in-Start-clause-keeps
returns-in-Start-clause-keeps c = gained_at c.args.self.now c.append_unless.new.self Start c.args.octet c.in-Start.is c.append_unless.ensures.keeps

pub returns-in-Dot-clause-keeps : goal.returns-in-Dot-clause-keeps
returns-in-Dot-clause-keeps c = gained_at c.args.self.now c.append_unless-in-Dot.new.self Dot c.args.octet c.in-Dot.is c.append_unless-in-Dot.ensures.keeps

pub returns-in-DotReturn-2-clause-keeps : goal.returns-in-DotReturn-2-clause-keeps
returns-in-DotReturn-2-clause-keeps c =
    gained_at c.args.self.now c.append.new.self DotReturn c.args.octet c.in-DotReturn.is
    (keeps_same c.args.self.now c.append.new.self _ _ (dot_return_gains c.args.octet c.if-octet-eq10.false) c.append.ensures.keeps)

pub returns-in-Inside-clause-keeps : goal.returns-in-Inside-clause-keeps
returns-in-Inside-clause-keeps c = gained_at c.args.self.now c.append-in-Inside.new.self Inside c.args.octet c.in-Inside.is c.append-in-Inside.ensures.keeps

pub returns-in-Return-clause-keeps : goal.returns-in-Return-clause-keeps
returns-in-Return-clause-keeps c = gained_at c.args.self.now c.append-in-Return.new.self Return c.args.octet c.in-Return.is c.append-in-Return.ensures.keeps
