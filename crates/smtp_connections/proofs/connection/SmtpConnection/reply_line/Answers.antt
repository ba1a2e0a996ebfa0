use Rattle.std.proofs.Common.{take, ap, ◌∙◌, subst}
use Rattle.lmtp_dialogue.specs.Lines.{LineFinds}
use Rattle.lmtp_dialogue.specs.declared.command_line.Found.TheVariants.{Need, Line, TooLong}
use Rattle.smtp_connections.proofs.connection.SmtpConnection.reply_line.Goals as goal

pub returns-in-Line : goal.returns-in-Line
returns-in-Line c =
    let same = c.as_slice-heard.ensures in
    (Line c.in-Line.count, subst (LineFinds (Line c.in-Line.count)) same c.in-Line.ensures, c.front.ensures ∙ ap (take c.in-Line.count) same)

pub returns-in-Need : goal.returns-in-Need
returns-in-Need c = (Need, subst (LineFinds Need) c.as_slice-heard.ensures c.in-Need.ensures, c.front-in-Need.ensures)

pub returns-in-TooLong : goal.returns-in-TooLong
returns-in-TooLong c = (TooLong, subst (LineFinds TooLong) c.as_slice-heard.ensures c.in-TooLong.ensures, c.front-in-TooLong.ensures)
