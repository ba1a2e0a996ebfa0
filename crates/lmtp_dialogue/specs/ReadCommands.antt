-- What a command line asks for, or how it is refused whatever came before it.
use Rattle.std.specs.Prelude.{◌≡◌, ◌≢◌, ◌⊎◌, ℕ, List, [], Ok, Err}
use Rattle.lmtp_dialogue.specs.Arguments.{ReadsMail, ReadsRecipient}
use Rattle.lmtp_dialogue.specs.Commands.{IsCommandLine}
use Rattle.lmtp_dialogue.specs.declared.argument.ArgumentFault.TheVariants.{Syntax, Address, Parameter}
use Rattle.lmtp_dialogue.specs.declared.command.LmtpCommand.{LmtpCommand}
use Rattle.lmtp_dialogue.specs.declared.command.LmtpCommand.TheVariants as command
use Rattle.lmtp_dialogue.specs.declared.reply.LmtpReply.{LmtpReply}
use Rattle.lmtp_dialogue.specs.declared.reply.LmtpReply.TheVariants as reply
use Rattle.lmtp_dialogue.specs.declared.verb.LmtpVerb.{LmtpVerb}
use Rattle.lmtp_dialogue.specs.declared.verb.LmtpVerb.TheVariants as verb

-- the line is that command, about something
abbrev pub SaysCommand : List ℕ → LmtpVerb → (List ℕ → Type 0) → Type 0
SaysCommand line word About = (argument : List ℕ) × IsCommandLine line word argument × About argument

abbrev pub Anything : List ℕ → Type 0
Anything argument = Unit {0}

abbrev pub Nothing : List ℕ → Type 0
Nothing argument = argument ≡ []

abbrev pub Something : List ℕ → Type 0
Something argument = argument ≢ []

-- something follows the word that may not: no name, something where nothing may follow, or neither `FROM:` nor `TO:`
abbrev pub MisArgues : List ℕ → Type 0
MisArgues line =
    SaysCommand line verb.Lhlo Nothing
    ⊎ (SaysCommand line verb.Data Something ⊎ (SaysCommand line verb.Rset Something ⊎ (SaysCommand line verb.Quit Something
    ⊎ (SaysCommand line verb.Mail (λ a. ReadsMail a (Err Syntax)) ⊎ SaysCommand line verb.Rcpt (λ a. ReadsRecipient a (Err Syntax))))))

-- how a command line is refused, whatever came before it
abbrev pub IsCommandRefused : List ℕ → LmtpReply → Type 0
IsCommandRefused line reply.UnknownCommand = (word : LmtpVerb) (argument : List ℕ) → IsCommandLine line word argument → ⊥
IsCommandRefused line reply.NotSmtp = SaysCommand line verb.Helo Anything ⊎ SaysCommand line verb.Ehlo Anything
IsCommandRefused line reply.BadArgument = MisArgues line
IsCommandRefused line reply.BadSender = SaysCommand line verb.Mail (λ a. ReadsMail a (Err Address))
IsCommandRefused line reply.BadRecipient = SaysCommand line verb.Rcpt (λ a. ReadsRecipient a (Err Address))
IsCommandRefused line reply.BadParameter = SaysCommand line verb.Mail (λ a. ReadsMail a (Err Parameter)) ⊎ SaysCommand line verb.Rcpt (λ a. ReadsRecipient a (Err Parameter))
IsCommandRefused line other = ⊥

-- what a command line asks for
abbrev pub ReadsLmtpCommand : List ℕ → LmtpCommand → Type 0
ReadsLmtpCommand line (command.Lhlo name) = IsCommandLine line verb.Lhlo name.now × Something name.now
ReadsLmtpCommand line (command.Mail mail) = SaysCommand line verb.Mail (λ a. ReadsMail a (Ok (record { from = mail.from.now; size = mail.size })))
ReadsLmtpCommand line (command.Rcpt address) = SaysCommand line verb.Rcpt (λ a. ReadsRecipient a (Ok address.now))
ReadsLmtpCommand line command.Data = SaysCommand line verb.Data Nothing
ReadsLmtpCommand line command.Rset = SaysCommand line verb.Rset Nothing
ReadsLmtpCommand line command.Noop = SaysCommand line verb.Noop Anything
ReadsLmtpCommand line command.Vrfy = SaysCommand line verb.Vrfy Anything
ReadsLmtpCommand line command.Help = SaysCommand line verb.Help Anything
ReadsLmtpCommand line command.Quit = SaysCommand line verb.Quit Nothing
ReadsLmtpCommand line (command.Refused reply) = IsCommandRefused line reply

-- ---- what follows a command's word

abbrev pub ReadsName : List ℕ → LmtpCommand → Type 0
ReadsName argument (command.Lhlo name) = (name.now ≡ argument) × Something argument
ReadsName argument (command.Refused reply.BadArgument) = Nothing argument
ReadsName argument other = ⊥

abbrev pub ReadsSender : List ℕ → LmtpCommand → Type 0
ReadsSender argument (command.Mail mail) = ReadsMail argument (Ok (record { from = mail.from.now; size = mail.size }))
ReadsSender argument (command.Refused reply.BadArgument) = ReadsMail argument (Err Syntax)
ReadsSender argument (command.Refused reply.BadSender) = ReadsMail argument (Err Address)
ReadsSender argument (command.Refused reply.BadParameter) = ReadsMail argument (Err Parameter)
ReadsSender argument other = ⊥

abbrev pub ReadsTarget : List ℕ → LmtpCommand → Type 0
ReadsTarget argument (command.Rcpt address) = ReadsRecipient argument (Ok address.now)
ReadsTarget argument (command.Refused reply.BadArgument) = ReadsRecipient argument (Err Syntax)
ReadsTarget argument (command.Refused reply.BadRecipient) = ReadsRecipient argument (Err Address)
ReadsTarget argument (command.Refused reply.BadParameter) = ReadsRecipient argument (Err Parameter)
ReadsTarget argument other = ⊥

abbrev pub ReadsAlone : List ℕ → LmtpCommand → LmtpCommand → Type 0
ReadsAlone argument wanted result =
    (Nothing argument × (result ≡ wanted)) ⊎ (Something argument × (result ≡ command.Refused reply.BadArgument))
