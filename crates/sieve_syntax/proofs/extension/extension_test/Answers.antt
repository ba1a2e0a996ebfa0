use Rattle.sieve_syntax.proofs.extension.extension_test.Goals as goal

pub returns-in-Envelope : goal.returns-in-Envelope
returns-in-Envelope c = rw c.in-Envelope.is c.envelope_test.ensures

pub returns-in-MailboxExists : goal.returns-in-MailboxExists
returns-in-MailboxExists c = rw c.in-MailboxExists.is c.mailboxes_test.ensures

pub returns-in-Date : goal.returns-in-Date
returns-in-Date c = rw c.in-Date.is c.date_test.ensures

pub returns-in-CurrentDate : goal.returns-in-CurrentDate
returns-in-CurrentDate c = rw c.in-CurrentDate.is c.current_date_test.ensures

pub returns-in-HasFlag : goal.returns-in-HasFlag
returns-in-HasFlag c = rw c.in-HasFlag.is c.has_flag_test.ensures
