-- What a run does of each extension: a room for each, and here which of their tests hold, and the work that these take.
pub mod Date
pub mod Envelope
pub mod Imap4flags
pub mod Mailbox
pub mod Numeric
pub mod Relational
pub mod Subaddress
use Rattle.std.specs.Prelude.{ℕ, Bool, List}
use Rattle.std.specs.List.{list_all}
use Rattle.sieve_syntax.specs.declared.extension.ExtensionTest.{ExtensionTest}
use Rattle.sieve_syntax.specs.declared.extension.ExtensionTest.TheVariants as X
use Rattle.sieve_exec.specs.Mails.{MailSpec}
use Rattle.sieve_exec.specs.Extension.Date.{DateHolds, CurrentDateHolds, date_holds, current_holds, date_work, current_work}
use Rattle.sieve_exec.specs.Extension.Envelope.{EnvelopeHolds, envelope_holds, envelope_work}
use Rattle.sieve_exec.specs.Extension.Imap4flags.{FlagHolds, flag_holds, flags_work}
use Rattle.sieve_exec.specs.Extension.Mailbox.{MailboxesExist, is_mailbox, mailboxes_work}

-- a test of an extension holds, of a mail and the flags that the run has set
abbrev pub ExtensionHolds : MailSpec → (flags : List (List ℕ)) → ExtensionTest → Type 0
ExtensionHolds mail flags (X.Envelope test) = EnvelopeHolds mail test
ExtensionHolds mail flags (X.MailboxExists names) = MailboxesExist names
ExtensionHolds mail flags (X.Date test) = DateHolds mail test
ExtensionHolds mail flags (X.CurrentDate test) = CurrentDateHolds mail test
ExtensionHolds mail flags (X.HasFlag test) = FlagHolds flags test

-- whether it does
abbrev pub extension_truth : MailSpec → (flags : List (List ℕ)) → ExtensionTest → Bool
extension_truth mail flags (X.Envelope test) = envelope_holds mail test
extension_truth mail flags (X.MailboxExists names) = list_all is_mailbox names
extension_truth mail flags (X.Date test) = date_holds mail test
extension_truth mail flags (X.CurrentDate test) = current_holds mail test
extension_truth mail flags (X.HasFlag test) = flag_holds flags test

-- the work that it takes
abbrev pub extension_work : MailSpec → (flags : List (List ℕ)) → ExtensionTest → ℕ
extension_work mail flags (X.Envelope test) = envelope_work mail test
extension_work mail flags (X.MailboxExists names) = mailboxes_work names
extension_work mail flags (X.Date test) = date_work mail test
extension_work mail flags (X.CurrentDate test) = current_work test
extension_work mail flags (X.HasFlag test) = flags_work flags test
