-- What each test of an extension owes, a row for each: the room says it.
pub mod Date
pub mod Envelope
pub mod FileInto
pub mod Imap4flags
pub mod Mailbox
use Rattle.std.proofs.Common.{◌≡◌, List}
use Rattle.sieve_syntax.specs.declared.parser.argument.Argument.{Argument}
use Rattle.sieve_syntax.specs.declared.table.keyword.Keyword.{Keyword}
use Rattle.sieve_syntax.specs.declared.table.keyword.Keyword.TheVariants as W
use Rattle.sieve_syntax.specs.declared.extension.ExtensionTest.{ExtensionTest}
use Rattle.sieve_syntax.specs.declared.extension.ExtensionTest.TheVariants as X
use Rattle.sieve_syntax.specs.Capabilities.{Capabilities, IsWithin}
use Rattle.sieve_syntax.specs.Extension.{IsExtensionTest, MayAsk}
use Rattle.sieve_syntax.proofs.ExtensionLaws.Date.{date_test_same, current_test_same, date_known, current_known, date_grows, current_grows}
use Rattle.sieve_syntax.proofs.ExtensionLaws.Envelope.{envelope_test_same, envelope_known, envelope_grows}
use Rattle.sieve_syntax.proofs.ExtensionLaws.Imap4flags.{has_flag_test_same, has_flag_known, has_flag_grows}
use Rattle.sieve_syntax.proofs.KnownLemmas.{AreKnown}
use Rattle.sieve_syntax.proofs.ExtensionLaws.Mailbox.{mailboxes_test_same, mailboxes_known, mailboxes_grow}

-- a word with arguments stands for one test at most
pub extension_test_same : (word : Keyword) (args : List Argument) (t u : ExtensionTest) → IsExtensionTest word args t → IsExtensionTest word args u → t ≡ u
extension_test_same W.Envelope args t u a b = envelope_test_same args t u a b
extension_test_same W.MailboxExists args t u a b = mailboxes_test_same args t u a b
extension_test_same W.Date args t u a b = date_test_same args t u a b
extension_test_same W.CurrentDate args t u a b = current_test_same args t u a b
extension_test_same W.HasFlag args t u a b = has_flag_test_same args t u a b
extension_test_same _ args t u a b = absurd a

-- its arguments have no tag that the grammar doesn't know
pub extension_test_known : (word : Keyword) (args : List Argument) (t : ExtensionTest) → IsExtensionTest word args t → AreKnown args
extension_test_known W.Envelope args t is = envelope_known args t is
extension_test_known W.MailboxExists args t is = mailboxes_known args t is
extension_test_known W.Date args t is = date_known args t is
extension_test_known W.CurrentDate args t is = current_known args t is
extension_test_known W.HasFlag args t is = has_flag_known args t is
extension_test_known _ args t is = absurd is

-- what may be asked where few are granted may be where more are
pub ask_grows : (few more : Capabilities) → IsWithin few more → (test : ExtensionTest) → MayAsk few test → MayAsk more test
ask_grows few more within (X.Envelope envelope) may = envelope_grows few more within envelope may
ask_grows few more within (X.MailboxExists names) may = mailboxes_grow few more within may
ask_grows few more within (X.Date date) may = date_grows few more within date may
ask_grows few more within (X.CurrentDate current) may = current_grows few more within current may
ask_grows few more within (X.HasFlag flag) may = has_flag_grows few more within flag may
