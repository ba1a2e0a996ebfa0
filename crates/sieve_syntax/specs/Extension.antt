-- The extensions: a room for each, and here which of them has which test, word and tag.
pub mod Copy
pub mod Date
pub mod EncodedCharacter
pub mod Envelope
pub mod FileInto
pub mod Imap4flags
pub mod Mailbox
pub mod Numeric
pub mod Relational
pub mod Subaddress
pub mod Vacation
pub mod VacationSeconds
use Rattle.std.specs.Prelude.{List, [], ◌∷◌}
use Rattle.sieve_syntax.specs.declared.parser.argument.Argument.{Argument}
use Rattle.sieve_syntax.specs.declared.table.keyword.Keyword.{Keyword}
use Rattle.sieve_syntax.specs.declared.table.keyword.Keyword.TheVariants as W
use Rattle.sieve_syntax.specs.declared.table.tag.Tag.{Tag}
use Rattle.sieve_syntax.specs.declared.table.tag.Tag.TheVariants as G
use Rattle.sieve_syntax.specs.declared.capability.Capability.{Capability}
use Rattle.sieve_syntax.specs.declared.capability.Capability.TheVariants as C
use Rattle.sieve_syntax.specs.declared.extension.ExtensionTest.{ExtensionTest}
use Rattle.sieve_syntax.specs.declared.extension.ExtensionTest.TheVariants as X
use Rattle.sieve_syntax.specs.Capabilities.{Capabilities}
use Rattle.sieve_syntax.specs.Rows.{IsTableRow}
use Rattle.sieve_syntax.specs.Extension.Date.{IsDateTest, IsCurrentDateTest, MayAskDate, MayAskCurrentDate}
use Rattle.sieve_syntax.specs.Extension.Envelope.{IsEnvelopeTest, MayAskEnvelope}
use Rattle.sieve_syntax.specs.Extension.Imap4flags.{IsHasFlagTest, MayAskHasFlag}
use Rattle.sieve_syntax.specs.Extension.Mailbox.{IsMailboxesTest, MayAskMailboxes}

-- ---- tests

-- the tests of the extensions: what a word with its arguments stands for
abbrev pub IsExtensionTest : Keyword → List Argument → ExtensionTest → Type 0
IsExtensionTest W.Envelope = IsTableRow IsEnvelopeTest X.Envelope
IsExtensionTest W.MailboxExists = IsTableRow IsMailboxesTest X.MailboxExists
IsExtensionTest W.Date = IsTableRow IsDateTest X.Date
IsExtensionTest W.CurrentDate = IsTableRow IsCurrentDateTest X.CurrentDate
IsExtensionTest W.HasFlag = IsTableRow IsHasFlagTest X.HasFlag
IsExtensionTest _ = λ args test. ⊥

-- what has to be granted for each
abbrev pub MayAsk : Capabilities → ExtensionTest → Type 0
MayAsk granted (X.Envelope envelope) = MayAskEnvelope granted envelope
MayAsk granted (X.MailboxExists names) = MayAskMailboxes granted
MayAsk granted (X.Date date) = MayAskDate granted date
MayAsk granted (X.CurrentDate current) = MayAskCurrentDate granted current
MayAsk granted (X.HasFlag flag) = MayAskHasFlag granted flag

-- ---- whose words and tags these are

-- the capabilities each of which brings this word; those of the base language need none (RFC 5228, 3 to 5)
abbrev pub owners_of_word : Keyword → List Capability
owners_of_word W.FileInto = C.FileInto ∷ []
owners_of_word W.Envelope = C.Envelope ∷ []
owners_of_word W.Vacation = C.Vacation ∷ (C.VacationSeconds ∷ [])
owners_of_word W.MailboxExists = C.Mailbox ∷ []
owners_of_word W.Date = C.Date ∷ []
owners_of_word W.CurrentDate = C.Date ∷ []
owners_of_word W.SetFlag = C.Imap4flags ∷ []
owners_of_word W.AddFlag = C.Imap4flags ∷ []
owners_of_word W.RemoveFlag = C.Imap4flags ∷ []
owners_of_word W.HasFlag = C.Imap4flags ∷ []
owners_of_word _ = []

-- the same of a tag; `vacation-seconds` brings all that `vacation` has (RFC 6131, 2)
abbrev pub owners_of_tag : Tag → List Capability
owners_of_tag G.Days = C.Vacation ∷ (C.VacationSeconds ∷ [])
owners_of_tag G.Seconds = C.VacationSeconds ∷ []
owners_of_tag G.Subject = C.Vacation ∷ (C.VacationSeconds ∷ [])
owners_of_tag G.From = C.Vacation ∷ (C.VacationSeconds ∷ [])
owners_of_tag G.Addresses = C.Vacation ∷ (C.VacationSeconds ∷ [])
owners_of_tag G.Mime = C.Vacation ∷ (C.VacationSeconds ∷ [])
owners_of_tag G.Handle = C.Vacation ∷ (C.VacationSeconds ∷ [])
owners_of_tag G.Copy = C.Copy ∷ []
owners_of_tag G.User = C.Subaddress ∷ []
owners_of_tag G.Detail = C.Subaddress ∷ []
owners_of_tag G.Value = C.Relational ∷ []
owners_of_tag G.Count = C.Relational ∷ []
owners_of_tag G.Create = C.Mailbox ∷ []
owners_of_tag G.Zone = C.Date ∷ []
owners_of_tag G.OriginalZone = C.Date ∷ []
owners_of_tag G.Flags = C.Imap4flags ∷ []
owners_of_tag _ = []
