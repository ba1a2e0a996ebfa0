-- What `mailbox` owes: `mailboxexists` says one thing, with tags that the grammar knows, and may be asked where more is granted.
use Rattle.std.proofs.Common.{◌≡◌, List}
use Rattle.sieve_syntax.specs.declared.parser.argument.Argument.{Argument}
use Rattle.sieve_syntax.specs.Rows.{IsTableRow}
use Rattle.sieve_syntax.specs.Capabilities.{Capabilities, IsWithin}
use Rattle.sieve_syntax.proofs.KnownLemmas.{AreKnown, row_known, list_known}
use Rattle.sieve_syntax.proofs.RowLemmas.{list_same, row_same}
use Rattle.sieve_syntax.specs.declared.extension.ExtensionTest.{ExtensionTest}
use Rattle.sieve_syntax.specs.declared.extension.ExtensionTest.TheVariants as X
use Rattle.sieve_syntax.specs.declared.capability.Capability.TheVariants as C
use Rattle.sieve_syntax.specs.Extension.Mailbox.{IsMailboxesTest, MayAskMailboxes}

-- one word with arguments stands for one test
pub mailboxes_test_same : (args : List Argument) (t u : ExtensionTest) → IsTableRow IsMailboxesTest X.MailboxExists args t → IsTableRow IsMailboxesTest X.MailboxExists args u → t ≡ u
mailboxes_test_same args t u a b = row_same _ _ args (list_same args) t u a b

pub mailboxes_known : (args : List Argument) (t : ExtensionTest) → IsTableRow IsMailboxesTest X.MailboxExists args t → AreKnown args
mailboxes_known args t is = row_known _ _ _ (λ s p names says. list_known p names says) args t is

-- what may be asked where few are granted may be where more are
pub mailboxes_grow : (few more : Capabilities) → IsWithin few more → MayAskMailboxes few → MayAskMailboxes more
mailboxes_grow few more within may = within C.Mailbox may
