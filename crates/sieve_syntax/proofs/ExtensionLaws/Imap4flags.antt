-- What `imap4flags` owes: `hasflag` says one thing, with tags that the grammar knows, and may be asked where more is granted.
use Rattle.std.proofs.Common.{◌≡◌, List, sym, ◌∙◌}
use Rattle.octets.proofs.Lists.{some_is}
use Rattle.sieve_syntax.specs.declared.extension.imap4flags.HasFlag.{HasFlag}
use Rattle.sieve_syntax.specs.declared.parser.argument.Argument.{Argument}
use Rattle.sieve_syntax.specs.declared.table.tag_group.TagValue.{TagValue}
use Rattle.sieve_syntax.specs.Extension.Imap4flags.{SaysHasFlag, IsHasFlagTest, MayAskHasFlag}
use Rattle.sieve_syntax.specs.Rows.{IsTableRow}
use Rattle.sieve_syntax.specs.Capabilities.{Capabilities, IsWithin}
use Rattle.sieve_syntax.proofs.GrowthLemmas.{match_grows}
use Rattle.sieve_syntax.proofs.KnownLemmas.{AreKnown, row_known, list_known}
use Rattle.sieve_syntax.proofs.RowLemmas.{call_same, row_same}
use Rattle.sieve_syntax.specs.declared.extension.ExtensionTest.{ExtensionTest}
use Rattle.sieve_syntax.specs.declared.extension.ExtensionTest.TheVariants as X
use Rattle.sieve_syntax.specs.declared.capability.Capability.TheVariants as C

-- tags and positional arguments say one thing at most
module _ (tag_values : List TagValue) (positional : List Argument) where
  pub has_flag_same : (x y : HasFlag) → SaysHasFlag tag_values positional x → SaysHasFlag tag_values positional y → x ≡ y
  has_flag_same x y a b =
      let comparator : x.comparator ≡ y.comparator = a.comparator ∙ sym b.comparator in
      let matching : x.matching ≡ y.matching = a.matching ∙ sym b.matching in
      let keys : x.keys ≡ y.keys = some_is x.keys y.keys (sym a.keys ∙ b.keys) in
      λ i. record { comparator = comparator i; matching = matching i; keys = keys i }

-- one word with arguments stands for one test
pub has_flag_test_same : (args : List Argument) (t u : ExtensionTest) → IsTableRow IsHasFlagTest X.HasFlag args t → IsTableRow IsHasFlagTest X.HasFlag args u → t ≡ u
has_flag_test_same args t u a b = row_same _ _ args (call_same _ _ has_flag_same args) t u a b

pub has_flag_known : (args : List Argument) (t : ExtensionTest) → IsTableRow IsHasFlagTest X.HasFlag args t → AreKnown args
has_flag_known args t is = row_known _ _ _ (λ s p flag says. list_known p flag.keys says.keys) args t is

-- what may be asked where few are granted may be where more are
pub has_flag_grows : (few more : Capabilities) → IsWithin few more → (flag : HasFlag) → MayAskHasFlag few flag → MayAskHasFlag more flag
has_flag_grows few more within flag may = (within C.Imap4flags may.0, match_grows few more within flag.comparator flag.matching may.1)
