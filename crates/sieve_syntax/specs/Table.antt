-- The table of commands and tests without a block or a test in them: what the arguments of each word say, for those of the base language.
use Rattle.std.specs.Prelude.{◌≡◌, ℕ, List, [], ◌∷◌, Option, Some}
use Rattle.sieve_syntax.specs.declared.table.keyword.Keyword.{Keyword}
use Rattle.sieve_syntax.specs.declared.table.keyword.Keyword.TheVariants as W
use Rattle.sieve_syntax.specs.declared.tree.checks.Size.{Size}
use Rattle.sieve_syntax.specs.declared.tree.checks.Header.{Header}
use Rattle.sieve_syntax.specs.declared.tree.checks.Address.{Address}
use Rattle.sieve_syntax.specs.declared.tree.checks.MailCheck.TheVariants as C
use Rattle.sieve_syntax.specs.declared.tree.action.Action.TheVariants as D
use Rattle.sieve_syntax.specs.declared.tree.action.Redirect.{Redirect}
use Rattle.sieve_syntax.specs.declared.parser.argument.Argument.{Argument}
use Rattle.sieve_syntax.specs.declared.table.tag_group.TagValue.{TagValue}
use Rattle.sieve_syntax.specs.declared.table.tag_group.TagGroup.TheVariants as P
use Rattle.sieve_syntax.specs.Tags.{IsCall}
use Rattle.sieve_syntax.specs.Positional.{one_number, one_text, two_lists}
use Rattle.sieve_syntax.specs.TagValues.{bound_in, comparator_in, matching_in, part_in}
use Rattle.sieve_syntax.specs.Extension.Copy.{copy_in}
use Rattle.sieve_syntax.specs.Extension.Imap4flags.{flags_in}
use Rattle.sieve_syntax.specs.NamedAddresses.{Names}
use Rattle.sieve_syntax.specs.Extension.Vacation.{IsVacation}
use Rattle.sieve_syntax.specs.Extension.FileInto.{IsFileInto}
use Rattle.sieve_syntax.specs.Extension.Imap4flags.{IsFlagList}
use Rattle.sieve_syntax.specs.Extension.{IsExtensionTest}
use Rattle.sieve_syntax.specs.Rows.{IsList, IsTableRow, IsBareWord}
use Rattle.sieve_syntax.specs.Tree.{TestTree, yes, no, looks, CommandTree, require, stop, act}

-- ---- what the arguments of a word say

-- size <":over" / ":under"> <limit: number> (RFC 5228, 5.9)
pub record SaysSize (tag_values : List TagValue) (positional : List Argument) (size : Size) : Type 0 where
  pub bound : bound_in tag_values ≡ Some size.bound
  pub limit : one_number positional ≡ Some size.limit

abbrev pub IsSizeTest : List Argument → Size → Type 0
IsSizeTest = IsCall (P.Bound ∷ []) SaysSize

-- header [COMPARATOR] [MATCH-TYPE] <header-names: string-list> <key-list: string-list> (RFC 5228, 5.7)
pub record SaysHeader (tag_values : List TagValue) (positional : List Argument) (header : Header) : Type 0 where
  pub comparator : header.comparator ≡ comparator_in tag_values
  pub matching : header.matching ≡ matching_in tag_values
  pub lists : two_lists positional ≡ Some (header.fields, header.keys)

abbrev pub IsHeaderTest : List Argument → Header → Type 0
IsHeaderTest = IsCall (P.Comparator ∷ (P.Matching ∷ [])) SaysHeader

-- address [COMPARATOR] [ADDRESS-PART] [MATCH-TYPE] <header-list: string-list> <key-list: string-list> (RFC 5228, 5.1)
pub record SaysAddress (tag_values : List TagValue) (positional : List Argument) (address : Address) : Type 0 where
  pub comparator : address.comparator ≡ comparator_in tag_values
  pub part : address.part ≡ part_in tag_values
  pub matching : address.matching ≡ matching_in tag_values
  pub lists : two_lists positional ≡ Some (address.fields, address.keys)

abbrev pub IsAddressTest : List Argument → Address → Type 0
IsAddressTest = IsCall (P.Comparator ∷ (P.Part ∷ (P.Matching ∷ []))) SaysAddress

-- keep [":flags" <list-of-flags: string-list>] (RFC 5228, 4.3; RFC 5232, 5)
pub record SaysKeep (tag_values : List TagValue) (positional : List Argument) (given : Option (List (List ℕ))) : Type 0 where
  pub none : positional ≡ []
  pub flags : given ≡ flags_in tag_values

abbrev pub IsKeep : List Argument → Option (List (List ℕ)) → Type 0
IsKeep = IsCall (P.Flags ∷ []) SaysKeep

-- redirect [":copy"] <address: string> (RFC 5228, 4.2; RFC 3894, 3.2)
pub record SaysRedirect (tag_values : List TagValue) (positional : List Argument) (redirect : Redirect) : Type 0 where
  pub text : List ℕ
  pub is_text : one_text positional ≡ Some text
  pub names : Names text redirect.target
  pub copy : redirect.copy ≡ copy_in tag_values

abbrev pub IsRedirect : List Argument → Redirect → Type 0
IsRedirect = IsCall (P.Copy ∷ []) SaysRedirect

-- ---- the rows

-- the tests that have no test in them (RFC 5228, 5), and those of the extensions
abbrev pub IsPlainTest : Keyword → List Argument → TestTree → Type 0
IsPlainTest W.True = IsBareWord yes
IsPlainTest W.False = IsBareWord no
IsPlainTest W.Size = IsTableRow IsSizeTest (λ size. looks (C.Size size))
IsPlainTest W.Exists = IsTableRow IsList (λ fields. looks (C.Exists fields))
IsPlainTest W.Header = IsTableRow IsHeaderTest (λ header. looks (C.Header header))
IsPlainTest W.Address = IsTableRow IsAddressTest (λ address. looks (C.Address address))
IsPlainTest word = IsTableRow (IsExtensionTest word) (λ extended. looks (C.Extension extended))

-- the commands that end in a semicolon (RFC 5228, 3, 4; RFC 5232, 3)
abbrev pub IsPlainCommand : Keyword → List Argument → CommandTree → Type 0
IsPlainCommand W.Require = IsTableRow IsList require
IsPlainCommand W.Stop = IsBareWord stop
IsPlainCommand W.Keep = IsTableRow IsKeep (λ given. act (D.Keep given))
IsPlainCommand W.Discard = IsBareWord (act D.Discard)
IsPlainCommand W.FileInto = IsTableRow IsFileInto (λ filing. act (D.FileInto filing))
IsPlainCommand W.Redirect = IsTableRow IsRedirect (λ redirect. act (D.Redirect redirect))
IsPlainCommand W.Vacation = IsTableRow IsVacation (λ vacation. act (D.Vacation vacation))
IsPlainCommand W.SetFlag = IsTableRow IsFlagList (λ texts. act (D.SetFlag texts))
IsPlainCommand W.AddFlag = IsTableRow IsFlagList (λ texts. act (D.AddFlag texts))
IsPlainCommand W.RemoveFlag = IsTableRow IsFlagList (λ texts. act (D.RemoveFlag texts))
IsPlainCommand _ = λ args command. ⊥
