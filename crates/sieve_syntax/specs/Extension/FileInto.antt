-- `fileinto` (RFC 5228, 4.1).
use Rattle.std.specs.Prelude.{◌≡◌, ◌≢◌, ◌≤◌, ℕ, true, is_some, List, [], ◌∷◌, Some, length, All}
use Rattle.std.specs.Str.{IsUtf8}
use Rattle.sieve_syntax.specs.declared.parser.argument.Argument.{Argument}
use Rattle.sieve_syntax.specs.declared.table.tag_group.TagValue.{TagValue}
use Rattle.sieve_syntax.specs.declared.table.tag_group.TagGroup.TheVariants as P
use Rattle.sieve_syntax.specs.declared.capability.Capability.TheVariants as C
use Rattle.sieve_syntax.specs.declared.extension.fileinto.FileInto.{FileInto}
use Rattle.sieve_syntax.specs.Capabilities.{Capabilities, Permits}
use Rattle.sieve_syntax.specs.Positional.{one_text}
use Rattle.sieve_syntax.specs.Tags.{IsCall}
use Rattle.sieve_syntax.specs.Extension.Copy.{copy_in}
use Rattle.sieve_syntax.specs.Extension.Mailbox.{create_in}
use Rattle.sieve_syntax.specs.Extension.Imap4flags.{flags_in}

-- the name of a mailbox: 1 to 255 octets of UTF-8, none below 32 and none 127
pub record IsMailboxName (name : List ℕ) : Type 0 where
  pub some : name ≢ []
  pub short : length name ≤ 255
  pub plain : All (λ octet. (32 ≤ octet) × (octet ≢ 127)) name
  pub utf8 : IsUtf8 name

-- fileinto [":copy"] [":create"] [":flags" <list-of-flags: string-list>] <mailbox: string> (RFC 5228, 4.1; RFC 3894, 3.1; RFC 5490, 3.2;
-- RFC 5232, 5)
pub record SaysFileInto (tag_values : List TagValue) (positional : List Argument) (filing : FileInto) : Type 0 where
  pub mailbox : one_text positional ≡ Some filing.mailbox
  pub copy : filing.copy ≡ copy_in tag_values
  pub create : filing.create ≡ create_in tag_values
  pub flags : filing.flags ≡ flags_in tag_values

abbrev pub IsFileInto : List Argument → FileInto → Type 0
IsFileInto = IsCall (P.Copy ∷ (P.Create ∷ (P.Flags ∷ []))) SaysFileInto

-- what has to be granted for it: `fileinto`, and for its tags `copy`, `mailbox` and `imap4flags`
abbrev pub MayFileInto : Capabilities → FileInto → Type 0
MayFileInto granted filing =
    (granted C.FileInto ≡ true) × Permits (granted C.Copy) filing.copy × Permits (granted C.Mailbox) filing.create × Permits (granted C.Imap4flags) (is_some filing.flags)
    × IsMailboxName filing.mailbox
