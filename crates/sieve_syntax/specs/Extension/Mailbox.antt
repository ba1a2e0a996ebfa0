-- `mailbox`: the tag `:create` of `fileinto`, and the test `mailboxexists` (RFC 5490, 3).
use Rattle.std.specs.Prelude.{◌≡◌, ℕ, Bool, true, false, List, [], ◌∷◌}
use Rattle.sieve_syntax.specs.declared.table.tag_group.TagValue.{TagValue}
use Rattle.sieve_syntax.specs.declared.table.tag_group.TagValue.TheVariants as S
use Rattle.sieve_syntax.specs.declared.capability.Capability.TheVariants as C
use Rattle.sieve_syntax.specs.declared.parser.argument.Argument.{Argument}
use Rattle.sieve_syntax.specs.Capabilities.{Capabilities}
use Rattle.sieve_syntax.specs.Rows.{IsList}

-- whether a mailbox that doesn't exist is to be created (RFC 5490, 3.2)
abbrev pub create_in : List TagValue → Bool
create_in [] = false
create_in (S.Create ∷ _) = true
create_in (_ ∷ more) = create_in more

-- mailboxexists <mailbox-names: string-list> (RFC 5490, 3.1)
abbrev pub IsMailboxesTest : List Argument → List (List ℕ) → Type 0
IsMailboxesTest = IsList

-- what has to be granted for it
abbrev pub MayAskMailboxes : Capabilities → Type 0
MayAskMailboxes granted = granted C.Mailbox ≡ true
