-- `mailbox`: the test of names of mailboxes, `mailboxexists` (RFC 5490, 3.1).
use Rattle.std.specs.Prelude.{◌==◌, ℕ, Bool, not, ◌&&◌, nat_lt, length, List}
use Rattle.std.specs.List.{list_all, All}
use Rattle.std.specs.Str.{is_utf8}
use Rattle.sieve_syntax.specs.Extension.FileInto.{IsMailboxName}
use Rattle.sieve_exec.specs.Mails.{is_some_of}
use Rattle.sieve_exec.specs.Sizes.{texts_size}

-- each name is that of a mailbox, which exists, since a message can be filed into it
abbrev pub MailboxesExist : List (List ℕ) → Type 0
MailboxesExist names = All IsMailboxName names

-- whether a text is the name of a mailbox
abbrev pub is_mailbox : List ℕ → Bool
is_mailbox name = is_some_of name && (nat_lt (length name) 256 && (list_all (λ octet. nat_lt 31 octet && not (octet == 127)) name && is_utf8 name))

-- the work of `mailboxexists`
abbrev pub mailboxes_work : List (List ℕ) → ℕ
mailboxes_work names = texts_size names
