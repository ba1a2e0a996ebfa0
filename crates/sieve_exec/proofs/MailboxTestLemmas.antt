-- `mailboxexists` is true exactly where it holds.
use Rattle.std.proofs.lemmas.Str.{IsUtf8-from_is_utf8, is_utf8-from_IsUtf8}
use Rattle.std.proofs.Common.{◌≡◌, ◌≢◌, ◌≤◌, ◌↔◌, length, ℕ, Bool, true, false, List, [], ◌∷◌, refl, arith}
use Rattle.std.specs.Bool.{Decides}
use Rattle.std.specs.List.{list_all}
use Rattle.std.proofs.lemmas.Bool.Decides.{Decides-and, Decides-not, Decides-eqb, Decides-ltb, same_from_decides}
use Rattle.sieve_syntax.specs.Extension.FileInto.{IsMailboxName}
use Rattle.sieve_exec.specs.Mails.{is_some_of}
use Rattle.sieve_exec.specs.Extension.Mailbox.{MailboxesExist, is_mailbox}
use Rattle.sieve_exec.proofs.Decisions.{decides_as, all_decides}

some_decides_of : (name : List ℕ) → Decides (is_some_of name) (name ≢ [])
some_decides_of [] = (λ h. absurd (cc h), λ some. absurd (some refl))
some_decides_of (octet ∷ rest) = (λ h same. let no : ⊥ = cc in no, λ some. refl)

-- whether a text is the name of a mailbox
mailbox_decides : (name : List ℕ) → Decides (is_mailbox name) (IsMailboxName name)
mailbox_decides name =
    decides_as _ (λ (some, rest). record { some = some; short = rest.0; plain = rest.1.0; utf8 = rest.1.1 }) (λ is. (is.some, (is.short, (is.plain, is.utf8))))
    (Decides-and _ _ (some_decides_of name)
    (Decides-and _ _ (decides_as _ (λ below. omega (arith, below)) (λ most. omega (arith, most)) (Decides-ltb (length name) 256))
    (Decides-and _ _ (all_decides _ (λ octet. (32 ≤ octet) × (octet ≢ 127))
    (λ octet. Decides-and _ _ (decides_as _ (λ above. omega (arith, above)) (λ least. omega (arith, least)) (Decides-ltb 31 octet)) (Decides-not _ (Decides-eqb octet 127))) name) (IsUtf8-from_is_utf8 name, is_utf8-from_IsUtf8 name))))

-- the names of `mailboxexists`, by another test of them
pub mailboxes_same : (result : Bool) (names : List (List ℕ)) → (result ≡ true) ↔ MailboxesExist names → result ≡ list_all is_mailbox names
mailboxes_same result names is = same_from_decides result (list_all is_mailbox names) (is.0, is.1) (all_decides is_mailbox IsMailboxName mailbox_decides names)

pub mailboxes_decide : (names : List (List ℕ)) → Decides (list_all is_mailbox names) (MailboxesExist names)
mailboxes_decide names = all_decides is_mailbox IsMailboxName mailbox_decides names
