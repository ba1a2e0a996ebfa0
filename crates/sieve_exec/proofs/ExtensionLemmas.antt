-- What a test of an extension owes: it is true exactly where it holds, and neither its truth nor its work depends on the octets of the message, but
-- on its fields and its size.
use Rattle.std.proofs.Common.{◌≡◌, ℕ, List, refl}
use Rattle.std.specs.Bool.{Decides}
use Rattle.sieve_syntax.specs.declared.extension.ExtensionTest.{ExtensionTest}
use Rattle.sieve_syntax.specs.declared.extension.ExtensionTest.TheVariants.{Envelope, MailboxExists, Date, CurrentDate, HasFlag}
use Rattle.sieve_exec.specs.Extension.{ExtensionHolds, extension_truth, extension_work}
use Rattle.sieve_exec.specs.Mails.{MailSpec}
use Rattle.sieve_exec.proofs.DateLemmas.{date_decides, current_decides}
use Rattle.sieve_exec.proofs.EnvelopeLemmas.{envelope_decides}
use Rattle.sieve_exec.proofs.FlagLemmas.{flag_decides}
use Rattle.sieve_exec.proofs.MailboxTestLemmas.{mailboxes_decide}

pub extension_decides : (mail : MailSpec) (flags : List (List ℕ)) (test : ExtensionTest) → Decides (extension_truth mail flags test) (ExtensionHolds mail flags test)
extension_decides mail flags (Envelope test) = envelope_decides mail test
extension_decides mail flags (MailboxExists names) = mailboxes_decide names
extension_decides mail flags (Date test) = date_decides mail test
extension_decides mail flags (CurrentDate test) = current_decides mail test
extension_decides mail flags (HasFlag test) = flag_decides flags test

pub same_extension_truth : (mail : MailSpec) (octets : List ℕ) (flags : List (List ℕ)) (test : ExtensionTest)
    → extension_truth (record mail { octets = octets }) flags test ≡ extension_truth mail flags test
same_extension_truth mail octets flags (Envelope test) = refl
same_extension_truth mail octets flags (MailboxExists names) = refl
same_extension_truth mail octets flags (Date test) = refl
same_extension_truth mail octets flags (CurrentDate test) = refl
same_extension_truth mail octets flags (HasFlag test) = refl

pub same_extension_work : (mail : MailSpec) (octets : List ℕ) (flags : List (List ℕ)) (test : ExtensionTest)
    → extension_work (record mail { octets = octets }) flags test ≡ extension_work mail flags test
same_extension_work mail octets flags (Envelope test) = refl
same_extension_work mail octets flags (MailboxExists names) = refl
same_extension_work mail octets flags (Date test) = refl
same_extension_work mail octets flags (CurrentDate test) = refl
same_extension_work mail octets flags (HasFlag test) = refl
