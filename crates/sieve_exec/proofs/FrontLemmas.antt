-- No test looks at the octets of a message, but at its fields and its size.
use Rattle.std.proofs.Common.{◌≡◌, ℕ, List, Some, refl, ap, ◌∙◌}
use Rattle.std.proofs.Math.Path.{fun_ext}
use Rattle.mail_head.specs.Heads.{fields_of, size_of}
use Rattle.mail_head.specs.Prefixes.{IsHeaderPrefix}
use Rattle.mail_head.proofs.FrontLemmas.{fields_in_front}
use Rattle.sieve_syntax.specs.Meaning.{asking_at}
use Rattle.sieve_syntax.specs.RunState.{RunState}
use Rattle.sieve_syntax.specs.Tree.{Commands}
use Rattle.sieve_syntax.specs.Work.{outcome_within}
use Rattle.sieve_syntax.specs.declared.tree.checks.MailCheck.{MailCheck}
use Rattle.sieve_syntax.specs.declared.tree.checks.MailCheck.TheVariants.{Size, Exists, Header, Address, Extension}
use Rattle.sieve_exec.specs.declared.envelope.Envelope as E
use Rattle.sieve_exec.specs.declared.when.When.{When}
use Rattle.sieve_exec.specs.Mails.{MailSpec, mail_spec_of, with_size}
use Rattle.sieve_exec.specs.Outcomes.{outcome_at}
use Rattle.sieve_exec.specs.Truth.{truth_by, truth_at}
use Rattle.sieve_exec.specs.Work.{work_by, work_at}
use Rattle.sieve_exec.proofs.ExtensionLemmas.{same_extension_truth, same_extension_work}

same_truth : (mail : MailSpec) (octets : List ℕ) (flags : List (List ℕ)) (check : MailCheck) → truth_by (record mail { octets = octets }) flags check ≡ truth_by mail flags check
same_truth mail octets flags (Size size) = refl
same_truth mail octets flags (Exists names) = refl
same_truth mail octets flags (Header header) = refl
same_truth mail octets flags (Address address) = refl
same_truth mail octets flags (Extension test) = same_extension_truth mail octets flags test

same_work : (mail : MailSpec) (octets : List ℕ) (flags : List (List ℕ)) (check : MailCheck) → work_by (record mail { octets = octets }) flags check ≡ work_by mail flags check
same_work mail octets flags (Size size) = refl
same_work mail octets flags (Exists names) = refl
same_work mail octets flags (Header header) = refl
same_work mail octets flags (Address address) = refl
same_work mail octets flags (Extension test) = same_extension_work mail octets flags test

-- so the outcome is the same, whatever they are
same_outcome : (mail : MailSpec) (octets : List ℕ) (tree : Commands) → outcome_at (record mail { octets = octets }) tree ≡ outcome_at mail tree
same_outcome mail octets tree =
    ap (λ truth. outcome_within (asking_at truth) (work_at (record mail { octets = octets })) tree) (fun_ext (λ (so_far : RunState). fun_ext (same_truth mail octets so_far.flags)))
    ∙ ap (λ work. outcome_within (asking_at (truth_at mail)) work tree) (fun_ext (λ (so_far : RunState). fun_ext (same_work mail octets so_far.flags)))

module _ (envelope : E.Envelope) (when : When) (tree : Commands) where
  -- with the fields and the size of another message
  outcome_with : (one other : List ℕ) (size : ℕ) → fields_of one ≡ fields_of other → size ≡ size_of other
      → outcome_at (with_size (Some size) (mail_spec_of one envelope when)) tree ≡ outcome_at (mail_spec_of other envelope when) tree
  outcome_with one other size fields is =
      ap (λ texts. outcome_at (record (mail_spec_of one envelope when) { fields = texts; size = size }) tree) fields
      ∙ ap (λ n. outcome_at (record (mail_spec_of one envelope when) { fields = fields_of other; size = n }) tree) is
      ∙ same_outcome (mail_spec_of other envelope when) one tree

  pub by_fields_and_size : (one other : List ℕ) → fields_of one ≡ fields_of other → size_of one ≡ size_of other
      → outcome_at (mail_spec_of one envelope when) tree ≡ outcome_at (mail_spec_of other envelope when) tree
  by_fields_and_size one other fields size = outcome_with one other (size_of one) fields size

  pub of_front : (front message : List ℕ) → IsHeaderPrefix front message
      → outcome_at (with_size (Some (size_of message)) (mail_spec_of front envelope when)) tree ≡ outcome_at (mail_spec_of message envelope when) tree
  of_front front message has = outcome_with front message (size_of message) (fields_in_front front message has) refl
