-- What `fileinto` owes: its arguments say one thing, and it may stand where more is granted.
use Rattle.std.proofs.Common.{◌≡◌, List, Some, None, sym, ◌∙◌}
use Rattle.octets.proofs.Lists.{some_is}
use Rattle.sieve_syntax.specs.declared.parser.argument.Argument.{Argument}
use Rattle.sieve_syntax.specs.declared.table.tag_group.TagValue.{TagValue}
use Rattle.sieve_syntax.specs.declared.extension.fileinto.FileInto.{FileInto}
use Rattle.sieve_syntax.specs.Positional.{one_text}
use Rattle.sieve_syntax.specs.Extension.FileInto.{SaysFileInto, MayFileInto}
use Rattle.sieve_syntax.specs.declared.capability.Capability.TheVariants as C
use Rattle.sieve_syntax.specs.Capabilities.{Capabilities, IsWithin}
use Rattle.std.specs.Prelude.{is_some}
use Rattle.sieve_syntax.proofs.GrowthLemmas.{permits_grow}

-- tags and positional arguments say one thing at most
module _ (tag_values : List TagValue) (positional : List Argument) where
  pub file_into_same : (x y : FileInto) → SaysFileInto tag_values positional x → SaysFileInto tag_values positional y → x ≡ y
  file_into_same x y a b =
      let mailbox : x.mailbox ≡ y.mailbox = some_is x.mailbox y.mailbox (sym a.mailbox ∙ b.mailbox) in
      let copy : x.copy ≡ y.copy = a.copy ∙ sym b.copy in
      let create : x.create ≡ y.create = a.create ∙ sym b.create in
      let flags : x.flags ≡ y.flags = a.flags ∙ sym b.flags in
      λ i. record { mailbox = mailbox i; copy = copy i; create = create i; flags = flags i }

  pub file_into_no_text : one_text positional ≡ None → (y : FileInto) → SaysFileInto tag_values positional y → ⊥
  file_into_no_text none y is = let e : None ≡ Some y.mailbox = sym none ∙ is.mailbox in absurd (cc e)

-- where few are granted, and where more are
pub file_into_grows : (few more : Capabilities) → IsWithin few more → (filing : FileInto) → MayFileInto few filing → MayFileInto more filing
file_into_grows few more within filing may = (
  within C.FileInto may.0,
  permits_grow few more within C.Copy filing.copy may.1,
  permits_grow few more within C.Mailbox filing.create may.2,
  permits_grow few more within C.Imap4flags (is_some filing.flags) may.3,
  may.4,
)
