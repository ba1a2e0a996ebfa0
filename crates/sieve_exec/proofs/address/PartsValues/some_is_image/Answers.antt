use Rattle.std.proofs.Common.{◌≡◌, ◌∙◌, ℕ, Bool, IfOk, List, subst}
use Rattle.std.specs.Ordering.{nat_cmp}
use Rattle.std.specs.Cmp.Lexicographic.{slice_cmp}
use Rattle.std.specs.BTreeSet.{contains}
use Rattle.sieve_exec.specs.Images.{text_image}
use Rattle.sieve_exec.specs.Parts.{address_part_of}
use Rattle.sieve_exec.proofs.KeyLemmas.{any_part}
use Rattle.sieve_exec.proofs.address.PartsValues.some_is_image.Goals as goal

pub returns : goal.returns
returns c =
    let parts = c.args.self.now in
    let test : List ℕ → Bool = λ text. contains (slice_cmp nat_cmp) c.args.images.now (text_image c.args.collation text) in
    subst (λ b. IfOk c.some_is_image.result (λ there. there ≡ b)) (any_part (address_part_of parts.part) test parts.found.now) c.some_is_image.ensures
