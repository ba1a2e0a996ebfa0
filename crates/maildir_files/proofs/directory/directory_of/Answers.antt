use Rattle.std.proofs.Common.{◌≡◌, ℕ, List, IfOk, false, ap, ◌∙◌, subst}
use Rattle.maildir_files.specs.Directory.{directory, is_inbox, directory_named}
use Rattle.maildir_files.proofs.NameLemmas.{elsewhere, not_inbox}
use Rattle.maildir_files.proofs.directory.directory_of.Goals as goal

pub returns : goal.returns
returns c =
    let other : is_inbox c.args.name.now ≡ false = not_inbox c.eq_ignore_ascii_case.result c.args.name.now c.eq_ignore_ascii_case.ensures.test c.if-eq_ignore_ascii_case.false in
    let told : directory_named c.args.separator c.as_slice.result.now ≡ directory c.args.separator c.args.name.now =
    ap (directory_named c.args.separator) (c.as_slice.ensures ∙ c.in_ok-name.ensures) ∙ elsewhere _ _ other in
    subst (λ (text : List ℕ). IfOk c.named.result (λ place. place ≡ text)) told c.named.ensures
