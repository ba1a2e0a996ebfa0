use Rattle.std.proofs.Common.{◌≡◌, ℕ, List, IfOk, sym, ◌∙◌, subst}
use Rattle.maildir_files.specs.Directory.{digest_form, directory_named}
use Rattle.maildir_files.proofs.NameLemmas.{place_spelled, place_digest}
use Rattle.maildir_files.proofs.directory.named.Goals as goal

pub returns-in-Some : goal.returns-in-Some
returns-in-Some c = place_spelled _ _ _ _ (sym c.in-Some.is ∙ c.in_ok-place.ensures)

pub returns-in-None : goal.returns-in-None
returns-in-None c =
    let told : digest_form c.args.name.now ≡ directory_named c.args.separator c.args.name.now = place_digest _ _ _ (sym c.in-None.is ∙ c.in_ok-place.ensures) in
    subst (λ (text : List ℕ). IfOk c.digest_form.result (λ place. place ≡ text)) told c.digest_form.ensures
