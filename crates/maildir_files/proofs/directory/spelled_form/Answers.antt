use Rattle.std.proofs.Common.{◌≡◌, true, ap, sym, ◌∙◌, refl, arith, rules}
use Rattle.std.proofs.lemmas.Grind.{common_steps}
use Rattle.maildir_files.specs.Directory.{has_form}
use Rattle.maildir_files.specs.Levels.{has_levels}
use Rattle.maildir_files.specs.Spelling.{separator_octet, spelled_directory}
use Rattle.maildir_files.proofs.NameLemmas.{form_is, no_text}
use Rattle.maildir_files.proofs.directory.spelled_form.Goals as goal

pub returns-in_default : goal.returns-in_default
returns-in_default c = rw (no_text c.args.separator c.args.name.now c.in_default.ensures.cases.0) refl

pub returns : goal.returns
returns c =
    let told : c.from_vec-place.result ≡ spelled_directory c.args.separator c.args.name.now =
    first_of (cc (c.from_vec-place.ensures, c.into_bytes.ensures.value, c.in_ok-written.ensures, ap (spelled_directory c.args.separator) c.in-Ok.ensures.cases.0), search rules, grind (arith, common_steps)) in
    let levels : has_levels (separator_octet c.args.separator) c.args.name.now ≡ true = ap (λ octet. has_levels octet c.args.name.now) (sym c.octet.ensures) ∙ sym c.if-not-has_levels.ensures in
    let form : has_form c.args.separator c.args.name.now ≡ true =
    form_is c.args.separator c.args.name.now _ _ c.in-Ok.ensures.cases.1 told c.as_slice.ensures levels (sym c.if-not-is_listed.ensures) (sym c.if-not-is_own.ensures) in
    rw form (cc told)
