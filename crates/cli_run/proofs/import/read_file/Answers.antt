-- All was read, and the text is that of the account; its name may be another one.
use Rattle.std.proofs.Common.{◌≡◌, List, refl, subst, sym, rules}
use Rattle.store_text.specs.Text.{IsAccountText}
use Rattle.store_text.specs.declared.part.Part.{Part}
use Rattle.cli_run.specs.Streams.{ReadsAll}
use Rattle.cli_run.proofs.import.read_file.Goals as goal

pub returns-clause-read : goal.returns-clause-read
returns-clause-read g c =
    let text = c.as_slice.result.now in
    let head = c.in_ok-file.file.head in
    let is : text ≡ c.in_ok-octets.octets.items = search rules in
    record {
      text = text;
      read = subst (ReadsAll (g.R.Read.remaining c.args.input.now)) (sym is) c.in_ok-octets.ensures.ok;
      written = head;
      file = c.in_ok-rename.field-0;
      spelled = subst (λ (parts : List Part). IsAccountText text head parts) (sym c.in_ok-rename.ensures.parts) c.in_ok-file.ensures.found;
      named = c.in_ok-rename.ensures.head;
      same = refl;
    }
