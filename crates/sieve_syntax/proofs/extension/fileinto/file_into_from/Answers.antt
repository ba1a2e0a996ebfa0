use Rattle.std.proofs.lemmas.Result.{err_from_is_err_and}
use Rattle.sieve_syntax.proofs.FaultLemmas.{fault_on}
use Rattle.sieve_syntax.proofs.TableLemmas.{finds_one}
use Rattle.sieve_syntax.proofs.ExtensionLaws.FileInto.{file_into_same, file_into_no_text}
use Rattle.sieve_syntax.proofs.extension.fileinto.file_into_from.Goals as goal

pub returns-in_err-mailbox : goal.returns-in_err-mailbox
returns-in_err-mailbox c =
    let p = err_from_is_err_and c.from_residual.result c.from_residual.ensures.1 in
    rw (p.1, p.2) (fault_on _ _ _ (file_into_no_text _ _) c.in_err-mailbox.ensures.fault)

pub returns : goal.returns
returns c = finds_one _ (file_into_same _ _) _ (record { mailbox = c.in_ok-mailbox.ensures.found; copy = c.given_copy.ensures; create = c.given_create.ensures; flags = c.in_ok-flags.ensures })
