use Rattle.std.proofs.Common.{◌≡◌, ◌==◌, ◌++◌, false, length, string_bytes, sym, ◌∙◌, ap}
use Rattle.base64.specs.GeneralPurpose.{encode_of}
use Rattle.maildir_files.proofs.RunLemmas.{nothing_begun, nothing_written, run_written}
use Rattle.maildir_files.proofs.spelling.push_run.Goals as goal

pub returns-then-is_empty-clause-empty : goal.returns-then-is_empty-clause-empty
returns-then-is_empty-clause-empty c = nothing_begun _ (ap (λ l. length l == 0) (sym c.as_slice-octets.ensures.value) ∙ sym c.is_empty.ensures ∙ c.if-is_empty.true)

pub returns-then-is_empty-clause-written : goal.returns-then-is_empty-clause-written
returns-then-is_empty-clause-written c = nothing_written _ _ (ap (λ l. length l == 0) (sym c.as_slice-octets.ensures.value) ∙ sym c.is_empty.ensures ∙ c.if-is_empty.true)

pub returns-clause-written : goal.returns-clause-written
returns-clause-written c =
    let some : (length c.args.run.now.items == 0) ≡ false = ap (λ l. length l == 0) (sym c.as_slice-octets.ensures.value) ∙ sym c.is_empty.ensures ∙ c.if-is_empty.false in
    let told = c.in_ok-encode_string.ensures.ok ∙ ap (λ l. string_bytes c.push_str.new.self ++ encode_of c.args.engine.now l) c.as_slice-octets.ensures.value in
    run_written c.args.engine.now (string_bytes c.args.directory.now) _ _ _ c.args.run.now.items c.requires some c.in_ok-push_str.ensures.bytes told c.in_ok-push_str-2.ensures.bytes
