-- A run that is written.
use Rattle.std.proofs.Common.{◌≡◌, ℕ, ◌==◌, true, false, List, [], ◌∷◌, ◌++◌, length, codes, refl, sym, ◌∙◌, ap, append_assoc, append-nil}
use Rattle.std.proofs.lemmas.Bool.{eqb-true}
use Rattle.std.proofs.lemmas.List.{nil_from_length}
use Rattle.base64.specs.GeneralPurpose.{encode_of}
use Rattle.base64.specs.declared.engine.general_purpose.GeneralPurpose.{GeneralPurpose}
use Rattle.maildir_files.specs.Spelling.{IsModified, modified_base64, run_spelled}

pub encodes_modified : (engine : GeneralPurpose) → IsModified engine → (octets : List ℕ) → encode_of engine octets ≡ modified_base64 octets
encodes_modified engine fit octets = rw (fit.symbols, fit.unpadded) refl

pub nothing_begun : (run : List ℕ) → (length run == 0) ≡ true → run ≡ []
nothing_begun run empty = nil_from_length run (eqb-true (length run) 0 empty)

pub nothing_written : (start run : List ℕ) → (length run == 0) ≡ true → start ≡ start ++ run_spelled run
nothing_written start run empty = sym (append-nil start) ∙ ap (λ begun. start ++ run_spelled begun) (sym (nothing_begun run empty))

pub run_written : (engine : GeneralPurpose) (start opened filled closed run : List ℕ) → IsModified engine → (length run == 0) ≡ false
    → opened ≡ start ++ codes "&" → filled ≡ opened ++ encode_of engine run → closed ≡ filled ++ codes "-"
    → closed ≡ start ++ run_spelled run
run_written engine start opened filled closed [] fit empty one two three = cc
run_written engine start opened filled closed (octet ∷ more) fit empty one two three =
    let symbols = modified_base64 (octet ∷ more) in
    let told : filled ≡ (start ++ codes "&") ++ symbols = two ∙ ap (λ text. opened ++ text) (encodes_modified engine fit (octet ∷ more)) ∙ ap (λ text. text ++ symbols) one in
    three ∙ ap (λ text. text ++ codes "-") told ∙ append_assoc (start ++ codes "&") symbols (codes "-") ∙ append_assoc start (codes "&") (symbols ++ codes "-")
