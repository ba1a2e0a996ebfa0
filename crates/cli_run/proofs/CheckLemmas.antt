-- What comes of a text that is checked.
use Rattle.std.proofs.Common.{◌≡◌, ℕ, List, Option, Some, None, Ok, Err, codes, refl, subst}
use Rattle.store_accounts.specs.declared.refusal.Refusal.TheVariants.{ScriptTooLarge}
use Rattle.sieve_lex.specs.declared.fault.ScriptFault.{ScriptFault}
use Rattle.cli_run.specs.declared.fault.RunFault.{RunFault}
use Rattle.cli_run.specs.declared.fault.RunFault.TheVariants.{Refused}
use Rattle.cli_run.specs.Faults.{run_fault_line}
use Rattle.cli_run.specs.Checks.{Finding, IsChecked, PrintsFinding, TellsFinding, status_found, check_fault_line}
use Rattle.cli_run.specs.Streams.{ReadsAll}
use Rattle.cli_run.specs.TryScript.{OfInput}

-- what is so of what was read is so of the input
pub of_input : (given : Option (List ℕ)) (octets : List ℕ) (P : List ℕ → Type 0) → ReadsAll given octets → P octets → OfInput given P
of_input None octets P read p = (octets, p)
of_input (Some input) octets P read p = subst P read p

-- of any other fault the file isn't told
pub told_otherwise : (file : Option (List ℕ)) (fault : RunFault) → (fault ≡ Refused ScriptTooLarge → ⊥) → check_fault_line file fault ≡ run_fault_line fault
told_otherwise None fault other = refl
told_otherwise (Some file) (Refused ScriptTooLarge) other = absurd (other refl)
told_otherwise (Some file) fault other = refl

-- what was found is told so
pub found_told : (file : Option (List ℕ)) (text : List ℕ) (out_old out_new err_old err_new : Option (List ℕ)) (status : ℕ) (found finding : Finding) → found ≡ finding → PrintsFinding file text out_old out_new found → status ≡ status_found finding
    → TellsFinding file err_old err_new finding → IsChecked file text out_old out_new err_old err_new status
found_told file text out_old out_new err_old err_new status found finding is printed ended told =
    record { finding = finding; ended = ended; printed = subst (PrintsFinding file text out_old out_new) is printed; told = told }

-- ---- by example

large-told : check_fault_line (Some (codes "a.sieve")) (Refused ScriptTooLarge) ≡ codes "a.sieve: script too large\n"
large-told = refl

-- near miss: a fault is found, and the status says that none is
fault-hidden : (fault : ScriptFault) → status_found (Ok (Some fault)) ≡ 0 → ⊥
fault-hidden fault h = cc
