-- A script of the length 0 is none, and no fault.
use Rattle.std.proofs.Common.{◌≡◌, ℕ, List, [], ◌∷◌, Option, Result, Ok, Err, subst}
use Rattle.sieve_lex.specs.Finding.{IfFault}
use Rattle.sieve_lex.specs.declared.fault.ScriptError.{ScriptError}
use Rattle.sieve_lex.specs.declared.fault.ScriptError.TheVariants.{Memory, Fault}
use Rattle.sieve_syntax.specs.Means.{Means}
use Rattle.sieve_syntax.specs.Tree.{Commands}
use Rattle.store_engine.specs.Attempts.{IsNoScript}
use Rattle.cli_run.specs.TryScript.{own_script}

no_script : (script : List ℕ) → IsNoScript (own_script script) → (tree : Commands) → Means script tree → ⊥
no_script [] none tree means = none
no_script (octet ∷ more) none tree means = none tree means

pub fault_of_own : {X : Type 0} (script : List ℕ) (own : Option (List ℕ)) (r : Result X ScriptError) → own ≡ own_script script → IfFault r (IsNoScript own)
    → IfFault r ((tree : Commands) → Means script tree → ⊥)
fault_of_own script own (Ok done) is none = tt
fault_of_own script own (Err Memory) is none = tt
fault_of_own script own (Err (Fault fault)) is none = no_script script (subst IsNoScript is none)
