-- What comes of words that were read, and of what is told at the end.
use Rattle.std.proofs.Common.{◌≡◌, ℕ, Bool, List, Option, Some, None, Ok, Err, IfSome, refl, subst, sym}
use Rattle.store_accounts.specs.declared.refusal.Refusal.{Refusal}
use Rattle.store_accounts.specs.declared.refusal.Refusal.TheVariants as refusal
use Rattle.cli_subcommands.specs.declared.subcommand.Subcommand.{Subcommand}
use Rattle.cli_subcommands.specs.declared.subcommand.Subcommand.TheVariants as word
use Rattle.cli_subcommands.specs.declared.subcommand.try_script.TryArgs.{TryArgs}
use Rattle.cli_run.specs.declared.fault.RunFault.{RunFault}
use Rattle.cli_run.specs.declared.fault.RunFault.TheVariants.{Refused, Invalid}
use Rattle.cli_run.specs.Faults.{store_failed, run_fault_lines, faults_told, AreTold}
use Rattle.cli_run.specs.Streams.{IsWritten}
use Rattle.cli_run.specs.Draining.{SinkMails}
use Rattle.cli_run.specs.Subcommands.{DoesSubcommand, Reached, ReachesStore, RunStreams, RunsAs, RunsSubcommand, Surroundings, TouchesNothing}
use Rattle.cli_run.specs.Transitions.{TablesMove}
use Rattle.cli_run.specs.TryScript.{Tries}

-- a subcommand that works on a store did, or a script was tried
module _ (around : Surroundings) (end : Reached) (streams : RunStreams) (sink : SinkMails) (status : ℕ) (tables : TablesMove) where
  pub ran : (asked : Subcommand) → ((a : _) → asked ≡ word.Try a → ⊥)
      → RunsSubcommand (λ ending. DoesSubcommand around streams.input sink streams.output asked ending tables) (ReachesStore end.given end.at asked) end.cause streams.errors.old streams.errors.new status
      → RunsAs around end streams sink status tables (Ok asked)
  ran (word.Try a) other works = absurd (other a refl)
  ran asked other works = works

  -- a script was tried
  pub tried : (asked : Subcommand) (a : TryArgs) → asked ≡ word.Try a → Tries a around.clock around.host streams.input.old streams.output streams.errors status × TouchesNothing sink tables
      → RunsAs around end streams sink status tables (Ok asked)
  tried asked a is works = subst (λ o. RunsAs around end streams sink status tables (Ok o)) (sym is) works

-- ---- what is told at the end

module _ (cause : RunFault → Option (List ℕ)) (old mid new : Option (List ℕ)) where
  -- after Ok why the store couldn't be closed, if it couldn't
  pub told_done : (unclosed : Option Refusal) → IfSome unclosed (λ why. IsWritten old new (run_fault_lines cause (Refused why))) → (unclosed ≡ None → new ≡ old) → AreTold old new cause (faults_told unclosed (Ok tt))
  told_done None some none = none refl
  told_done (Some why) some none = (new, some, refl)

  -- and no more of a script that isn't valid
  pub told_invalid : (unclosed : Option Refusal) → IfSome unclosed (λ why. IsWritten old new (run_fault_lines cause (Refused why))) → (unclosed ≡ None → new ≡ old) → AreTold old new cause (faults_told unclosed (Err Invalid))
  told_invalid None some none = none refl
  told_invalid (Some why) some none = (new, some, refl)

  -- the store failed, and that is all
  pub told_failed : (unclosed : Option Refusal) → IsWritten old new (run_fault_lines cause store_failed) → AreTold old new cause (faults_told unclosed (Err store_failed))
  told_failed None told = (new, told, refl)
  told_failed (Some why) told = (new, told, refl)

  -- after another fault that too
  pub told_fault : (unclosed : Option Refusal) (fault : RunFault) → (fault ≡ store_failed → ⊥) → (fault ≡ Invalid → ⊥) → IfSome unclosed (λ why. IsWritten old mid (run_fault_lines cause (Refused why))) → (unclosed ≡ None → mid ≡ old) → IsWritten mid new (run_fault_lines cause fault)
      → AreTold old new cause (faults_told unclosed (Err fault))
  told_fault None (Refused refusal.Store) other valid some none told = absurd (other refl)
  told_fault (Some why) (Refused refusal.Store) other valid some none told = absurd (other refl)
  told_fault None Invalid other valid some none told = absurd (valid refl)
  told_fault (Some why) Invalid other valid some none told = absurd (valid refl)
  told_fault None fault other valid some none told = (new, subst (λ o. IsWritten o new (run_fault_lines cause fault)) (none refl) told, refl)
  told_fault (Some why) fault other valid some none told = (mid, some, (new, told, refl))
