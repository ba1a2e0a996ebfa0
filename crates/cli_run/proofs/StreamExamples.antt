-- Calls in turn by example: right ones, and what is near them.
use Rattle.std.proofs.Common.{◌≡◌, ℕ, List, [], Option, Some, None, true, false, refl, sym, ◌∙◌, append-nil, inl, inr}
use Rattle.std.specs.Prelude.{codes}
use Rattle.store_lock.specs.declared.keeper.StoreUnavailable.{StoreUnavailable}
use Rattle.store_lock.specs.declared.keeper.StoreUnavailable.TheVariants.{Busy}
use Rattle.cli_run.specs.Streams.{ReadGoesOn, ReadsToEnd, WasInterrupted, tells_end}
use Rattle.cli_run.specs.Streams.InTurn.{none_yet, one_more}
use Rattle.cli_run.specs.Serving.{IsDenialNoted, KeepsFirst}
use Rattle.cli_run.specs.declared.fault_with_cause.FirstFault.{FirstFault}
use Rattle.cli_run.specs.declared.fault_with_cause.FaultWithCause.{FaultWithCause}

-- a reader that is the octets that it has left
abbrev left : List ℕ → Option (List ℕ)
left octets = Some octets

-- both octets at once, and then the end is told
read_whole : ReadsToEnd left (codes "ab") []
read_whole = record { mid = []; reads = (1, one_more 0 (codes "ab") [] none_yet (inl (codes "ab", λ e. cc, refl))); ends = tells_end left [] [] refl refl }

-- at the end no read goes on, but one that was interrupted
ends_there : (WasInterrupted {X = List ℕ} [] [] → ⊥) → ReadGoesOn left [] [] → ⊥
ends_there never goes = elim goes [ inl read ↦ read.1 (sym (read.2 ∙ append-nil read.0)) | inr signal ↦ never signal ]

-- of two faults the first is kept, and whether it was told
module _ (first second : FaultWithCause) where
  abbrev noted : FaultWithCause → FirstFault
  noted fault = record { fault = Some fault; is_told = false }

  first_kept : KeepsFirst (noted first) (noted first)
  first_kept = (refl, refl)

  second_kept : KeepsFirst (noted first) (noted second) → second ≡ first
  second_kept h = let is : Some second ≡ Some first = h.1 in cc

  -- and it isn't told once more
  told_again : KeepsFirst (record { fault = Some first; is_told = true }) (noted first) → ⊥
  told_again h = let is : false ≡ true = h.0 in cc

-- what isn't noted comes of another process that had the store
unnoted : (Denied : StoreUnavailable → Type 0) → IsDenialNoted Denied (record { fault = None; is_told = false }) → Denied Busy
unnoted Denied h = elim h [ inl some ↦ let no : false ≡ true = some in absurd (let never : ⊥ = cc in never) | inr busy ↦ busy ]
