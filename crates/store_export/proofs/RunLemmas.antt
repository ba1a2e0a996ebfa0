-- One copy more in its run.
use Rattle.std.proofs.Common.{◌≡◌, ◌++◌, List, [], ◌∷◌, Option, Some, refl, ap}
use Rattle.store_accounts.specs.declared.filing.Filing.{Filing}
use Rattle.store_export.specs.declared.run.Run.{Run}
use Rattle.store_export.specs.Parts.{run_with}
use Rattle.store_export.specs.Places.{copy_place, copy_places}

-- the run of the last of these copies, behind this one
abbrev pub run_after : Option Run → List Filing → Option Run
run_after run [] = run
run_after run (f ∷ filings) = run_after (Some (run_with run f.n f.id)) filings

pub run_after-append : (run : Option Run) (fs : List Filing) (f : Filing) → run_after run (fs ++ f ∷ []) ≡ Some (run_with (run_after run fs) f.n f.id)
run_after-append run [] f = refl
run_after-append run (g ∷ fs) f = run_after-append (Some (run_with run g.n g.id)) fs f

pub copy_places-append : (run : Option Run) (fs : List Filing) (f : Filing) → copy_places run (fs ++ f ∷ []) ≡ copy_places run fs ++ copy_place (run_after run fs) f ∷ []
copy_places-append run [] f = refl
copy_places-append run (g ∷ fs) f = ap (λ l. copy_place run g ∷ l) (copy_places-append (Some (run_with run g.n g.id)) fs f)
