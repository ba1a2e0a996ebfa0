-- Runs of blanks and runs of other octets.
use Rattle.std.specs.Prelude.{◌≡◌, ◌≢◌, ◌⊎◌, ℕ, Bool, true, false, cond, not, List, [], ◌∷◌, ◌++◌}
use Rattle.std.specs.List.{list_all}
use Rattle.octets.specs.Ascii.{is_blank}
use Rattle.mail_head.specs.Lines.{begins_blank}

-- neither SP nor TAB
abbrev pub is_nonblank : ℕ → Bool
is_nonblank octet = not (is_blank octet)

-- whether a text begins with an octet other than a blank
abbrev pub begins_nonblank : List ℕ → Bool
begins_nonblank [] = false
begins_nonblank (octet ∷ rest) = is_nonblank octet

-- octets of one kind, with none of that kind after them
abbrev pub IsRun : List ℕ → List ℕ → Type 0
IsRun run rest =
    ((list_all is_blank run ≡ true) × (begins_blank rest ≡ false))
    ⊎ ((list_all is_nonblank run ≡ true) × (begins_nonblank rest ≡ false))

-- the blank runs and other runs whose concatenation it is
abbrev pub AreRuns : List (List ℕ) → List ℕ → Type 0
AreRuns [] text = text ≡ []
AreRuns (run ∷ more) text = (rest : List ℕ) × ((text ≡ run ++ rest) × ((run ≢ []) × (IsRun run rest × AreRuns more rest)))

-- an octet before runs: it joins the first one if that is of its kind
abbrev pub before_runs : ℕ → List (List ℕ) → List (List ℕ)
before_runs octet [] = (octet ∷ []) ∷ []
before_runs octet (run ∷ more) =
    cond (cond (is_blank octet) (begins_blank run) (begins_nonblank run)) ((octet ∷ run) ∷ more) ((octet ∷ []) ∷ run ∷ more)

-- the runs of a text: the one list that is in AreRuns with it
abbrev pub runs_of : List ℕ → List (List ℕ)
runs_of [] = []
runs_of (octet ∷ rest) = before_runs octet (runs_of rest)
