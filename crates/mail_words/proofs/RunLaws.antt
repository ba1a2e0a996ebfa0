-- A text has one list of runs.
use Rattle.std.proofs.Common.{◌≡◌, ◌≢◌, ℕ, Bool, true, false, cond, not, List, [], ◌∷◌, ◌++◌, refl, sym, ap, ◌∙◌, inl, inr}
use Rattle.octets.specs.Ascii.{is_blank}
use Rattle.mail_head.specs.Lines.{begins_blank}
use Rattle.mail_head.proofs.FoldLemmas.{and_left, and_true}
use Rattle.mail_words.specs.Runs.{begins_nonblank, IsRun, AreRuns, before_runs, runs_of}
use Rattle.mail_words.proofs.RunLemmas.{runs_blank, runs_nonblank}

-- and no other list is
pub runs_only : (text : List ℕ) (runs : List (List ℕ)) → AreRuns runs text → runs ≡ runs_of text
runs_only text [] are = ap runs_of (sym are)
runs_only text (run ∷ more) (rest, (spelled, (present, (kind, are)))) =
    ap (λ t. run ∷ t) (runs_only rest more are) ∙ (first run rest present kind ∙ ap runs_of (sym spelled)) where
      first : (run rest : List ℕ) → run ≢ [] → IsRun run rest → run ∷ runs_of rest ≡ runs_of (run ++ rest)
      first run rest present (inl blank) = sym (runs_blank run rest present blank.0 blank.1)
      first run rest present (inr nonblank) = sym (runs_nonblank run rest present nonblank.0 nonblank.1)

-- an octet before a run
longer : (octet : ℕ) (run rest : List ℕ) (blank : Bool) → is_blank octet ≡ blank → run ≢ [] → IsRun run rest → cond blank (begins_blank run) (begins_nonblank run) ≡ true → IsRun (octet ∷ run) rest
longer octet [] rest blank is present kind same = absurd (present refl)
longer octet (next ∷ run) rest true is present (inl all) same = inl (and_true _ _ is all.0, all.1)
longer octet (next ∷ run) rest true is present (inr all) same = absurd (differs (is_blank next) same (and_left _ _ all.0)) where
  differs : (test : Bool) → test ≡ true → not test ≡ true → ⊥
  differs true a b = cc b
  differs false a b = cc a
longer octet (next ∷ run) rest false is present (inr all) same = inr (and_true _ _ (ap not is) all.0, all.1)
longer octet (next ∷ run) rest false is present (inl all) same = absurd (differs (is_blank next) same (and_left _ _ all.0)) where
  differs : (test : Bool) → not test ≡ true → test ≡ true → ⊥
  differs true a b = cc a
  differs false a b = cc b

-- an octet apart from what follows
apart : (octet : ℕ) (run rest : List ℕ) (blank : Bool) → is_blank octet ≡ blank → run ≢ [] → cond blank (begins_blank run) (begins_nonblank run) ≡ false → IsRun (octet ∷ []) (run ++ rest)
apart octet [] rest blank is present other = absurd (present refl)
apart octet (next ∷ run) rest true is present other = inl (and_true _ _ is refl, other)
apart octet (next ∷ run) rest false is present other = inr (and_true _ _ (ap not is) refl, other)

alone : (octet : ℕ) (blank : Bool) → is_blank octet ≡ blank → IsRun (octet ∷ []) []
alone octet true is = inl (and_true _ _ is refl, refl)
alone octet false is = inr (and_true _ _ (ap not is) refl, refl)

found_before : (octet : ℕ) (rest : List ℕ) (run : List ℕ) (more : List (List ℕ)) (test : Bool) → cond (is_blank octet) (begins_blank run) (begins_nonblank run) ≡ test → AreRuns (run ∷ more) rest
    → AreRuns (cond test ((octet ∷ run) ∷ more) ((octet ∷ []) ∷ run ∷ more)) (octet ∷ rest)
found_before octet rest run more true same (after, (spelled, (present, (kind, are)))) =
    (after, (ap (λ t. octet ∷ t) spelled, ((λ none. absurd (cc none)), (longer octet run after (is_blank octet) refl present kind same, are))))
found_before octet rest run more false other (after, (spelled, (present, (kind, are)))) =
    (rest, (refl, ((λ none. absurd (cc none)), (apart_at octet rest run after spelled present other, (after, (spelled, (present, (kind, are)))))))) where
      apart_at : (octet : ℕ) (rest run after : List ℕ) → rest ≡ run ++ after → run ≢ [] → cond (is_blank octet) (begins_blank run) (begins_nonblank run) ≡ false → IsRun (octet ∷ []) rest
      apart_at octet rest run after spelled present other = rw spelled (apart octet run after (is_blank octet) refl present other)

-- an octet before the runs of what follows
runs_step : (octet : ℕ) (rest : List ℕ) (runs : List (List ℕ)) → AreRuns runs rest → AreRuns (before_runs octet runs) (octet ∷ rest)
runs_step octet rest [] are = ([], (ap (λ t. octet ∷ t) are, ((λ none. absurd (cc none)), (alone octet (is_blank octet) refl, refl))))
runs_step octet rest (run ∷ more) are = found_before octet rest run more (cond (is_blank octet) (begins_blank run) (begins_nonblank run)) refl are

-- the runs of a text are its runs
pub runs_found : (text : List ℕ) → AreRuns (runs_of text) text
runs_found [] = refl
runs_found (octet ∷ rest) = runs_step octet rest (runs_of rest) (runs_found rest)
