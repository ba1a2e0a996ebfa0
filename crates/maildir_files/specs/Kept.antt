-- What a sink keeps.
use Rattle.std.specs.Prelude.{◌≡◌, ℕ, ◌⊎◌, List, [], ◌∷◌, ◌++◌}
use Rattle.maildir_files.specs.declared.kept.KeptMail.{KeptMail}

-- the message that has this number in the user's folder, with its flags there
abbrev pub kept_mail : List ℕ → List ℕ → ℕ → List ℕ → List ℕ → KeptMail
kept_mail user folder number message flags = record { user = user; folder = folder; number = number; message = message; flags = flags }

-- after a try that was refused: the messages as they were, or with this one at their end
abbrev pub MayKeep : List KeptMail → KeptMail → List KeptMail → Type 0
MayKeep old mail new = (new ≡ old) ⊎ (new ≡ old ++ mail ∷ [])

-- what held at a path still holds there
abbrev pub StaysTrue : {S : Type 0} → (S → List ℕ → Type 0) → S → S → Type 0
StaysTrue at old new = (path : List ℕ) → at old path → at new path

-- what held of a message at a path still holds there
abbrev pub StaysPlaced : {S : Type 0} → (S → List ℕ → KeptMail → Type 0) → S → S → Type 0
StaysPlaced placed old new = (path : List ℕ) (mail : KeptMail) → placed old path mail → placed new path mail
