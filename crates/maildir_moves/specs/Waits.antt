-- A user who waits for a turn: how many turns others have meanwhile.
use Rattle.std.specs.Prelude.{◌≡◌, ℕ, List, [], ◌∷◌, Option, Some, None}
use Rattle.store_tables.specs.Rows.{Tables}
use Rattle.store_accounts.specs.declared.next.CopyKey.{CopyKey}
use Rattle.maildir_moves.specs.Order.{IsMail, IsNextTurnUser, IsRoundOver}

-- mail of the user is there
abbrev pub HasMailFor : Tables → List ℕ → Type 0
HasMailFor tables user = (f : CopyKey) × IsMail tables f × (f.user ≡ user)

-- a user has a turn, or a round ends, and that one had the last turn then
abbrev pub TurnFollows : Tables → Option (List ℕ) → Option (List ℕ) → Option (List ℕ) → Type 0
TurnFollows tables last (Some user) later = IsNextTurnUser tables last user × (later ≡ Some user)
TurnFollows tables last None later = IsRoundOver tables last × (later ≡ None)

-- turns one after the other, whatever tables each of them finds, in which a user has mail and no turn
abbrev pub WaitsForTurn : List ℕ → Option (List ℕ) → List (Option (List ℕ)) → Type 0
WaitsForTurn user last [] = Unit {0}
WaitsForTurn user last (turn ∷ turns) = (tables : Tables) × HasMailFor tables user × ¬ (turn ≡ Some user) × ((later : Option (List ℕ)) × TurnFollows tables last turn later × WaitsForTurn user later turns)

-- a user has none of these turns
abbrev pub HasNoTurn : List ℕ → List (Option (List ℕ)) → Type 0
HasNoTurn user [] = Unit {0}
HasNoTurn user (turn ∷ turns) = ¬ (turn ≡ Some user) × HasNoTurn user turns

-- none has two of them
abbrev pub OneEach : List (Option (List ℕ)) → Type 0
OneEach [] = Unit {0}
OneEach (Some user ∷ turns) = HasNoTurn user turns × OneEach turns
OneEach (None ∷ turns) = OneEach turns

-- who has mail waits for one turn of each other user, at most
abbrev pub WaitsForOneEach : Type 0
WaitsForOneEach = (user : List ℕ) (last : Option (List ℕ)) (turns : List (Option (List ℕ))) → WaitsForTurn user last turns → OneEach turns
