-- What a part of the parser returns.
use Rattle.std.specs.Prelude.{◌≡◌, List, ◌∷◌, ◌++◌, Result, Ok, Err}
use Rattle.sieve_syntax.specs.declared.error.ParseError.{ParseError}
use Rattle.sieve_syntax.specs.declared.error.ParseError.TheVariants.{Memory, Fault}
use Rattle.sieve_lex.specs.declared.token.Mark.{Mark}
use Rattle.sieve_syntax.specs.Lexemes.{Lexeme, mark}

-- this holds if the error is a fault of the script; lack of memory says nothing
abbrev pub OnParseFault : ParseError → Type 0 → Type 0
OnParseFault Memory p = Unit {0}
OnParseFault (Fault _) p = p

-- this holds if a fault is returned
abbrev pub IfParseFault : {X : Type 0} → Result X ParseError → Type 0 → Type 0
IfParseFault (Ok _) p = Unit {0}
IfParseFault (Err e) p = OnParseFault e p

-- the only x with P, or a fault if there is none
abbrev pub FindsValue : {X : Type 0} → (X → Type 0) → Result X ParseError → Type 0
FindsValue {X} P (Ok x) = P x × ((y : X) → P y → y ≡ x)
FindsValue {X} P (Err e) = OnParseFault e ((y : X) → P y → ⊥)

-- the only x with P, which fits, or a fault if no x with P fits
abbrev pub FindsFit : {X : Type 0} → (X → Type 0) → (X → Type 0) → Result X ParseError → Type 0
FindsFit {X} P Fit (Ok x) = P x × Fit x × ((y : X) → P y → y ≡ x)
FindsFit {X} P Fit (Err e) = OnParseFault e ((y : X) → P y → Fit y → ⊥)

-- the only y with P that `from` begins with, as the view of what was read, and what follows it, or a fault if there is none
abbrev pub Parses : {X Y : Type 0} → (X → Y) → (Y → List Lexeme → List Lexeme → Type 0) → List Lexeme → List Lexeme → Result X ParseError → Type 0
Parses {X} {Y} view P from to (Ok x) = P (view x) from to × ((y : Y) (end : List Lexeme) → P y from end → (y ≡ view x) × (end ≡ to))
Parses {X} {Y} view P from to (Err e) = OnParseFault e ((y : Y) (end : List Lexeme) → P y from end → ⊥)

-- `from` begins with nothing with P but this, up to `to`
abbrev pub StandsAlone : {Y : Type 0} → (Y → List Lexeme → List Lexeme → Type 0) → Y → List Lexeme → List Lexeme → Type 0
StandsAlone {Y} P y from to = (other : Y) (end : List Lexeme) → P other from end → (other ≡ y) × (end ≡ to)

-- `from` begins with nothing with P
abbrev pub StandsNowhere : {Y : Type 0} → (Y → List Lexeme → List Lexeme → Type 0) → List Lexeme → Type 0
StandsNowhere {Y} P from = (y : Y) (end : List Lexeme) → P y from end → ⊥

-- those with P that `from` begins with, up to `to`, were added after the old ones
abbrev pub Extends : {Y : Type 0} → (List Y → List Lexeme → List Lexeme → Type 0) → List Y → List Y → List Lexeme → List Lexeme → Type 0
Extends {Y} P old new from to = (more : List Y) × ((new ≡ old ++ more) × P more from to)

-- `from` begins with none but those that were added
abbrev pub ExtendsAlone : {Y : Type 0} → (List Y → List Lexeme → List Lexeme → Type 0) → List Y → List Y → List Lexeme → List Lexeme → Type 0
ExtendsAlone {Y} P old new from to = (more : List Y) (end : List Lexeme) → P more from end → (new ≡ old ++ more) × (end ≡ to)

-- those with P that `from` begins with are added after the old ones, up to `to`, and it begins with no others; or a
-- fault if it begins with none
abbrev pub ParsesMore : {X Y : Type 0} → (X → List Y) → (List Y → List Lexeme → List Lexeme → Type 0) → List Y → List Lexeme → List Lexeme → Result X ParseError → Type 0
ParsesMore view P old from to (Ok all) = Extends P old (view all) from to × ExtendsAlone P old (view all) from to
ParsesMore view P old from to (Err e) = OnParseFault e (StandsNowhere P from)

-- what comes first up to a mark, and the mark
abbrev pub Closed : {Y : Type 0} → Mark → (Y → List Lexeme → List Lexeme → Type 0) → Y → List Lexeme → List Lexeme → Type 0
Closed kind P y from to = P y from (mark kind ∷ to)
