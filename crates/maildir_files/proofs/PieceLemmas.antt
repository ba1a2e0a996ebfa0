-- How pieces grow at their front.
use Rattle.std.proofs.Common.{◌≡◌, ℕ, ◌==◌, cond, Bool, true, false, nat_lt, List, [], ◌∷◌, ◌++◌, refl, sym, ◌∙◌, ap, subst, append_assoc, append-nil}
use Rattle.octets.specs.Ascii.{is_printable}
use Rattle.maildir_files.specs.declared.separator.Separator.{Separator}
use Rattle.maildir_files.specs.Spelling.{NamePiece, Printable, Run, before_pieces, cuts, separator_octet, pieces_of, high_first, run_spelled, character_spelling, piece_spellings, utf16_of}

-- a run that was begun, before the pieces of what follows
abbrev pub with_run : List ℕ → List NamePiece → List NamePiece
with_run [] pieces = pieces
with_run (octet ∷ more) pieces = before_pieces (octet ∷ more) pieces

-- no level begins behind a run
abbrev EndsFront : List ℕ → Bool → Type 0
EndsFront [] begins = Unit {0}
EndsFront (octet ∷ more) begins = begins ≡ false

ends_front : (run : List ℕ) → EndsFront run false
ends_front [] = tt
ends_front (octet ∷ more) = refl

-- what is written and begun, with what is to come, is the whole after what stood there
pub record IsOnTheWay (separator : Separator) (start now run read : List ℕ) (begins : Bool) : Type 0 where
  pub behind : EndsFront run begins
  pub whole : (rest : List ℕ) → now ++ piece_spellings separator begins (with_run run (pieces_of rest)) ≡ start ++ piece_spellings separator true (pieces_of (read ++ rest))

pub before_twice : (first second : List ℕ) (pieces : List NamePiece) → before_pieces first (before_pieces second pieces) ≡ before_pieces (first ++ second) pieces
before_twice first second [] = refl
before_twice first second (Printable character ∷ more) = refl
before_twice first second (Run others ∷ more) = ap (λ octets. Run octets ∷ more) (sym (append_assoc first second others))

pub with_run-longer : (run : List ℕ) (octet : ℕ) (units : List ℕ) (pieces : List NamePiece)
    → with_run run (before_pieces (octet ∷ units) pieces) ≡ with_run (run ++ octet ∷ units) pieces
with_run-longer [] octet units pieces = refl
with_run-longer (first ∷ run) octet units pieces = before_twice (first ∷ run) (octet ∷ units) pieces

pub with_run-units : (two : Bool) (run : List ℕ) (one high low : ℕ) (pieces : List NamePiece)
    → with_run run (before_pieces (high_first (cond two (one ∷ []) (high ∷ low ∷ []))) pieces)
    ≡ with_run (run ++ high_first (cond two (one ∷ []) (high ∷ low ∷ []))) pieces
with_run-units true run one high low pieces = with_run-longer run _ _ pieces
with_run-units false run one high low pieces = with_run-longer run _ _ pieces

pub with_run-unit : (run : List ℕ) (character : ℕ) (pieces : List NamePiece)
    → with_run run (before_pieces (utf16_of character) pieces) ≡ with_run (run ++ utf16_of character) pieces
with_run-unit run character pieces = with_run-units (nat_lt character 0x1_0000) run _ _ _ pieces

pub with_run-printable : (separator : Separator) (begins : Bool) (run : List ℕ) (character : ℕ) (pieces : List NamePiece) → EndsFront run begins
    → piece_spellings separator begins (with_run run (Printable character ∷ pieces))
    ≡ run_spelled run ++ (character_spelling separator begins character ++ piece_spellings separator (cuts separator (Printable character)) pieces)
with_run-printable separator begins [] character pieces behind = refl
with_run-printable separator begins (octet ∷ run) character pieces behind = rw behind refl

pub with_run-end : (separator : Separator) (begins : Bool) (run : List ℕ) → piece_spellings separator begins (with_run run []) ≡ run_spelled run
with_run-end separator begins [] = refl
with_run-end separator begins (octet ∷ run) = append-nil (run_spelled (octet ∷ run))

before_any : (separator : Separator) (one two : Bool) (units : List ℕ) (pieces : List NamePiece)
    → piece_spellings separator one (before_pieces units pieces) ≡ piece_spellings separator two (before_pieces units pieces)
before_any separator one two units [] = refl
before_any separator one two units (Printable character ∷ more) = refl
before_any separator one two units (Run others ∷ more) = refl

-- a run is written alike at the front of a level and elsewhere
with_run-any : (separator : Separator) (one two : Bool) (run units : List ℕ) (pieces : List NamePiece)
    → piece_spellings separator one (with_run run (before_pieces units pieces)) ≡ piece_spellings separator two (with_run run (before_pieces units pieces))
with_run-any separator one two [] units pieces = before_any separator one two units pieces
with_run-any separator one two (octet ∷ run) units pieces = before_any separator one two (octet ∷ run) (before_pieces units pieces)

pub pieces-printable : (character : ℕ) (rest : List ℕ) → is_printable character ≡ true → pieces_of (character ∷ rest) ≡ Printable character ∷ pieces_of rest
pieces-printable character rest e = rw e refl

pub pieces-other : (character : ℕ) (rest : List ℕ) → is_printable character ≡ false → pieces_of (character ∷ rest) ≡ before_pieces (utf16_of character) (pieces_of rest)
pieces-other character rest e = rw e refl

-- the start
pub way_begins : (separator : Separator) (start run : List ℕ) → run ≡ [] → IsOnTheWay separator start start run [] true
way_begins separator start run none = record {
  behind = subst (λ begun. EndsFront begun true) (sym none) tt;
  whole = λ rest. ap (λ begun. start ++ piece_spellings separator true (with_run begun (pieces_of rest))) none;
}

-- a character that isn't printable
pub way_units : (separator : Separator) (start now run longer read : List ℕ) (character : ℕ) (begins : Bool) → is_printable character ≡ false
    → longer ≡ run ++ utf16_of character → IsOnTheWay separator start now run read begins → IsOnTheWay separator start now longer (read ++ character ∷ []) false
way_units separator start now run longer read character begins e grown way = record {
  behind = ends_front longer;
  whole = λ rest.
      let units = utf16_of character in
      let begun : with_run longer (pieces_of rest) ≡ with_run run (before_pieces units (pieces_of rest)) =
      ap (λ all. with_run all (pieces_of rest)) grown ∙ sym (with_run-unit run character (pieces_of rest)) in
      ap (λ pieces. now ++ piece_spellings separator false pieces) begun
      ∙ ap (λ text. now ++ text) (with_run-any separator false begins run units (pieces_of rest))
      ∙ sym (ap (λ pieces. now ++ piece_spellings separator begins (with_run run pieces)) (pieces-other character rest e))
      ∙ way.whole (character ∷ rest)
      ∙ ap (λ all. start ++ piece_spellings separator true (pieces_of all)) (sym (append_assoc read (character ∷ []) rest));
}

-- a printable one
pub way_printable : (separator : Separator) (start now filled spelt run left read : List ℕ) (character : ℕ) (begins after_cut : Bool)
    → is_printable character ≡ true → filled ≡ now ++ run_spelled run → left ≡ [] → spelt ≡ filled ++ character_spelling separator begins character
    → after_cut ≡ (character == separator_octet separator)
    → IsOnTheWay separator start now run read begins → IsOnTheWay separator start spelt left (read ++ character ∷ []) after_cut
way_printable separator start now filled spelt run left read character begins after_cut e one none two cut way = record {
  behind = subst (λ begun. EndsFront begun after_cut) (sym none) tt;
  whole = λ rest.
      let after = piece_spellings separator (character == separator_octet separator) (pieces_of rest) in
      let text = character_spelling separator begins character in
      let told : spelt ≡ (now ++ run_spelled run) ++ text = two ∙ ap (λ l. l ++ text) one in
      let begun : piece_spellings separator begins (with_run run (pieces_of (character ∷ rest))) ≡ run_spelled run ++ (text ++ after) =
      ap (λ pieces. piece_spellings separator begins (with_run run pieces)) (pieces-printable character rest e)
      ∙ with_run-printable separator begins run character (pieces_of rest) way.behind in
      ap (λ begun. spelt ++ piece_spellings separator after_cut (with_run begun (pieces_of rest))) none
      ∙ ap (λ cut. spelt ++ piece_spellings separator cut (pieces_of rest)) cut
      ∙ ap (λ l. l ++ after) told
      ∙ append_assoc (now ++ run_spelled run) text after
      ∙ append_assoc now (run_spelled run) (text ++ after)
      ∙ ap (λ l. now ++ l) (sym begun)
      ∙ way.whole (character ∷ rest)
      ∙ ap (λ all. start ++ piece_spellings separator true (pieces_of all)) (sym (append_assoc read (character ∷ []) rest));
}

-- the end
pub way_ends : (separator : Separator) (start now filled run read : List ℕ) (begins : Bool) → filled ≡ now ++ run_spelled run
    → IsOnTheWay separator start now run read begins → filled ≡ start ++ piece_spellings separator true (pieces_of read)
way_ends separator start now filled run read begins one way =
    one ∙ ap (λ text. now ++ text) (sym (with_run-end separator begins run)) ∙ way.whole []
    ∙ ap (λ all. start ++ piece_spellings separator true (pieces_of all)) (append-nil read)
