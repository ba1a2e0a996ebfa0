-- What is delivered to a recipient: the text after two fields that tell where it came from and to whom it goes.
use Rattle.std.specs.Prelude.{◌≡◌, ℕ, Bool, true, false, ◌&&◌, nat_eq, List, [], ◌∷◌, ◌++◌, codes, Option, Some, None}
use Rattle.std.specs.Cmp.Lexicographic.{pointwise}
use Rattle.std.specs.List.{list_any}
use Rattle.octets.specs.Ascii.{lowered, trimmed}
use Rattle.mail_head.specs.Cuts.{CutsLogicalLine}
use Rattle.mail_head.specs.Fields.{FieldText, field_of}
use Rattle.mail_head.specs.Heads.{fields_of, unfold_of}
use Rattle.lmtp_dialogue.specs.Lines.{line_end}

-- a field `Return-Path`, its name in upper or lower case (RFC 5321, section 4.4)
abbrev pub names_path : Option FieldText → Bool
names_path None = false
names_path (Some field) = pointwise nat_eq (lowered field.name) (codes "return-path")

abbrev pub is_path_line : List ℕ → Bool
is_path_line line = names_path (field_of line)

-- such fields at the start of a text, and what follows them
abbrev pub BeginsWithPaths : List (List ℕ) → List ℕ → List ℕ → Type 0
BeginsWithPaths [] text rest = (rest ≡ text) × ((line after : List ℕ) → CutsLogicalLine text line after → is_path_line line ≡ true → ⊥)
BeginsWithPaths (path ∷ paths) text rest = (after : List ℕ) × CutsLogicalLine text path after × (is_path_line path ≡ true) × BeginsWithPaths paths after rest

abbrev pub LeavesPaths : List ℕ → List ℕ → Type 0
LeavesPaths text rest = (paths : List (List ℕ)) × BeginsWithPaths paths text rest

-- the fields that are added: who sent it, and to whom it goes
abbrev pub added_fields : List ℕ → List ℕ → List ℕ
added_fields sender recipient =
    codes "Return-Path: <" ++ (sender ++ (codes ">" ++ (line_end ++ (codes "Delivered-To: " ++ (recipient ++ line_end)))))

-- one recipient's copy of a text: two fields before it, and without the fields `Return-Path` at its start
abbrev pub IsCopy : List ℕ → List ℕ → List ℕ → List ℕ → Type 0
IsCopy sender recipient text copy = (rest : List ℕ) × LeavesPaths text rest × (copy ≡ added_fields sender recipient ++ rest)

-- a field `Delivered-To` with that address, but for upper and lower case
abbrev pub tells_delivery : List ℕ → FieldText → Bool
tells_delivery recipient field =
    pointwise nat_eq (lowered field.name) (codes "delivered-to") && pointwise nat_eq (lowered (trimmed (unfold_of field.raw))) (lowered recipient)

-- whether a message has one
abbrev pub was_delivered : List ℕ → List ℕ → Bool
was_delivered recipient message = list_any (tells_delivery recipient) (fields_of message)
