-- The definitions as functions, for definitions that need one: `addrs` and `outbound`. They say what AreAddresses and IsOutbound say,
-- which the contracts of `addresses` and `sieve_address` prove.
use Rattle.std.specs.Prelude.{◌≡◌, ℕ, suc, zero, ◌+◌, ◌-◌, ◌<◌, ◌==◌, ◌&&◌, Bool, true, false, if◌then◌else◌, Option, Some, None, option_map, option_to_list, length, take, drop, List, [], ◌∷◌, ◌++◌}
use Rattle.std.specs.List.{prefix_len}
use Rattle.octets.specs.Ascii.{trimmed}
use Rattle.mail_address.specs.declared.scanner.AddrPieceKind.{AddrPieceKind}
use Rattle.mail_address.specs.declared.scanner.AddrPieceKind.TheVariants as K
use Rattle.mail_address.specs.declared.draft.BracketState.TheVariants as P
use Rattle.mail_address.specs.declared.draft.Draft.{Draft}
use Rattle.mail_address.specs.declared.address.Addr.{Addr}
use Rattle.mail_address.specs.Pieces.{AddrPiece, piece_kind_of, is_atom_octet, unquoted_text}
use Rattle.mail_address.specs.Parts.{is_separator}
use Rattle.mail_address.specs.Outbound.{is_fit}
use Rattle.mail_address.specs.Drafts.{empty_draft_at, empty_draft, after_token, is_outside, draft_address, part_address}

-- what follows the first closing octet that no backslash escapes; whether a backslash precedes the text
abbrev pub after_close : ℕ → Bool → List ℕ → Option (List ℕ)
after_close close escaped [] = None
after_close close true (octet ∷ more) = after_close close false more
after_close close false (octet ∷ more) =
    if octet == close then Some more
    else (if octet == 92 then after_close close true more
    else after_close close false more)

-- what follows the end of a comment, with that many comments open in it
abbrev pub after_comment : ℕ → Bool → List ℕ → Option (List ℕ)
after_comment depth escaped [] = None
after_comment depth true (octet ∷ more) = after_comment depth false more
after_comment zero false (octet ∷ more) =
    if octet == 92 then after_comment zero true more
    else (if octet == 40 then after_comment 1 false more
    else (if octet == 41 then Some more
    else after_comment zero false more))
after_comment (suc depth) false (octet ∷ more) =
    if octet == 92 then after_comment (suc depth) true more
    else (if octet == 40 then after_comment (suc (suc depth)) false more
    else (if octet == 41 then after_comment depth false more
    else after_comment (suc depth) false more))

-- how many octets precede the rest
abbrev pub len_before : List ℕ → Option (List ℕ) → Option ℕ
len_before text rest = option_map (λ found. length text - length found) rest

-- the kind and the length of a piece that is closed after that many more octets, or is bad up to the end
abbrev pub closed : AddrPieceKind → List ℕ → Option ℕ → AddrPieceKind × ℕ
closed kind others (Some len) = (kind, 1 + len)
closed kind others None = (K.Bad, 1 + length others)

-- the kind of the first piece, and its length, if these octets follow its first one
abbrev pub front_of : AddrPieceKind → List ℕ → AddrPieceKind × ℕ
front_of K.Atom others = (K.Atom, 1 + prefix_len is_atom_octet others)
front_of K.Quoted others = closed K.Quoted others (len_before others (after_close 34 false others))
front_of K.Literal others = closed K.Literal others (len_before others (after_close 93 false others))
front_of K.Comment others = closed K.Comment others (len_before others (after_comment 0 false others))
front_of kind others = (kind, 1)

abbrev pub front : ℕ → List ℕ → AddrPieceKind × ℕ
front octet others = front_of (piece_kind_of octet) others

-- the pieces of a text of at most that many octets
abbrev pub pieces_within : ℕ → List ℕ → List AddrPiece
pieces_within zero text = []
pieces_within (suc more) [] = []
pieces_within (suc more) (octet ∷ others) =
    (record { kind = (front octet others).0; text = take (front octet others).1 (octet ∷ others) })
    ∷ pieces_within more (drop (front octet others).1 (octet ∷ others))

-- the pieces of a text
unfoldable pub pieces : List ℕ → List AddrPiece
pieces text = pieces_within (length text) text

-- a piece is the first in a text, and this text follows
pub record IsNextAddrPiece (text : List ℕ) (kind : AddrPieceKind) (first : List ℕ) (rest : List ℕ) : Type 0 where
  pub shorter : length rest < length text
  pub cut : text ≡ first ++ rest
  pub pieces : pieces text ≡ (record { kind = kind; text = first }) ∷ pieces rest

-- the addresses of the parts that end among these pieces
abbrev pub collected : Draft → List AddrPiece → List Addr
collected draft [] = option_to_list (draft_address draft)
collected draft (piece ∷ more) =
    if is_separator piece.kind && is_outside draft.place
    then option_to_list (part_address draft piece.kind) ++ collected empty_draft more
    else collected (after_token draft piece.kind piece.text) more

-- the addresses of a value
unfoldable pub addrs : List ℕ → List Addr
addrs value = collected empty_draft (pieces value)

-- the address of a part without comments that opens no further bracket
abbrev pub addr_spec_only : Draft → List AddrPiece → Option Addr
addr_spec_only draft [] = draft_address draft
addr_spec_only draft (piece ∷ more) = addr_spec_at piece.kind (addr_spec_only (after_token draft piece.kind piece.text) more)
  where
    addr_spec_at : AddrPieceKind → Option Addr → Option Addr
    addr_spec_at K.Comment _ = None
    addr_spec_at K.Less _ = None
    addr_spec_at _ others = others

-- how many octets precede the bracket after the words of a display name, and the pieces after it; whether a word was seen
abbrev pub display_opening : Bool → ℕ → List AddrPiece → Option (ℕ × List AddrPiece)
display_opening seen at [] = None
display_opening seen at (piece ∷ more) = opening_at piece.kind seen (at, more) (display_opening seen (at + length piece.text) more) (display_opening true (at + length piece.text) more)
  where
    opening_at : AddrPieceKind → Bool → ℕ × List AddrPiece → Option (ℕ × List AddrPiece) → Option (ℕ × List AddrPiece) → Option (ℕ × List AddrPiece)
    opening_at K.Blank seen here same word = same
    opening_at K.Atom seen here same word = word
    opening_at K.Quoted seen here same word = word
    opening_at K.Dot seen here same word = if seen then same else None
    opening_at K.Less seen here same word = if seen then Some here else None
    opening_at _ seen here same word = None

-- an address with its display name
abbrev pub with_display : List ℕ → Option Addr → Option (List ℕ × Addr)
with_display display_name found = option_map (λ address. (display_name, address)) found

-- the display name and the address after what opens them
abbrev pub outbound_at : List ℕ → Option (ℕ × List AddrPiece) → Option (List ℕ × Addr)
outbound_at text None = with_display [] (addr_spec_only empty_draft (pieces text))
outbound_at text (Some (at, after)) = with_display (unquoted_text (trimmed (take at text))) (addr_spec_only (empty_draft_at P.Inside) after)

-- the display name and the address of a text that is fit
abbrev pub outbound_fit : List ℕ → Option (List ℕ × Addr)
outbound_fit text = outbound_at text (display_opening false 0 (pieces text))

-- the display name and the address that a text names
unfoldable pub outbound : List ℕ → Option (List ℕ × Addr)
outbound text = if is_fit text then outbound_fit text else None

-- the address that a text is, without display name
unfoldable pub bare : List ℕ → Option Addr
bare text = if is_fit text then addr_spec_only empty_draft (pieces text) else None
