-- The definitions at a few texts: what they hold of, and what is near it that they don't.
use Rattle.std.proofs.Common.{◌≡◌, ℕ, true, false, Some, None, List, [], ◌∷◌, drop, get_or, refl, ap, ◌∙◌, inl, inr, arith}
use Rattle.std.proofs.lemmas.Bool.{false≢true, true≢false}
use Rattle.std.proofs.lemmas.Option.{none-some}
use Rattle.mail_address.specs.declared.scanner.AddrPieceKind.{AddrPieceKind}
use Rattle.mail_address.specs.declared.scanner.AddrPieceKind.TheVariants as K
use Rattle.mail_address.specs.declared.address.Addr.{Addr}
use Rattle.mail_address.specs.Pieces.{AddrPiece, is_atom_octet, Plain, Pair, IsEnclosed, IsQuotedWord, End, Note, Nested, IsComment}
use Rattle.mail_address.specs.Parts.{IsUncut, AreParts, IsWordToken, IsAtom, Dotted, PartGives, AreAddresses}
use Rattle.mail_address.specs.Outbound.{is_no_control, is_fit, BeginsWithWord, IsOutbound, IsBareAddress}
use Rattle.mail_address.specs.Spelling.{is_dot_atom, address_spelling, unquoted_address, IsDomain}
use Rattle.mail_address.specs.Reading.{after_close, after_comment, pieces, addrs, outbound, bare}
use Rattle.mail_address.proofs.Enclosed.{after-again, comment-again}
use Rattle.mail_address.proofs.Quotes.{quoted-value}
use Rattle.mail_address.proofs.Lists.{addrs-only}
use Rattle.mail_address.proofs.Outbounds.{outbound-again, bare-found}

abbrev piece : AddrPieceKind → List ℕ → AddrPiece
piece kind text = record { kind = kind; text = text }

abbrev address : List ℕ → List ℕ → Addr
address local domain = record { local = local; domain = domain }

-- an octet of UTF-8 stands in an atom, a dot and DEL don't
atom_octets : (is_atom_octet 195 ≡ true) × ((is_atom_octet 46 ≡ false) × (is_atom_octet 127 ≡ false))
atom_octets = (refl, (refl, refl))

-- `"\""` is closed
closed_string : IsEnclosed 34 34 (34 ∷ 92 ∷ 34 ∷ 34 ∷ [])
closed_string = record { inside = Pair 34 ∷ []; plain = tt; spelled = refl }

-- `"\"` is not
open_string : IsEnclosed 34 34 (34 ∷ 92 ∷ 34 ∷ []) → ⊥
open_string e =
    none-some [] (ap (λ text. after_close 34 false (drop 1 text)) e.spelled ∙ after-again 34 e.inside [] refl e.plain)

-- the value of `"\""` is one quotation mark
string_value : IsQuotedWord (34 ∷ 92 ∷ 34 ∷ 34 ∷ []) (34 ∷ [])
string_value = record { inside = Pair 34 ∷ []; plain = tt; spelled = refl; is = refl }

-- and not what stands between the marks
string_kept : IsQuotedWord (34 ∷ 92 ∷ 34 ∷ 34 ∷ []) (92 ∷ 34 ∷ []) → ⊥
string_kept q =
    let is : 92 ≡ 34 = ap (λ text. get_or text 0 0) (quoted-value (34 ∷ 92 ∷ 34 ∷ 34 ∷ []) (92 ∷ 34 ∷ []) q).1 in
    omega (arith, is)

-- `(a())` is a comment
nested_comment : IsComment (40 ∷ 97 ∷ 40 ∷ 41 ∷ 41 ∷ [])
nested_comment = record { notes = Note (Plain 97) (Nested End End); plain = (refl, (refl, (refl, (tt, tt)))); spelled = refl }

-- `(a()` is not
open_comment : IsComment (40 ∷ 97 ∷ 40 ∷ 41 ∷ []) → ⊥
open_comment e =
    none-some [] (ap (λ text. after_comment 0 false (drop 1 text)) e.spelled ∙ comment-again e.notes [] e.plain)

-- the cut of `a@b`
cut_spec : pieces (97 ∷ 64 ∷ 98 ∷ []) ≡ piece K.Atom (97 ∷ []) ∷ piece K.At (64 ∷ []) ∷ piece K.Atom (98 ∷ []) ∷ []
unfolding pieces
cut_spec = refl

-- of `[a,` nothing is cut off: it is bad up to its end
cut_open : pieces (91 ∷ 97 ∷ 44 ∷ []) ≡ piece K.Bad (91 ∷ 97 ∷ 44 ∷ []) ∷ []
unfolding pieces
cut_open = refl

-- a comma makes two parts
two_parts : AreParts (piece K.Atom [] ∷ piece K.Comma [] ∷ []) ((record { tokens = piece K.Atom [] ∷ []; ending = Some K.Comma }) ∷ (record { tokens = []; ending = None }) ∷ [])
two_parts = (piece K.Comma [], [], refl, (refl, tt), refl, refl, refl, (refl, (tt, refl)))

-- in brackets it makes none
comma_inside : IsUncut false (piece K.Less [] ∷ piece K.Comma [] ∷ [])
comma_inside = (refl, (refl, tt))

-- outside it does
comma_outside : IsUncut false (piece K.Comma [] ∷ []) → ⊥
comma_outside uncut = true≢false uncut.0

-- `a."b"` are words with a dot between
dotted_words : Dotted IsWordToken (piece K.Atom (97 ∷ []) ∷ piece K.Dot (46 ∷ []) ∷ piece K.Quoted (34 ∷ 98 ∷ 34 ∷ []) ∷ []) (97 ∷ 46 ∷ 98 ∷ [])
dotted_words = (97 ∷ [], 98 ∷ [], refl, refl, refl, refl)

-- a domain has no quoted string
quoted_domain : Dotted IsAtom (piece K.Quoted (34 ∷ 98 ∷ 34 ∷ []) ∷ []) (98 ∷ []) → ⊥
quoted_domain dotted = dotted

-- `a@b` as a part
spec_part : PartGives (record { tokens = piece K.Atom (97 ∷ []) ∷ piece K.At (64 ∷ []) ∷ piece K.Atom (98 ∷ []) ∷ []; ending = Some K.Comma }) (address (97 ∷ []) (98 ∷ []))
spec_part = record {
  no_name = λ is. cc;
  shape = inl (record { local = piece K.Atom (97 ∷ []) ∷ []; at = piece K.At (64 ∷ []); domain = piece K.Atom (98 ∷ []) ∷ []; cut = refl; mark = refl; words = refl; host = inl refl });
}

-- before a colon it gives nothing
group_part : (tokens : List AddrPiece) (found : Addr) → PartGives (record { tokens = tokens; ending = Some K.Colon }) found → ⊥
group_part tokens found gives = gives.no_name refl

-- `<@r:c@d>` is c at d: the route is passed over
route : addrs (60 ∷ 64 ∷ 114 ∷ 58 ∷ 99 ∷ 64 ∷ 100 ∷ 62 ∷ []) ≡ address (99 ∷ []) (100 ∷ []) ∷ []
unfolding addrs pieces
route = refl

-- `a@@b` is no address
two_at_signs : (found : List Addr) → AreAddresses (97 ∷ 64 ∷ 64 ∷ 98 ∷ []) found → found ≡ []
unfolding addrs pieces
two_at_signs found are = addrs-only (97 ∷ 64 ∷ 64 ∷ 98 ∷ []) found are

-- SP and 126 are shown, TAB and DEL are not
shown_octets : (is_fit (32 ∷ 126 ∷ []) ≡ true) × ((is_no_control 9 ≡ false) × (is_no_control 127 ≡ false))
shown_octets = (refl, (refl, refl))

-- a display name may begin with a blank, and not with a dot
words_first : BeginsWithWord (piece K.Blank (32 ∷ []) ∷ piece K.Atom (97 ∷ []) ∷ [])
words_first = tt

dot_first : BeginsWithWord (piece K.Dot (46 ∷ []) ∷ piece K.Atom (97 ∷ []) ∷ []) → ⊥
dot_first begins = begins

-- `"A" <a@b>` has the display name A
with_name : outbound (34 ∷ 65 ∷ 34 ∷ 32 ∷ 60 ∷ 97 ∷ 64 ∷ 98 ∷ 62 ∷ []) ≡ Some (65 ∷ [], address (97 ∷ []) (98 ∷ []))
unfolding outbound pieces
with_name = refl

-- `<a@b>` names nothing, since it has no word
no_name : (display_name : List ℕ) (found : Addr) → IsOutbound (60 ∷ 97 ∷ 64 ∷ 98 ∷ 62 ∷ []) display_name found → ⊥
unfolding outbound pieces
no_name display_name found is = none-some (display_name, found) (outbound-again (60 ∷ 97 ∷ 64 ∷ 98 ∷ 62 ∷ []) display_name found is)

-- `a@b` is an address without display name
bare_spec : bare (97 ∷ 64 ∷ 98 ∷ []) ≡ Some (address (97 ∷ []) (98 ∷ []))
unfolding bare pieces
bare_spec = refl

-- `""<a@b>` is not, though its display name is empty
empty_display : (found : Addr) → IsBareAddress (34 ∷ 34 ∷ 60 ∷ 97 ∷ 64 ∷ 98 ∷ 62 ∷ []) found → ⊥
unfolding bare pieces
empty_display found is = none-some found (bare-found (34 ∷ 34 ∷ 60 ∷ 97 ∷ 64 ∷ 98 ∷ 62 ∷ []) found is)

-- `a.b` is atoms with a dot between; `a.`, `.a`, `a..b` and the empty text are not
dot_atoms : (is_dot_atom (97 ∷ 46 ∷ 98 ∷ []) ≡ true) × ((is_dot_atom (97 ∷ 46 ∷ []) ≡ false) × ((is_dot_atom (46 ∷ 97 ∷ []) ≡ false) × ((is_dot_atom (97 ∷ 46 ∷ 46 ∷ 98 ∷ []) ≡ false) × (is_dot_atom [] ≡ false))))
dot_atoms = (refl, (refl, (refl, (refl, refl))))

-- a quotation mark is quoted in a spelling, and not in `all`
mark_spelled : (address_spelling (address (34 ∷ []) (98 ∷ [])) ≡ 34 ∷ 92 ∷ 34 ∷ 34 ∷ 64 ∷ 98 ∷ []) × (unquoted_address (address (34 ∷ []) (98 ∷ [])) ≡ 34 ∷ 64 ∷ 98 ∷ [])
mark_spelled = (refl, refl)

-- `[1]` is a domain
literal_domain : IsDomain (91 ∷ 49 ∷ 93 ∷ [])
literal_domain = inr (record { inside = Plain 49 ∷ []; plain = (refl, (refl, tt)); spelled = refl })

-- `b.` isn't one
dot_domain : IsDomain (98 ∷ 46 ∷ []) → ⊥
dot_domain (inl plain) = false≢true plain
dot_domain (inr literal) = let is : 98 ≡ 91 = ap (λ text. get_or text 0 0) literal.spelled in omega (arith, is)
