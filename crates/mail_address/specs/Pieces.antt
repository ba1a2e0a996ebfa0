-- What a value is cut into (RFC 5322, 3.2).
use Rattle.std.specs.Prelude.{◌≡◌, ◌≢◌, ℕ, ◌==◌, ◌||◌, ◌⊎◌, nat_lt, Bool, true, false, if◌then◌else◌, List, [], ◌∷◌, ◌++◌}
use Rattle.octets.specs.Ascii.{is_blank}
use Rattle.mail_address.specs.declared.scanner.AddrPieceKind.{AddrPieceKind}
use Rattle.mail_address.specs.declared.scanner.AddrPieceKind.TheVariants as K

-- the octets that no atom has, besides the marks and blanks: control characters, and what closes or escapes something
abbrev pub is_stray : ℕ → Bool
is_stray octet = nat_lt octet 33 || octet == 127 || octet == 41 || octet == 93 || octet == 92

-- the kind of piece that begins with this octet (RFC 5322, 3.2.3: atext and specials; atoms may have octets from 128 on)
abbrev pub piece_kind_of : ℕ → AddrPieceKind
piece_kind_of octet =
    if octet == 34 then K.Quoted
    else (if octet == 40 then K.Comment
    else (if octet == 91 then K.Literal
    else (if octet == 60 then K.Less
    else (if octet == 62 then K.Greater
    else (if octet == 64 then K.At
    else (if octet == 44 then K.Comma
    else (if octet == 58 then K.Colon
    else (if octet == 59 then K.Semicolon
    else (if octet == 46 then K.Dot
    else (if is_blank octet then K.Blank
    else (if is_stray octet then K.Bad
    else K.Atom)))))))))))

-- the kind is that of an atom
abbrev pub is_atom_kind : AddrPieceKind → Bool
is_atom_kind K.Atom = true
is_atom_kind _ = false

-- the octet may be in an atom
abbrev pub is_atom_octet : ℕ → Bool
is_atom_octet octet = is_atom_kind (piece_kind_of octet)

-- a piece: its kind, and its octets as they are written
pub record AddrPiece : Type 0 where
  pub kind : AddrPieceKind
  pub text : List ℕ

-- an octet by itself, or after a backslash (RFC 5322, 3.2.1: quoted-pair)
pub data Inner : Type 0 where
  Plain : ℕ → Inner
  Pair : ℕ → Inner

-- octets and pairs, written before a text
abbrev pub inner_before : List Inner → List ℕ → List ℕ
inner_before [] after = after
inner_before (Plain octet ∷ more) after = octet ∷ inner_before more after
inner_before (Pair octet ∷ more) after = 92 ∷ (octet ∷ inner_before more after)

-- no octet that isn't escaped is the closing octet or a backslash
abbrev pub IsInside : ℕ → List Inner → Type 0
IsInside close [] = Unit {0}
IsInside close (Plain octet ∷ more) = ((octet == close) ≡ false) × (((octet == 92) ≡ false) × IsInside close more)
IsInside close (Pair octet ∷ more) = IsInside close more

-- an opening octet, octets and pairs, and the first closing octet after them
pub record IsEnclosed (opening closing : ℕ) (text : List ℕ) : Type 0 where
  pub inside : List Inner
  pub plain : IsInside closing inside
  pub spelled : text ≡ opening ∷ inner_before inside (closing ∷ [])

-- the value of octets and pairs: that of a pair is the octet after its backslash
abbrev pub inner_value : List Inner → List ℕ
inner_value [] = []
inner_value (Plain octet ∷ more) = octet ∷ inner_value more
inner_value (Pair octet ∷ more) = octet ∷ inner_value more

-- a quoted string, and its value (RFC 5322, 3.2.4)
pub record IsQuotedWord (text value : List ℕ) : Type 0 where
  pub inside : List Inner
  pub plain : IsInside 34 inside
  pub spelled : text ≡ 34 ∷ inner_before inside (34 ∷ [])
  pub is : value ≡ inner_value inside

-- the inside of a comment: octets, pairs, and comments (RFC 5322, 3.2.2: ccontent)
pub data CommentContent : Type 0 where
  End : CommentContent
  Note : Inner → CommentContent → CommentContent
  Nested : CommentContent → CommentContent → CommentContent

-- the inside of a comment, written before a text
abbrev pub comment_before : CommentContent → List ℕ → List ℕ
comment_before End after = after
comment_before (Note (Plain octet) more) after = octet ∷ comment_before more after
comment_before (Note (Pair octet) more) after = 92 ∷ (octet ∷ comment_before more after)
comment_before (Nested inner more) after = 40 ∷ comment_before inner (41 ∷ comment_before more after)

-- no octet that isn't escaped is a parenthesis or a backslash
abbrev pub IsCommentContent : CommentContent → Type 0
IsCommentContent End = Unit {0}
IsCommentContent (Note (Plain octet) more) = ((octet == 92) ≡ false) × (((octet == 40) ≡ false) × (((octet == 41) ≡ false) × IsCommentContent more))
IsCommentContent (Note (Pair octet) more) = IsCommentContent more
IsCommentContent (Nested inner more) = IsCommentContent inner × IsCommentContent more

-- a comment with its parentheses
pub record IsComment (text : List ℕ) : Type 0 where
  pub notes : CommentContent
  pub plain : IsCommentContent notes
  pub spelled : text ≡ 40 ∷ comment_before notes (41 ∷ [])

-- a quoted string, a domain literal or a comment, from its opening octet to its closing one
abbrev pub IsClosed : AddrPieceKind → List ℕ → Type 0
IsClosed K.Quoted text = IsEnclosed 34 34 text
IsClosed K.Literal text = IsEnclosed 91 93 text
IsClosed K.Comment text = IsComment text
IsClosed _ text = ⊥

-- one octet, which begins pieces of this kind
pub record IsSingle (kind : AddrPieceKind) (text : List ℕ) : Type 0 where
  pub octet : ℕ
  pub alone : text ≡ octet ∷ []
  pub begins : piece_kind_of octet ≡ kind

-- every octet may be in an atom
abbrev pub AreAtoms : List ℕ → Type 0
AreAtoms [] = Unit {0}
AreAtoms (octet ∷ more) = (is_atom_octet octet ≡ true) × AreAtoms more

-- no atom goes on here
abbrev pub IsNoAtom : List ℕ → Type 0
IsNoAtom [] = Unit {0}
IsNoAtom (octet ∷ _) = is_atom_octet octet ≡ false

-- it begins as a quoted string, a literal or a comment does, and no prefix of it is one
pub record IsUnclosed (text : List ℕ) : Type 0 where
  pub octet : ℕ
  pub more : List ℕ
  pub begins : text ≡ octet ∷ more
  pub opens : (piece_kind_of octet ≡ K.Quoted) ⊎ ((piece_kind_of octet ≡ K.Literal) ⊎ (piece_kind_of octet ≡ K.Comment))
  pub never : (front back : List ℕ) → text ≡ front ++ back → IsClosed (piece_kind_of octet) front → ⊥

-- the texts of the pieces of each kind, if this text follows: an atom is as long as it can be, and what isn't closed is bad
-- up to the value's end
abbrev pub IsAddrPieceShape : AddrPieceKind → List ℕ → List ℕ → Type 0
IsAddrPieceShape K.Atom text after = (text ≢ []) × (AreAtoms text × IsNoAtom after)
IsAddrPieceShape K.Quoted text after = IsClosed K.Quoted text
IsAddrPieceShape K.Literal text after = IsClosed K.Literal text
IsAddrPieceShape K.Comment text after = IsClosed K.Comment text
IsAddrPieceShape K.Bad text after = IsSingle K.Bad text ⊎ (IsUnclosed text × (after ≡ []))
IsAddrPieceShape kind text after = IsSingle kind text

-- the value is these pieces, one after the other
abbrev pub Cut : List ℕ → List AddrPiece → Type 0
Cut value [] = value ≡ []
Cut value (piece ∷ more) = (after : List ℕ) × ((value ≡ piece.text ++ after) × (IsAddrPieceShape piece.kind piece.text after × Cut after more))

-- the text without its quotation marks, each quoted pair replaced by its octet; whether a backslash precedes the text
abbrev pub unquoted_from : Bool → List ℕ → List ℕ
unquoted_from escaped [] = []
unquoted_from true (octet ∷ more) = octet ∷ unquoted_from false more
unquoted_from false (octet ∷ more) =
    if octet == 92 then unquoted_from true more
    else (if octet == 34 then unquoted_from false more
    else octet ∷ unquoted_from false more)

-- the text without its quotation marks, each quoted pair replaced by its octet
abbrev pub unquoted_text : List ℕ → List ℕ
unquoted_text text = unquoted_from false text
