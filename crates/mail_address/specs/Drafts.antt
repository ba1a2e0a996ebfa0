-- The reader of a part of a list: what it keeps of the tokens so far, and how a token changes it (RFC 5322, 3.4 and 4.4).
use Rattle.std.specs.Prelude.{ℕ, ◌&&◌, Bool, true, false, if◌then◌else◌, Option, Some, None, List, [], ◌∷◌, ◌++◌}
use Rattle.mail_address.specs.declared.scanner.AddrPieceKind.{AddrPieceKind}
use Rattle.mail_address.specs.declared.scanner.AddrPieceKind.TheVariants as K
use Rattle.mail_address.specs.declared.draft.BracketState.{BracketState}
use Rattle.mail_address.specs.declared.draft.BracketState.TheVariants as P
use Rattle.mail_address.specs.declared.draft.AddrSpecState.{AddrSpecState}
use Rattle.mail_address.specs.declared.draft.AddrSpecState.TheVariants as S
use Rattle.mail_address.specs.declared.draft.Draft.{Draft}
use Rattle.mail_address.specs.declared.address.Addr.{Addr}
use Rattle.mail_address.specs.Pieces.{unquoted_text}

-- how much of an addr-spec has been read after this token
abbrev pub spec_state_after : AddrSpecState → AddrPieceKind → AddrSpecState
spec_state_after S.Start K.Atom = S.Word
spec_state_after S.Start K.Quoted = S.Word
spec_state_after S.Dot K.Atom = S.Word
spec_state_after S.Dot K.Quoted = S.Word
spec_state_after S.Word K.Dot = S.Dot
spec_state_after S.Word K.At = S.At
spec_state_after S.At K.Atom = S.Name
spec_state_after S.At K.Literal = S.Literal
spec_state_after S.Name K.Dot = S.NameDot
spec_state_after S.NameDot K.Atom = S.Name
spec_state_after _ _ = S.Wrong

-- what a word, a dot or a literal adds
abbrev pub token_value : AddrPieceKind → List ℕ → List ℕ
token_value K.Quoted text = unquoted_text text
token_value K.Dot text = 46 ∷ []
token_value _ text = text

-- nothing has been read yet, at this place
abbrev pub empty_draft_at : BracketState → Draft
empty_draft_at place = record { place = place; stage = S.Start; local = []; domain = [] }

-- nothing has been read yet of a part
abbrev pub empty_draft : Draft
empty_draft = empty_draft_at P.Front

-- the draft with this value added at this stage
abbrev pub draft_with : AddrSpecState → Draft → List ℕ → Draft
draft_with S.Word draft value = record draft { stage = S.Word; local = draft.local ++ value }
draft_with S.Dot draft value = record draft { stage = S.Dot; local = draft.local ++ value }
draft_with S.Name draft value = record draft { stage = S.Name; domain = draft.domain ++ value }
draft_with S.NameDot draft value = record draft { stage = S.NameDot; domain = draft.domain ++ value }
draft_with S.Literal draft value = record draft { stage = S.Literal; domain = draft.domain ++ value }
draft_with stage draft value = record draft { stage = stage }

-- a token of an addr-spec
abbrev pub after_spec_token : Draft → AddrPieceKind → List ℕ → Draft
after_spec_token draft kind text = draft_with (spec_state_after draft.stage kind) draft (token_value kind text)

-- a token at its place
abbrev pub after_token_at : BracketState → Draft → AddrPieceKind → List ℕ → Draft
after_token_at P.Front draft K.Less text = empty_draft_at P.Open
after_token_at P.Front draft K.Greater text = record draft { place = P.After; stage = S.Wrong }
after_token_at P.Front draft kind text = after_spec_token draft kind text
after_token_at P.Open draft K.At text = record draft { place = P.Route }
after_token_at P.Open draft K.Greater text = record draft { place = P.After }
after_token_at P.Open draft kind text = after_spec_token (record draft { place = P.Inside }) kind text
after_token_at P.Route draft K.Colon text = record draft { place = P.Inside }
after_token_at P.Route draft K.Greater text = record draft { place = P.After }
after_token_at P.Route draft kind text = draft
after_token_at P.Inside draft K.Greater text = record draft { place = P.After }
after_token_at P.Inside draft kind text = after_spec_token draft kind text
after_token_at P.After draft K.Less text = record draft { place = P.Inside; stage = S.Wrong }
after_token_at P.After draft kind text = record draft { place = P.After; stage = S.Wrong }

-- the draft after a token that doesn't end the part
abbrev pub after_token : Draft → AddrPieceKind → List ℕ → Draft
after_token draft K.Blank text = draft
after_token draft K.Comment text = draft
after_token draft kind text = after_token_at draft.place draft kind text

-- no angle bracket is open
abbrev pub is_outside : BracketState → Bool
is_outside P.Front = true
is_outside P.After = true
is_outside _ = false

-- an addr-spec may end here
abbrev pub may_end_spec : AddrSpecState → Bool
may_end_spec S.Name = true
may_end_spec S.Literal = true
may_end_spec _ = false

-- an addr-spec has been read to its end
abbrev pub is_whole : Draft → Bool
is_whole draft = may_end_spec draft.stage && is_outside draft.place

-- the address of a part that ends here
abbrev pub draft_address : Draft → Option Addr
draft_address draft = if is_whole draft then Some (record { local = draft.local; domain = draft.domain }) else None

-- the address of a part that ends at this mark
abbrev pub part_address : Draft → AddrPieceKind → Option Addr
part_address draft K.Colon = None
part_address draft _ = draft_address draft
