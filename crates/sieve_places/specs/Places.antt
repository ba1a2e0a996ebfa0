-- The place of a script's fault.
use Rattle.std.specs.Prelude.{◌≡◌, ◌⊎◌, ℕ, ◌+◌, ◌≤◌, Bool, ◌==◌, ◌&&◌, not, nat_le, nat_lt, List, [], ◌∷◌, ◌++◌, length, take, drop, slice_get, cond, codes, decimal, fold, map, Option, Some, None, option_and_then}
use Rattle.sieve_lex.specs.Faults.{fault_number}
use Rattle.sieve_lex.specs.Spelling.{SpellsTokens}
use Rattle.sieve_lex.specs.Text.{line_ends}
use Rattle.sieve_lex.specs.declared.fault.FaultKind.{FaultKind}
use Rattle.sieve_lex.specs.declared.fault.ScriptFault.{ScriptFault}
use Rattle.sieve_lex.specs.declared.token.Content.{Content}
use Rattle.sieve_lex.specs.declared.token.Content.TheVariants.{Identifier, Tag, Number, Text, Mark}
use Rattle.sieve_lex.specs.declared.token.Mark.{Mark as MarkKind}
use Rattle.sieve_lex.specs.declared.token.Mark.TheVariants as mark
use Rattle.sieve_lex.specs.declared.token.Token.{Token}
use Rattle.sieve_syntax.specs.Means.{Means}
use Rattle.sieve_syntax.specs.Tree.{Commands}
use Rattle.sieve_places.specs.declared.find.FaultPlace.{FaultPlace}
use Rattle.sieve_places.specs.declared.pick.PickedToken.{PickedToken}
use Rattle.sieve_places.specs.Picks.{pick_at}
use Rattle.sieve_places.specs.Spread.{spread_text, token_on}

-- the column after one octet more: the next one, or the first one after an LF
abbrev pub next_column : ℕ → ℕ → ℕ
next_column column octet = cond (octet == 10) 1 (column + 1)

-- the column after these octets, from the beginning of a line on: the octets behind the last LF, and one
abbrev pub columns_of : List ℕ → ℕ
columns_of octets = fold next_column 1 octets

-- the column of a position of a text
abbrev pub column_at : List ℕ → ℕ → ℕ
column_at text start = columns_of (take start text)

abbrev pub mark_octet : MarkKind → ℕ
mark_octet mark.Semicolon = 59
mark_octet mark.OpenBrace = 123
mark_octet mark.CloseBrace = 125
mark_octet mark.OpenBracket = 91
mark_octet mark.CloseBracket = 93
mark_octet mark.OpenParen = 40
mark_octet mark.CloseParen = 41
mark_octet mark.Comma = 44

-- the word of a token: a name, a tag with its colon, a number's value, what a string stands for, a mark
abbrev pub word_of_content : Content → List ℕ
word_of_content (Identifier name) = name
word_of_content (Tag name) = 58 ∷ name
word_of_content (Number n) = decimal n
word_of_content (Text value) = value
word_of_content (Mark m) = mark_octet m ∷ []

-- the place of a token
abbrev pub place_of_token : List ℕ → Bool → Token → FaultPlace
place_of_token text exact t = record {
  line = t.line;
  column = column_at text t.start;
  word = word_of_content t.content;
  is_exact = exact;
}

abbrev pub place_of_pick : List ℕ → List Token → PickedToken → Option FaultPlace
place_of_pick text ts pick = option_and_then (λ t. Some (place_of_token text pick.is_exact t)) (slice_get ts pick.index)

-- where a fault of this kind is, if the last token that was read has this index
abbrev pub place_after : List ℕ → List Token → FaultKind → ℕ → Option FaultPlace
place_after text ts kind index =
    option_and_then (place_of_pick text ts) (pick_at kind (take (index + 1) ts) (not (length (drop (index + 1) ts) == 0)))

-- where a fault of this kind is, if this is the fault of the spread text
abbrev pub place_by : List ℕ → List Token → FaultKind → Option ScriptFault → Option FaultPlace
place_by text ts kind None = None
place_by text ts kind (Some found) =
    cond (fault_number found.kind == fault_number kind)
    (option_and_then (place_after text ts kind) (token_on text found.line ts)) None

-- what a check finds of a text: nothing if it means a tree; else a fault on one of its lines
abbrev pub IsCheckedAs : List ℕ → Option ScriptFault → Type 0
IsCheckedAs text None = (tree : Commands) × Means text tree
IsCheckedAs text (Some fault) = ((tree : Commands) → Means text tree → ⊥) × (1 ≤ fault.line) × (fault.line ≤ 1 + line_ends text)

-- the place is found by checking the same tokens, each on a line of its own
pub record IsSpreadPlace (text : List ℕ) (kind : FaultKind) (place : Option FaultPlace) : Type 0 where
  pub tokens : List Token
  pub written : SpellsTokens text tokens
  pub verdict : Option ScriptFault
  pub checked : IsCheckedAs (spread_text text tokens) verdict
  pub found : place ≡ place_by text tokens kind verdict

-- a text that is no list of tokens
abbrev pub HasNoTokens : List ℕ → Type 0
HasNoTokens text = (tokens : List Token) → SpellsTokens text tokens → ⊥

-- the place of a fault of this kind in a text: none if the text is no list of tokens
abbrev pub IsFaultPlace : List ℕ → FaultKind → Option FaultPlace → Type 0
IsFaultPlace text kind place = ((place ≡ None) × HasNoTokens text) ⊎ IsSpreadPlace text kind place

-- ---- how a place is shown

-- printable ASCII but the quote is shown as it is
abbrev pub shown_octet : ℕ → ℕ
shown_octet octet = cond (nat_le 32 octet && (nat_le octet 126 && not (octet == 34))) octet 63

-- at most 64 octets of a word are shown
unfoldable pub shown_word : List ℕ → List ℕ
shown_word word = map shown_octet (take 64 word) ++ cond (nat_lt 64 (length word)) (codes "..") []

-- the word in quotes, after `at` if the fault isn't the word itself
unfoldable pub place_shown : FaultPlace → List ℕ
place_shown place = cond place.is_exact (codes " \"") (codes " at \"") ++ (shown_word place.word ++ codes "\"")
