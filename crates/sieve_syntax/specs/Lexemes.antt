-- What the grammar sees of a token: keywords instead of names.
use Rattle.std.specs.Prelude.{◌≡◌, ℕ, Bool, cond, nat_eq, Option, Some, None, List, [], ◌∷◌, map, codes}
use Rattle.std.specs.Cmp.Lexicographic.{pointwise}
use Rattle.octets.specs.Ascii.{lowered}
use Rattle.sieve_lex.specs.declared.token.Mark.{Mark}
use Rattle.sieve_lex.specs.declared.token.Content.{Content}
use Rattle.sieve_lex.specs.declared.token.Content.TheVariants as C
use Rattle.sieve_lex.specs.Encoded.{decoded}
use Rattle.sieve_syntax.specs.declared.table.keyword.Keyword.{Keyword}
use Rattle.sieve_syntax.specs.declared.table.keyword.Keyword.TheVariants as W
use Rattle.sieve_syntax.specs.declared.table.tag.Tag.{Tag}
use Rattle.sieve_syntax.specs.declared.table.tag.Tag.TheVariants as T
use Rattle.sieve_syntax.specs.declared.parser.lexeme.Lexeme.{Lexeme as BorrowedLexeme}
use Rattle.sieve_syntax.specs.declared.parser.lexeme.Lexeme.TheVariants as S

-- names are compared ignoring ASCII case (RFC 5228, 2.1)
abbrev pub same_name : List ℕ → List ℕ → Bool
same_name name other = pointwise nat_eq (lowered name) (lowered other)

-- the command or test with this name
abbrev pub sieve_keyword_of : List ℕ → Keyword
sieve_keyword_of name =
    cond (same_name name (codes "require")) W.Require
    (cond (same_name name (codes "if")) W.If
    (cond (same_name name (codes "elsif")) W.Elsif
    (cond (same_name name (codes "else")) W.Else
    (cond (same_name name (codes "stop")) W.Stop
    (cond (same_name name (codes "keep")) W.Keep
    (cond (same_name name (codes "discard")) W.Discard
    (cond (same_name name (codes "fileinto")) W.FileInto
    (cond (same_name name (codes "redirect")) W.Redirect
    (cond (same_name name (codes "vacation")) W.Vacation
    (cond (same_name name (codes "true")) W.True
    (cond (same_name name (codes "false")) W.False
    (cond (same_name name (codes "not")) W.Not
    (cond (same_name name (codes "allof")) W.AllOf
    (cond (same_name name (codes "anyof")) W.AnyOf
    (cond (same_name name (codes "size")) W.Size
    (cond (same_name name (codes "exists")) W.Exists
    (cond (same_name name (codes "header")) W.Header
    (cond (same_name name (codes "address")) W.Address
    (cond (same_name name (codes "envelope")) W.Envelope
    (cond (same_name name (codes "mailboxexists")) W.MailboxExists
    (cond (same_name name (codes "date")) W.Date
    (cond (same_name name (codes "currentdate")) W.CurrentDate
    (cond (same_name name (codes "setflag")) W.SetFlag
    (cond (same_name name (codes "addflag")) W.AddFlag
    (cond (same_name name (codes "removeflag")) W.RemoveFlag
    (cond (same_name name (codes "hasflag")) W.HasFlag
    W.Other))))))))))))))))))))))))))

-- the tag with this name
abbrev pub tag_of : List ℕ → Tag
tag_of name =
    cond (same_name name (codes "over")) T.Over
    (cond (same_name name (codes "under")) T.Under
    (cond (same_name name (codes "comparator")) T.Comparator
    (cond (same_name name (codes "is")) T.Is
    (cond (same_name name (codes "contains")) T.Contains
    (cond (same_name name (codes "matches")) T.Matches
    (cond (same_name name (codes "value")) T.Value
    (cond (same_name name (codes "count")) T.Count
    (cond (same_name name (codes "all")) T.All
    (cond (same_name name (codes "localpart")) T.LocalPart
    (cond (same_name name (codes "domain")) T.Domain
    (cond (same_name name (codes "user")) T.User
    (cond (same_name name (codes "detail")) T.Detail
    (cond (same_name name (codes "days")) T.Days
    (cond (same_name name (codes "seconds")) T.Seconds
    (cond (same_name name (codes "subject")) T.Subject
    (cond (same_name name (codes "from")) T.From
    (cond (same_name name (codes "addresses")) T.Addresses
    (cond (same_name name (codes "mime")) T.Mime
    (cond (same_name name (codes "handle")) T.Handle
    (cond (same_name name (codes "copy")) T.Copy
    (cond (same_name name (codes "create")) T.Create
    (cond (same_name name (codes "zone")) T.Zone
    (cond (same_name name (codes "originalzone")) T.OriginalZone
    (cond (same_name name (codes "flags")) T.Flags
    T.Other))))))))))))))))))))))))

-- a word of the grammar (RFC 5228, 8.2)
pub data Lexeme : Type 0 where
  keyword : Keyword → Lexeme
  tag : Tag → Lexeme
  number : ℕ → Lexeme
  text : List ℕ → Lexeme
  mark : Mark → Lexeme
  -- a string with a character that doesn't exist: the grammar has no place for it
  misfit : Lexeme

-- a list of lexemes
abbrev pub Lexemes : Type 0
Lexemes = List Lexeme

-- what the grammar sees of a token: the case of its name is lost
abbrev pub lexeme_of : Content → Lexeme
lexeme_of (C.Identifier name) = keyword (sieve_keyword_of name)
lexeme_of (C.Tag name) = tag (tag_of name)
lexeme_of (C.Number n) = number n
lexeme_of (C.Text value) = text value
lexeme_of (C.Mark m) = mark m

-- the same of a list of tokens
abbrev pub lexemes_of : List Content → List Lexeme
lexemes_of contents = map lexeme_of contents

-- a string by what it stands for, if it stands for anything
abbrev pub text_lexeme_of : Option (List ℕ) → Lexeme
text_lexeme_of None = misfit
text_lexeme_of (Some value) = text value

-- a lexeme whose string is decoded (RFC 5228, 2.4.2.4)
abbrev pub decoded_lexeme : Lexeme → Lexeme
decoded_lexeme (text written) = text_lexeme_of (decoded written)
decoded_lexeme (keyword w) = keyword w
decoded_lexeme (tag t) = tag t
decoded_lexeme (number n) = number n
decoded_lexeme (mark m) = mark m
decoded_lexeme misfit = misfit

-- the lexeme that a borrowed one stands for
abbrev pub lexeme_view : BorrowedLexeme → Lexeme
lexeme_view (S.Keyword w) = keyword w
lexeme_view (S.Tag t) = tag t
lexeme_view (S.Number n) = number n
lexeme_view (S.Text value) = text value.now
lexeme_view (S.Encoded written) = text_lexeme_of (decoded written.now)
lexeme_view (S.Mark m) = mark m

-- the first lexeme, as a borrowed one; none if there are no lexemes
abbrev pub IsFirstLexeme : Option BorrowedLexeme → List Lexeme → Type 0
IsFirstLexeme None lexemes = lexemes ≡ []
IsFirstLexeme (Some first) lexemes = (more : List Lexeme) × (lexemes ≡ lexeme_view first ∷ more)

-- these lexemes after one that was read before them; nothing if none was
abbrev pub with_first : Option BorrowedLexeme → List Lexeme → List Lexeme
with_first None more = []
with_first (Some first) more = lexeme_view first ∷ more
