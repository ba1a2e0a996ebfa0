-- Languages: what a text may say where some capabilities are offered, and that it says the same where more are. The grammar is one for
-- all of them; a word or a tag of a capability that isn't offered is one that the grammar doesn't know.
use Rattle.std.specs.Prelude.{Bool, true, cond, List, [], ◌∷◌, map}
use Rattle.std.specs.List.{list_any}
use Rattle.sieve_lex.specs.declared.token.Content.{Content}
use Rattle.sieve_lex.specs.declared.token.Content.TheVariants as T
use Rattle.sieve_syntax.specs.declared.capability.Capability.{Capability}
use Rattle.sieve_syntax.specs.declared.capability.Capability.TheVariants as C
use Rattle.sieve_syntax.specs.declared.table.keyword.Keyword.{Keyword}
use Rattle.sieve_syntax.specs.declared.table.keyword.Keyword.TheVariants as W
use Rattle.sieve_syntax.specs.declared.table.tag.Tag.{Tag}
use Rattle.sieve_syntax.specs.declared.table.tag.Tag.TheVariants as G
use Rattle.sieve_syntax.specs.Capabilities.{Capabilities}
use Rattle.sieve_syntax.specs.Extension.{owners_of_word, owners_of_tag}
use Rattle.sieve_syntax.specs.Extension.EncodedCharacter.{as_read}
use Rattle.sieve_syntax.specs.Lexemes.{sieve_keyword_of, tag_of, Lexeme, keyword, tag, number, text, mark}

-- ---- what is read where these capabilities are offered

-- something is in the language that needs none of these, or one that is offered
abbrev pub is_offered : Capabilities → List Capability → Bool
is_offered offered [] = true
is_offered offered (first ∷ more) = list_any offered (first ∷ more)

-- a word or a tag that the language doesn't have is one that the grammar doesn't know
abbrev pub word_in : Capabilities → Keyword → Keyword
word_in offered word = cond (is_offered offered (owners_of_word word)) word W.Other

abbrev pub tag_in : Capabilities → Tag → Tag
tag_in offered t = cond (is_offered offered (owners_of_tag t)) t G.Other

-- what the grammar sees of a token
abbrev pub lexeme_in : Capabilities → Content → Lexeme
lexeme_in offered (T.Identifier name) = keyword (word_in offered (sieve_keyword_of name))
lexeme_in offered (T.Tag name) = tag (tag_in offered (tag_of name))
lexeme_in offered (T.Number n) = number n
lexeme_in offered (T.Text value) = text value
lexeme_in offered (T.Mark m) = mark m

-- the same of a list of tokens
abbrev pub lexemes_in : Capabilities → List Content → List Lexeme
lexemes_in offered contents = map (lexeme_in offered) contents

-- what they are read as: strings are decoded only where that is offered (RFC 5228, 2.4.2.4)
abbrev pub read_in : Capabilities → List Content → List Lexeme
read_in offered contents = cond (offered C.EncodedCharacter) (as_read (lexemes_in offered contents)) (lexemes_in offered contents)
