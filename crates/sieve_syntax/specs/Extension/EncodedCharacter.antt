-- `encoded-character`: which strings of a script are decoded (RFC 5228, 2.4.2.4 and 3.2), those after the `require` that names it.
use Rattle.std.specs.Prelude.{ℕ, Bool, cond, nat_eq, List, [], ◌∷◌, codes}
use Rattle.std.specs.Cmp.Lexicographic.{pointwise}
use Rattle.sieve_lex.specs.declared.token.Mark.TheVariants as K
use Rattle.sieve_syntax.specs.declared.table.keyword.Keyword.TheVariants as W
use Rattle.sieve_syntax.specs.declared.extension.encoded_character.Decoding.{Decoding}
use Rattle.sieve_syntax.specs.declared.extension.encoded_character.Decoding.TheVariants.{Open, Named, On, Off}
use Rattle.sieve_syntax.specs.Lexemes.{Lexeme, keyword, text, mark, decoded_lexeme}

-- the string that names the extension
abbrev pub is_encoded_character : List ℕ → Bool
is_encoded_character name = pointwise nat_eq name (codes "encoded-character")

-- how strings are read after a lexeme: a word other than `require` ends the requires, and a `require` ends at its semicolon
abbrev pub decoding_after : Decoding → Lexeme → Decoding
decoding_after Open (keyword W.Require) = Open
decoding_after Open (keyword _) = Off
decoding_after Open (text name) = cond (is_encoded_character name) Named Open
decoding_after Open _ = Open
decoding_after Named (mark K.Semicolon) = On
decoding_after Named _ = Named
decoding_after On lexeme = On
decoding_after Off lexeme = Off

-- what a lexeme is read as
abbrev pub lexeme_as_read : Decoding → Lexeme → Lexeme
lexeme_as_read Open lexeme = lexeme
lexeme_as_read Named lexeme = lexeme
lexeme_as_read On lexeme = decoded_lexeme lexeme
lexeme_as_read Off lexeme = lexeme

-- what a list of lexemes is read as
abbrev pub lexemes_as_read : Decoding → List Lexeme → List Lexeme
lexemes_as_read decoding [] = []
lexemes_as_read decoding (lexeme ∷ more) = lexeme_as_read decoding lexeme ∷ lexemes_as_read (decoding_after decoding lexeme) more

-- what the lexemes of a script are read as
abbrev pub as_read : List Lexeme → List Lexeme
as_read lexemes = lexemes_as_read Open lexemes
