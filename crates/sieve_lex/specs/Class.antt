-- What an octet begins, outside strings (RFC 5228, 8.1).
use Rattle.std.specs.Prelude.{ℕ, Bool, ◌==◌, ◌||◌, cond}
use Rattle.octets.specs.Ascii.{is_blank, is_letter, is_digit}
use Rattle.sieve_lex.specs.declared.class.Class.{Class}
use Rattle.sieve_lex.specs.declared.class.Class.TheVariants.{Letter, Digit, White, Colon, Quote, Mark, Other}
use Rattle.sieve_lex.specs.declared.token.Mark.TheVariants.{Semicolon, OpenBrace, CloseBrace, OpenBracket, CloseBracket, OpenParen, CloseParen, Comma}

-- a letter or `_` begins an identifier
abbrev pub is_name_start : ℕ → Bool
is_name_start b = is_letter b || b == 95

-- a letter, a digit or `_` continues it
abbrev pub is_name_octet : ℕ → Bool
is_name_octet b = is_name_start b || is_digit b

-- SP, TAB, and the octets of a line end, CR and LF (in a text each CR precedes an LF)
abbrev pub is_white : ℕ → Bool
is_white b = is_blank b || (b == 13 || b == 10)

-- what an octet begins: `:` a tag, `"` a string, `; { } [ ] ( ) ,` stand for themselves
abbrev pub octet_class_of : ℕ → Class
octet_class_of b =
    cond (is_name_start b) Letter
    (cond (is_digit b) Digit
    (cond (is_white b) White
    (cond (b == 58) Colon
    (cond (b == 34) Quote
    (cond (b == 59) (Mark Semicolon)
    (cond (b == 123) (Mark OpenBrace)
    (cond (b == 125) (Mark CloseBrace)
    (cond (b == 91) (Mark OpenBracket)
    (cond (b == 93) (Mark CloseBracket)
    (cond (b == 40) (Mark OpenParen)
    (cond (b == 41) (Mark CloseParen)
    (cond (b == 44) (Mark Comma)
    Other))))))))))))
