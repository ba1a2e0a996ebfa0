-- What the readers of single tokens return.
use Rattle.std.specs.Prelude.{ℕ, List}
use Rattle.sieve_lex.specs.declared.front.Front.{Front}
use Rattle.sieve_lex.specs.Spelling.{IsToken}

-- the octets begin with this token
abbrev pub IsFront : List ℕ → Front → Type 0
IsFront octets f = IsToken octets f.content f.len
