-- The addresses that a script names (RFC 5228, 2.4.2.3).
use Rattle.std.specs.Prelude.{ℕ, List}
use Rattle.std.specs.Str.{IsUtf8}
use Rattle.mail_address.specs.declared.address.Addr.{Addr}
use Rattle.mail_address.specs.Outbound.{IsOutbound}

-- the text, which is UTF-8, names this address with this display name
abbrev pub IsNamedAs : List ℕ → List ℕ → Addr → Type 0
IsNamedAs text display address = IsUtf8 text × IsOutbound text display address

-- the text names this address
abbrev pub Names : List ℕ → Addr → Type 0
Names text address = (display : List ℕ) × IsNamedAs text display address
