-- What a writer has returned.
use Rattle.std.specs.Prelude.{ℕ, List, ◌++◌}
use Rattle.sha2.specs.Hashers.{Holds256}
use Rattle.store_text.specs.declared.writing.Writer.{Writer}
use Rattle.store_text.specs.declared.writing.AccountLine.{AccountLine}

-- the hash is that of this text
abbrev pub HasWritten : Writer → List ℕ → Type 0
HasWritten writer text = Holds256 writer.hasher text

-- the octets of a line
abbrev pub line_octets : AccountLine → List ℕ
line_octets line = line.front ++ (line.last.now ++ line.back)
