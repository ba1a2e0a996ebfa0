-- The line that names a file which was read.
use Rattle.std.specs.Prelude.{ℕ, List, [], ◌∷◌, codes}
use Rattle.hex.specs.Hex.{encode_lower}
use Rattle.sha2.specs.Sha256.{sha256}
use Rattle.daemon_log.specs.Lines.{pair, log_line_of}

-- the name of the file, and the SHA-256 of its text in hexadecimal digits
abbrev pub digest_line : (word file text : List ℕ) → List ℕ
digest_line word file text = log_line_of word (pair (codes "file") file ∷ pair (codes "sha256") (encode_lower (sha256 text)) ∷ [])
