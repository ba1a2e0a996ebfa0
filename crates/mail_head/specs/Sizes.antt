-- How LFs without CR are counted.
use Rattle.std.specs.Prelude.{ℕ, ◌+◌, ◌==◌, ◌&&◌, not, cond, List, [], ◌∷◌}
use Rattle.mail_head.specs.Lines.{is_feed}

-- 1 for an LF after an octet other than CR
abbrev pub bare_at : ℕ → ℕ → ℕ
bare_at before octet = cond (is_feed octet && not (before == 13)) 1 0

-- how many LFs without CR right before them follow this octet
abbrev pub bare_after : ℕ → List ℕ → ℕ
bare_after before [] = 0
bare_after before (octet ∷ rest) = bare_at before octet + bare_after octet rest

-- how many there are in a block after its first octet
abbrev pub bare_in : List ℕ → ℕ
bare_in [] = 0
bare_in (octet ∷ rest) = bare_after octet rest
