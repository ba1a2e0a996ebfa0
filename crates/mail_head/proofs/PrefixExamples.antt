-- The definitions at a few texts: what they hold of, and what is near it that they don't.
use Rattle.std.proofs.Common.{◌≡◌, nat_lt, true, false, refl}
use Rattle.std.specs.Prelude.{codes}
use Rattle.mail_head.specs.Heads.{body_start}
use Rattle.mail_head.specs.Prefixes.{IsHeaderPrefix}
use Rattle.mail_head.specs.SizeCounts.{CountsSize}

-- a line, an empty one, and some of what follows
front-empty_line : IsHeaderPrefix (codes "a: b\r\n\r\nc") (codes "a: b\r\n\r\nc\n\n")
front-empty_line = record { rest = codes "\n\n"; spelled = refl; ended = refl }

-- where the second line is still open that front isn't one
front-open : IsHeaderPrefix (codes "a: b\r\n\r") (codes "a: b\r\n\r\nc\n\n") → ⊥
front-open has = let no = has.ended in cc no

-- a CR at the end of what came: an LF behind it isn't counted twice
counts-return : CountsSize (codes "a\n\r") (record { size = 4; last = 13 })
counts-return = record { size = refl; last = refl }

-- and the first LF is
counts-not_octets : CountsSize (codes "a\n\r") (record { size = 3; last = 13 }) → ⊥
counts-not_octets counts = let no = counts.size in cc no

-- a header ends behind its empty line; a text without one is all header
header-ends : body_start (codes "a: b\r\n\r\nc\n\n") ≡ 8
header-ends = refl

header-open : body_start (codes "a: b\r\nc") ≡ 7
header-open = refl

-- a header of eight octets isn't longer than eight, and is longer than seven, though a CR stands seventh
header-at_most : nat_lt 8 (body_start (codes "a: b\r\n\r\nc")) ≡ false
header-at_most = refl

header-longer : nat_lt 7 (body_start (codes "a: b\r\n\r\nc")) ≡ true
header-longer = refl
