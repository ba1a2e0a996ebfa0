-- The definitions at a few texts: what they hold of, and what is near it that they don't.
use Rattle.std.proofs.Common.{refl, ◌≡◌, inl, ⊎_elim}
use Rattle.std.specs.Prelude.{codes}
use Rattle.mail_head.specs.Lines.{HasEnd}
use Rattle.mail_head.specs.Heads.{size_of}

-- a, LF, b, CR, LF: the bare line feed counts twice
size-bare_feed : size_of (codes "a\nb\r\n") ≡ 6
size-bare_feed = refl

-- it is not the count of the octets alone
size-not_octets : size_of (codes "a\nb\r\n") ≡ 5 → ⊥
size-not_octets e = cc

-- one line feed alone counts twice, one after a CR once
size-feed : size_of (codes "\n") ≡ 2
size-feed = refl

size-crlf : size_of (codes "\r\n") ≡ 2
size-crlf = refl

-- a, CR, LF: the line end is both
end-crlf : HasEnd (codes "a\r\n") (codes "a") (codes "\r\n")
end-crlf = record { spelled = refl; kind = inl refl }

-- and not the line feed alone
end-not_feed : HasEnd (codes "a\r\n") (codes "a\r") (codes "\n") → ⊥
end-not_feed has = ⊎_elim (λ both. cc both) (λ other. ⊎_elim (λ feed. feed.1 (codes "a") refl) (λ none. cc none.0) other) has.kind
