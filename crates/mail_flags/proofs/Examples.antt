-- Flags at work: what the definitions take, and one beside it that they don't.
use Rattle.std.proofs.Common.{◌≡◌, true, false, true≢false, [], ◌∷◌, refl, codes, replicate}
use Rattle.std.specs.List.{IsDistinct}
use Rattle.mail_flags.specs.Names.{is_flag}
use Rattle.mail_flags.specs.Flags.{AreFlags, with_all_named, without_all_named, named_flags, flags_text, letters}

-- ---- names

system_flag : is_flag (codes "\\sEEN") ≡ true
system_flag = refl

keyword : is_flag (codes "$Forwarded") ≡ true
keyword = refl

-- a user sets no \Recent, and no flag that a server doesn't know
recent : is_flag (codes "\\Recent") ≡ false
recent = refl

-- no atom has a parenthesis, and none is empty
no_atom : is_flag (codes "a(b") ≡ false
no_atom = refl

empty : is_flag [] ≡ false
empty = refl

longest : is_flag (replicate 128 97) ≡ true
longest = refl

too_long : is_flag (replicate 129 97) ≡ false
too_long = refl

-- ---- what a text names

-- a text names several, each once, whatever the case; what isn't the name of a flag is passed over
several : named_flags (codes "\\Seen  foo \\Bogus FOO a)") ≡ codes "\\Seen" ∷ codes "foo" ∷ []
several = refl

-- RFC 5232, 3.2: `addflag ["\\Flagged", "flagvar"]` behind `addflag "flagvar"`
one_after_other : with_all_named (with_all_named [] (codes "flagvar" ∷ [])) (codes "\\Flagged" ∷ codes "flagvar" ∷ []) ≡ codes "flagvar" ∷ codes "\\Flagged" ∷ []
one_after_other = refl

-- RFC 5232, 3.3: what isn't there is no fault
less : without_all_named (codes "a" ∷ codes "\\Seen" ∷ codes "b" ∷ []) (codes "B \\SEEN" ∷ codes "c" ∷ []) ≡ codes "a" ∷ []
less = refl

-- two cases of one name are no two flags
one_flag : AreFlags (codes "a" ∷ codes "A" ∷ []) → ⊥
unfolding IsDistinct
one_flag so = true≢false so.distinct.0.0

-- ---- texts

text : flags_text (codes "\\Seen" ∷ codes "a" ∷ []) ≡ codes "\\Seen a"
text = refl

-- the letters come in the order of the alphabet, and keywords have none
in_order : letters (codes "\\Seen" ∷ codes "a" ∷ codes "\\FLAGGED" ∷ []) ≡ codes "FS"
in_order = refl

none : letters (codes "Seen" ∷ []) ≡ []
none = refl
