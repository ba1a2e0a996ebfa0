-- An unfolded value read octet by octet from the raw one.
use Rattle.std.specs.Prelude.{ℕ, Bool, true, false, ◌==◌, ◌&&◌, cond, List, [], ◌∷◌, Option, None, Some, nat_eq, nat_le}
use Rattle.std.specs.Char.{to_ascii_lowercase}
use Rattle.mail_head.specs.Lines.{is_feed, begins_blank}

-- the text begins with LF and then a blank
abbrev pub begins_feed_fold : List ℕ → Bool
begins_feed_fold [] = false
begins_feed_fold (octet ∷ rest) = is_feed octet && begins_blank rest

-- how many octets a line end has that comes first and that a blank follows
abbrev pub fold_len : List ℕ → ℕ
fold_len [] = 0
fold_len (octet ∷ rest) = cond (is_feed octet && begins_blank rest) 1 (cond (octet == 13 && begins_feed_fold rest) 2 0)

-- what follows a word that comes first, ignoring case
abbrev pub after_word : List ℕ → List ℕ → Option (List ℕ)
after_word [] text = Some text
after_word (letter ∷ word) [] = None
after_word (letter ∷ word) (octet ∷ rest) = cond (nat_eq (to_ascii_lowercase letter) (to_ascii_lowercase octet)) (after_word word rest) None

-- a to z
abbrev pub is_small : ℕ → Bool
is_small octet = nat_le 97 octet && nat_le octet 122

-- a mark, neither a blank nor a letter: 33 to 64
abbrev pub is_nonletter : ℕ → Bool
is_nonletter octet = nat_le 33 octet && nat_le octet 64

-- the text is empty, or begins with this mark
abbrev pub ends_by_mark : ℕ → List ℕ → Bool
ends_by_mark mark [] = true
ends_by_mark mark (octet ∷ rest) = octet == mark

-- what follows the first comma
abbrev pub after_comma : List ℕ → Option (List ℕ)
after_comma [] = None
after_comma (octet ∷ rest) = cond (octet == 44) (Some rest) (after_comma rest)
