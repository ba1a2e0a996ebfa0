-- Values in the form of the examples of RFC 2047, section 8, and near misses.
use Rattle.std.proofs.Common.{◌≡◌, None, refl, codes}
use Rattle.mail_words.specs.Words.{encoded_word_text}
use Rattle.mail_words.specs.Values.{decoded_text}

-- a word in Q
one_word : decoded_text (codes "=?US-ASCII?Q?a?=") ≡ codes "a"
one_word = refl

-- blanks between a word and other octets stay
word_and_other : decoded_text (codes "=?US-ASCII?Q?a?= b") ≡ codes "a b"
word_and_other = refl

-- blanks between two words go
two_words : decoded_text (codes "=?US-ASCII?Q?a?=  =?US-ASCII?Q?b?=") ≡ codes "ab"
two_words = refl

-- a space is an underscore
with_space : decoded_text (codes "=?US-ASCII?Q?a_b?=") ≡ codes "a b"
with_space = refl

-- a word that is glued to other octets isn't one
glued : decoded_text (codes "(=?US-ASCII?Q?a?=)") ≡ codes "(=?US-ASCII?Q?a?=)"
glued = refl

-- four question marks make a word, and five do not
fifth_mark : encoded_word_text (codes "=?US-ASCII?Q?a?b?=") ≡ None
fifth_mark = refl
