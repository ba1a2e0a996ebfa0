-- Texts in which their writer encoded words, and near misses: words of RFC 2047, sections 2 and 8.
use Rattle.std.proofs.Common.{◌≡◌, true, false, replicate, ◌++◌, refl, codes}
use Rattle.std.specs.Str.{is_utf8, chars}
use Rattle.base64.specs.Decode.{groups_error, scan_steps, groups_bytes}
use Rattle.base64.specs.GeneralPurpose.{decoded_of}
use lib.Utf8.{encode}
use Rattle.mail_words.specs.Written.{is_written_word, is_written_run, has_written_words, is_phrase_run, has_phrase_words, folded, lines_for}

-- `Änn` in B, which ends with `=?=` that begins no word; two words with blanks between; a word and other octets
words : (has_written_words (codes "=?UTF-8?B?w4Rubg==?=") ≡ true) × (has_written_words (codes "=?US-ASCII?Q?a?=  =?iso-8859-1?q?=E9?= b") ≡ true)
    × (has_written_words (codes "Keith =?US-ASCII?Q?M?=") ≡ true)
unfolding decoded_of groups_error scan_steps groups_bytes is_utf8 chars encode
words = (refl, refl, refl)

-- `=?` that begins no word, a word glued to a letter, a charset that isn't known, and no `=?` at all
others : (has_written_words (codes "a =?b") ≡ false) × (has_written_words (codes "x=?US-ASCII?Q?a?=") ≡ false) × (has_written_words (codes "=?US-ASCII?Q?a?=x") ≡ false)
    × (has_written_words (codes "=?koi8-r?Q?x?=") ≡ false) × (has_written_words (codes "=?US-ASCII?Q?a?= =?koi8-r?Q?x?=") ≡ false) × (has_written_words (codes "Lunch") ≡ false)
others = (refl, refl, refl, refl, refl, refl)

-- a word of 75 octets, and one of 76
longest : (is_written_word (codes "=?US-ASCII?Q?" ++ (replicate 60 97 ++ codes "?=")) ≡ true) × (is_written_word (codes "=?US-ASCII?Q?" ++ (replicate 61 97 ++ codes "?=")) ≡ false)
    × (is_written_run (codes "=?US-ASCII?Q?" ++ (replicate 61 97 ++ codes "?=")) ≡ false)
longest = (refl, refl, refl)

-- a run of 200 octets, and one of 201
runs : (is_written_run (replicate 200 97) ≡ true) × (is_written_run (replicate 201 97) ≡ false) × (has_written_words (codes "=?US-ASCII?Q?a?=\n") ≡ false)
runs = (refl, refl, refl)

-- a word that may stand in a phrase, two that may not, and a run that is no word
phrases : (is_phrase_run (codes "=?iso-8859-1?q?=E9_a?=") ≡ true) × (is_phrase_run (codes "=?US-ASCII?Q?it's?=") ≡ false) × (is_phrase_run (codes "=?US-ASCII?Q?a,b?=") ≡ false)
    × (has_phrase_words (codes "it's =?US-ASCII?Q?a?=") ≡ true)
phrases = (refl, refl, refl, refl)

-- it is folded between other octets, not at the ends, and only where it is long
folds : (folded (codes " a  b c ") ≡ codes " a\r\n  b\r\n c ") × (lines_for (codes "a b") ≡ codes "a b")
    × (lines_for (replicate 198 97 ++ codes " b") ≡ replicate 198 97 ++ codes " b") × (lines_for (replicate 199 97 ++ codes " b") ≡ replicate 199 97 ++ codes "\r\n b")
folds = (refl, refl, refl, refl)
