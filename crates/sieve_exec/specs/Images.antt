-- Names and keys that are told apart by the images of their octets, and asked once for each image.
use Rattle.std.specs.Prelude.{◌≡◌, ℕ, Bool, false, List, [], ◌∷◌, map, nat_eq}
use Rattle.std.specs.List.{list_any}
use Rattle.std.specs.Char.{to_ascii_uppercase}
use Rattle.std.specs.Ordering.{nat_cmp}
use Rattle.std.specs.Cmp.Lexicographic.{pointwise, slice_cmp}
use Rattle.std.specs.BTreeSet.{BTreeSet, contains}
use Rattle.sieve_syntax.specs.declared.tree.checks.Collation.{Collation}
use Rattle.sieve_syntax.specs.declared.tree.checks.Collation.TheVariants.{Octet, AsciiCasemap, AsciiNumeric}

-- the image of an octet by a comparator (RFC 4790, 9.2 and 9.3); i;ascii-numeric, which compares numbers, has none: there an octet
-- stands for itself
abbrev pub image_by : Collation → ℕ → ℕ
image_by Octet = λ octet. octet
image_by AsciiCasemap = to_ascii_uppercase
image_by AsciiNumeric = λ octet. octet

-- the images of a text's octets
abbrev pub text_image : Collation → List ℕ → List ℕ
text_image collation text = map (image_by collation) text

-- whether one of the texts has this image
abbrev pub has_image : Collation → List (List ℕ) → List ℕ → Bool
has_image collation texts image = list_any (λ text. pointwise nat_eq (text_image collation text) image) texts

-- a set has the images of these texts, and no others
abbrev pub AreImages : Collation → List (List ℕ) → BTreeSet (List ℕ) → Type 0
AreImages collation texts images = (image : List ℕ) → contains (slice_cmp nat_cmp) images image ≡ has_image collation texts image

-- a test that doesn't tell texts with the same image apart
abbrev pub GoesByImage : Collation → (List ℕ → Bool) → Type 0
GoesByImage collation test = (one other : List ℕ) → text_image collation one ≡ text_image collation other → test one ≡ test other

-- whether some text passes such a test is the same of these as of all texts
abbrev pub AnswerFor : Collation → List (List ℕ) → List (List ℕ) → Type 0
AnswerFor collation texts these = (test : List ℕ → Bool) → GoesByImage collation test → list_any test these ≡ list_any test texts

-- no text has the image of one that follows it
abbrev pub AreApart : Collation → List (List ℕ) → Type 0
AreApart collation [] = Unit {0}
AreApart collation (text ∷ more) = (has_image collation more (text_image collation text) ≡ false) × AreApart collation more
