-- Directories of folders, each with a near miss.
use Rattle.std.proofs.Common.{◌≡◌, refl, ap, codes, List, ℕ, [], ◌∷◌, ◌++◌, inl, inr, arith}
use Rattle.std.specs.Prelude.{Some, None, drop, slice_index}
use Rattle.std.specs.Str.{chars, is_utf8}
use Rattle.base64.specs.Rfc4648.{encode_symbols}
use Rattle.maildir_files.specs.declared.separator.Separator.TheVariants.{Dot, Slash}
use Rattle.maildir_files.specs.Directory.{MayShare, digest_form, directory}
use Rattle.maildir_files.specs.Subscriptions.{list_version, with_folder}

-- a blank is itself
blank_kept : directory Dot (codes "Sent Items") ≡ codes ".Sent Items"
unfolding chars is_utf8 lib.Utf8.encode
blank_kept = refl

-- the separator is `.`, and the other one is escaped
slash_cuts : directory Slash (codes "work/x") ≡ codes ".work.x"
unfolding chars is_utf8 lib.Utf8.encode
slash_cuts = refl

slash_kept : directory Dot (codes "work/x") ≡ codes ".work\\2fx"
unfolding chars is_utf8 lib.Utf8.encode
slash_kept = refl

dot_cuts : directory Dot (codes "work.x") ≡ codes ".work.x"
unfolding chars is_utf8 lib.Utf8.encode
dot_cuts = refl

dot_kept : directory Slash (codes "work.x") ≡ codes ".work\\2ex"
unfolding chars is_utf8 lib.Utf8.encode
dot_kept = refl

-- INBOX is the Maildir itself, in any case, and what lies below it is not
inbox_itself : directory Dot (codes "inbox") ≡ codes "."
inbox_itself = refl

below_inbox : directory Dot (codes "INBOX.Junk") ≡ codes ".INBOX.Junk"
unfolding chars is_utf8 lib.Utf8.encode
below_inbox = refl

nearly_inbox : directory Dot (codes "inbox2") ≡ codes ".inbox2"
unfolding chars is_utf8 lib.Utf8.encode
nearly_inbox = refl

-- a first level INBOX is `INBOX`, in any case
below_any_inbox : directory Dot (codes "Inbox.Junk") ≡ codes ".INBOX.Junk"
unfolding chars is_utf8 lib.Utf8.encode
below_any_inbox = refl

below_slash : directory Slash (codes "inbox/a/Inbox") ≡ codes ".INBOX.a.Inbox"
unfolding chars is_utf8 lib.Utf8.encode
below_slash = refl

-- near misses: no level of that name, by that separator; a longer one; and a later one
no_level_there : directory Slash (codes "Inbox.Junk") ≡ codes ".Inbox\\2eJunk"
unfolding chars is_utf8 lib.Utf8.encode
no_level_there = refl

longer_level : directory Dot (codes "Inboxes.Junk") ≡ codes ".Inboxes.Junk"
unfolding chars is_utf8 lib.Utf8.encode
longer_level = refl

later_level : directory Dot (codes "x.Inbox") ≡ codes ".x.Inbox"
unfolding chars is_utf8 lib.Utf8.encode
later_level = refl

-- `Größe`: ö and ß are one run
abbrev size_name : List ℕ
size_name = codes "Gr" ++ 195 ∷ 182 ∷ 195 ∷ 159 ∷ codes "e"

one_run : directory Dot size_name ≡ codes ".Gr&APYA3w-e"
unfolding chars is_utf8 encode_symbols lib.Utf8.encode
one_run = refl

-- `ö-ß`: two runs
two_runs : directory Dot (195 ∷ 182 ∷ 45 ∷ 195 ∷ 159 ∷ []) ≡ codes ".&APY--&AN8-"
unfolding chars is_utf8 encode_symbols lib.Utf8.encode
two_runs = refl

-- not UTF-8: ö in ISO-8859-1
not_text : directory Dot (71 ∷ 246 ∷ []) ≡ digest_form (71 ∷ 246 ∷ [])
unfolding chars is_utf8 lib.Utf8.encode
not_text = refl

-- `&`, and what it is written by
ampersand : directory Dot (codes "&") ≡ codes ".&-"
unfolding chars is_utf8 lib.Utf8.encode
ampersand = refl

ampersand_written : directory Dot (codes "&-") ≡ codes ".&--"
unfolding chars is_utf8 lib.Utf8.encode
ampersand_written = refl

-- `~` at the front of a level, and elsewhere
tilde_front : directory Dot (codes "~x") ≡ codes ".\\7ex"
unfolding chars is_utf8 lib.Utf8.encode
tilde_front = refl

tilde_inside : directory Dot (codes "x~") ≡ codes ".x~"
unfolding chars is_utf8 lib.Utf8.encode
tilde_inside = refl

tilde_later_level : directory Dot (codes "a.~~b") ≡ codes ".a.\\7e~b"
unfolding chars is_utf8 lib.Utf8.encode
tilde_later_level = refl

tilde_no_level : directory Slash (codes "a.~b") ≡ codes ".a\\2e~b"
unfolding chars is_utf8 lib.Utf8.encode
tilde_no_level = refl

tilde_after_run : directory Dot (195 ∷ 182 ∷ codes "~") ≡ codes ".&APY-~"
unfolding chars is_utf8 encode_symbols lib.Utf8.encode
tilde_after_run = refl

-- `\` and two hexadecimal digits of an octet over 127, of one up to 127, and one digit
high_pair : directory Dot (codes "a\\C3b") ≡ digest_form (codes "a\\C3b")
unfolding chars is_utf8 lib.Utf8.encode
high_pair = refl

low_pair : directory Dot (codes "a\\7f") ≡ codes ".a\\5c7f"
unfolding chars is_utf8 lib.Utf8.encode
low_pair = refl

one_digit : directory Dot (codes "\\cg") ≡ codes ".\\5ccg"
unfolding chars is_utf8 lib.Utf8.encode
one_digit = refl

-- NUL, and another control character
nul : directory Dot (97 ∷ 0 ∷ []) ≡ digest_form (97 ∷ 0 ∷ [])
unfolding chars is_utf8 lib.Utf8.encode
nul = refl

no_nul : directory Dot (97 ∷ 1 ∷ []) ≡ codes ".a&AAE-"
unfolding chars is_utf8 encode_symbols lib.Utf8.encode
no_nul = refl

-- the name of a directory that a digest may have, and one digit less
abbrev digits : List ℕ
digits = codes "0123456789abcdef0123456789abcdef0123456789abcdef0123456789abcdef"

named_as_digest : directory Dot (codes "sha256-" ++ digits) ≡ digest_form (codes "sha256-" ++ digits)
unfolding chars is_utf8 lib.Utf8.encode
named_as_digest = refl

nearly_digest : directory Dot (codes "sha256-" ++ drop 1 digits) ≡ codes ".sha256-" ++ drop 1 digits
unfolding chars is_utf8 lib.Utf8.encode
nearly_digest = refl

upper_digits : directory Dot (codes "sha256-A" ++ drop 1 digits) ≡ codes ".sha256-A" ++ drop 1 digits
unfolding chars is_utf8 lib.Utf8.encode
upper_digits = refl

-- an empty level, and two dots that are none
empty_level : directory Dot (codes "..") ≡ digest_form (codes "..")
unfolding chars is_utf8 lib.Utf8.encode
empty_level = refl

two_dots : directory Slash (codes "..") ≡ codes ".\\2e\\2e"
unfolding chars is_utf8 lib.Utf8.encode
two_dots = refl

no_name : directory Dot [] ≡ digest_form []
unfolding chars is_utf8 lib.Utf8.encode
no_name = refl

-- INBOX in letters of either case is one folder
one_inbox : MayShare Dot (codes "inbox") (codes "INBOX")
one_inbox = inr (inl (refl, refl))

-- what lies below it is so too
below_one_inbox : MayShare Dot (codes "Inbox.Junk") (codes "INBOX.Junk")
below_one_inbox = inl refl

-- near misses: other names in letters of either case aren't, nor is a level that only begins so
two_cases : MayShare Dot (codes "work") (codes "Work") → ⊥
unfolding chars is_utf8 lib.Utf8.encode
two_cases (inl same) = let first : 119 ≡ 87 = ap (λ l. slice_index l 0) same in absurd (omega (arith, first))
two_cases (inr (inl (one, two))) = cc
two_cases (inr (inr (one, two, three))) = cc

two_levels : MayShare Dot (codes "Inboxes.Junk") (codes "inboxes.Junk") → ⊥
unfolding chars is_utf8 lib.Utf8.encode
two_levels (inl same) = let first : 73 ≡ 105 = ap (λ l. slice_index l 0) same in absurd (omega (arith, first))
two_levels (inr (inl (one, two))) = cc
two_levels (inr (inr (one, two, three))) = cc

two_ends : MayShare Dot (codes "Inbox.Junk") (codes "INBOX.junk") → ⊥
unfolding chars is_utf8 lib.Utf8.encode
two_ends (inl same) = let seventh : 74 ≡ 106 = ap (λ l. slice_index l 6) same in absurd (omega (arith, seventh))
two_ends (inr (inl (one, two))) = cc
two_ends (inr (inr (one, two, three))) = cc

-- ---- subscriptions

-- the first folder makes the list
first_folder : with_folder [] (codes "work.x") ≡ Some (list_version ++ (10 ∷ (codes "work" ++ 9 ∷ (codes "x" ++ 10 ∷ []))))
first_folder = refl

-- a list of version 1 has no tabs, and its last line may lack its end
old_list : with_folder (codes "lists") (codes "work.x") ≡ Some (codes "lists" ++ (10 ∷ (codes "work.x" ++ 10 ∷ [])))
old_list = refl

-- a near miss: the folder is in it
has_it_already : with_folder (list_version ++ (10 ∷ (codes "work" ++ 9 ∷ (codes "x" ++ 10 ∷ [])))) (codes "work.x") ≡ None
has_it_already = refl
