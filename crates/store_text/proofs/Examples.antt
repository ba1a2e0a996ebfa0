-- Parts of a text at work, and some beside them that are none.
use Rattle.std.proofs.Common.{◌≡◌, true, false, [], ◌∷◌, ◌++◌, codes, decimal, Some, None, refl, arith}
use Rattle.std.proofs.lemmas.Fmt.{decimal_digit}
use Rattle.store_text.specs.Netstring.{netstring, line}
use Rattle.store_text.specs.Fields.{is_version, part_fields, five_at, part_at}
use Rattle.store_text.specs.Order.{are_chained, fits, has_active}
use Rattle.store_text.specs.declared.head.Numbers.{Numbers}
use Rattle.store_text.specs.declared.part.Part.TheVariants.{Script, Mail, Copy}

-- five octets, and a line of one field
hello : netstring (codes "hello") ≡ codes "5:hello,"
unfolding netstring
hello = rw (decimal_digit 5 (omega arith)) refl

one_field : line (codes "hello" ∷ []) ≡ codes "5:hello," ++ 10 ∷ []
unfolding line
one_field = rw hello refl

-- scripts stand by their names, and none twice
scripts : are_chained None (Script (codes "a") [] ∷ Script (codes "b") [] ∷ []) ≡ true
scripts = refl

scripts_back : are_chained None (Script (codes "b") [] ∷ Script (codes "a") [] ∷ []) ≡ false
scripts_back = refl

script_twice : are_chained None (Script (codes "a") [] ∷ Script (codes "a") [] ∷ []) ≡ false
script_twice = refl

-- and before what comes behind them
late_script : are_chained None (Mail 1 (codes "INBOX") [] [] ∷ Script (codes "a") [] ∷ []) ≡ false
late_script = refl

-- a copy stands behind its message, or behind another copy of it
copies : are_chained None (Mail 1 (codes "a") (codes "m") [] ∷ Copy 2 (codes "b") 1 [] ∷ Copy 3 (codes "INBOX") 1 [] ∷ []) ≡ true
copies = refl

copy_alone : are_chained None (Copy 2 (codes "b") 1 [] ∷ []) ≡ false
copy_alone = refl

copy_of_another : are_chained None (Mail 1 (codes "a") (codes "m") [] ∷ Mail 2 (codes "a") (codes "n") [] ∷ Copy 3 (codes "b") 1 [] ∷ []) ≡ false
copy_of_another = refl

-- flags are a field more, and none where there are none
flagged : part_fields (Mail 1 (codes "a") (codes "m") (codes "\\Seen")) ≡ codes "mail" ∷ decimal 1 ∷ codes "a" ∷ codes "m" ∷ codes "\\Seen" ∷ []
flagged = refl

unflagged : part_fields (Copy 2 (codes "b") 1 []) ≡ codes "copy" ∷ decimal 2 ∷ codes "b" ∷ decimal 1 ∷ []
unflagged = refl

-- a field of flags that is there isn't empty
empty_flags : part_at (codes "mail" ∷ codes "1" ∷ codes "a" ∷ codes "m" ∷ [] ∷ []) ≡ None
unfolding part_at five_at
empty_flags = refl

-- a number that the account hasn't given
abbrev numbers : Numbers
numbers = record { rounds = 1; next_copy = 3; next_out = 1; next_notice = 1 }

given : fits numbers (Mail 2 (codes "a") [] []) ≡ true
given = refl

not_given : fits numbers (Mail 3 (codes "a") [] []) ≡ false
not_given = refl

none_given : fits numbers (Mail 0 (codes "a") [] []) ≡ false
none_given = refl

-- the active script is one of them
active : has_active (Some (codes "a")) (Script (codes "a") [] ∷ []) ≡ true
active = refl

no_active : has_active (Some (codes "b")) (Script (codes "a") [] ∷ []) ≡ false
no_active = refl

-- the first line of another version
other_version : is_version (codes "sieved-account" ∷ codes "2" ∷ []) ≡ false
unfolding is_version
other_version = refl
