-- An unfolded value, octet by octet.
use Rattle.std.proofs.Common.{◌≡◌, ℕ, suc, ◌+◌, ◌-◌, ◌==◌, ◌≤◌, ◌<◌, Bool, true, false, cond, ◌&&◌, List, [], ◌∷◌, ◌++◌, length, take, drop, get_or, refl, ap, sym, ◌∙◌, arith, get_or-append-add}
use Rattle.std.proofs.lemmas.Bool.Decides.{nat_tests}
use Rattle.octets.specs.Ascii.{is_blank}
use Rattle.mail_head.specs.Lines.{lines_of, at_front, is_feed, first_is_folded, begins_blank, end_len, without_end}
use Rattle.mail_head.specs.Heads.{unfolded_lines, unfold_of}
use Rattle.mail_head.proofs.LineLemmas.{goes_on-lines_of}
use Rattle.mail_head.proofs.PlaceLemmas.{end_len-le}
use Rattle.sieve_vacation.specs.Folds.{begins_feed_fold, fold_len}

-- a line end that a blank follows is left out
feed_out : (rest : List ℕ) → begins_blank rest ≡ true → unfold_of (10 ∷ rest) ≡ unfold_of rest
feed_out rest blank = rw (goes_on-lines_of rest, blank) refl

return_out : (rest : List ℕ) → begins_blank rest ≡ true → unfold_of (13 ∷ (10 ∷ rest)) ≡ unfold_of rest
return_out rest blank = rw (goes_on-lines_of rest, blank) refl

-- a line end that no blank follows stays
feed_kept : (rest : List ℕ) → begins_blank rest ≡ false → unfold_of (10 ∷ rest) ≡ 10 ∷ unfold_of rest
feed_kept rest other = rw (goes_on-lines_of rest, other) refl

at_end : (front after : List ℕ) (i k : ℕ) → i ≡ length front + k → get_or (front ++ after) i 0 ≡ get_or after k 0
at_end front after i k is = rw is (get_or-append-add front after k 0)

-- a line of two octets or more ends as it does with an octet before it
same_end : (octet : ℕ) (line : List ℕ) → 1 < length line → end_len (octet ∷ line) ≡ end_len line
same_end octet line long =
    let last : get_or (octet ∷ line) (length (octet ∷ line) - 1) 0 ≡ get_or line (length line - 1) 0 = at_end (octet ∷ []) line _ _ (omega arith) in
    let other : get_or (octet ∷ line) (length (octet ∷ line) - 2) 0 ≡ get_or line (length line - 2) 0 = at_end (octet ∷ []) line _ _ (omega arith) in
    rw (last, other) refl

take_kept : (octet : ℕ) (line : List ℕ) (n m : ℕ) → n ≡ m → m ≤ length line → take (length (octet ∷ line) - n) (octet ∷ line) ≡ octet ∷ take (length line - m) line
take_kept octet line n m same within =
    let longer : length (octet ∷ line) - n ≡ suc (length line - m) = omega arith in
    rw longer refl

-- the octets before a line's end, with an octet before the line
end_kept : (octet : ℕ) (line : List ℕ) → end_len (octet ∷ line) ≡ end_len line → without_end (octet ∷ line) ≡ octet ∷ without_end line
end_kept octet line same = take_kept octet line (end_len (octet ∷ line)) (end_len line) same (end_len-le line)

joined_with : (goes : Bool) (octet : ℕ) (line rest : List ℕ) → (goes ≡ true → end_len (octet ∷ line) ≡ end_len line)
    → cond goes (without_end (octet ∷ line)) (octet ∷ line) ++ rest ≡ octet ∷ (cond goes (without_end line) line ++ rest)
joined_with true octet line rest same = ap (λ text. text ++ rest) (end_kept octet line (same refl))
joined_with false octet line rest same = refl

-- an octet before the first line stays
front_kept : (octet : ℕ) (line : List ℕ) (others : List (List ℕ)) → (first_is_folded others ≡ true → end_len (octet ∷ line) ≡ end_len line)
    → unfolded_lines ((octet ∷ line) ∷ others) ≡ octet ∷ unfolded_lines (line ∷ others)
front_kept octet line others same = joined_with (first_is_folded others) octet line (unfolded_lines others) same

-- two octets that are no line end
pair_end : (octet next : ℕ) → is_feed next ≡ false → end_len (octet ∷ (next ∷ [])) ≡ end_len (next ∷ [])
pair_end octet next other = rw other refl

-- after another octet than LF, before what else the text has
other_kept : (octet next : ℕ) (lines : List (List ℕ)) → is_feed next ≡ false → unfolded_lines (at_front octet (at_front next lines)) ≡ octet ∷ unfolded_lines (at_front next lines)
other_kept octet next [] other = front_kept octet (next ∷ []) [] (λ goes. pair_end octet next other)
other_kept octet next ([] ∷ more) other = front_kept octet (next ∷ []) more (λ goes. pair_end octet next other)
other_kept octet next ((first ∷ line) ∷ more) other = front_kept octet (next ∷ (first ∷ line)) more (λ goes. same_end octet (next ∷ (first ∷ line)) (omega arith))

feed_is : (octet : ℕ) → is_feed octet ≡ true → (octet ≡ 10) × ((octet == 13) ≡ false)
feed_is octet is = (grind (arith, nat_tests), grind (arith, nat_tests))

return_is : (octet : ℕ) → (octet == 13) ≡ true → octet ≡ 13
return_is octet is = grind (arith, nat_tests)

blank_is : (octet : ℕ) → is_blank octet ≡ true → (is_feed octet ≡ false) × ((octet == 13) ≡ false)
blank_is octet is = (grind (arith, nat_tests), grind (arith, nat_tests))

and_true : (b : Bool) → (b && true) ≡ false → b ≡ false
and_true true is = is
and_true false is = refl

and_both : (a b : Bool) → (a && b) ≡ true → (a ≡ true) × (b ≡ true)
and_both true b is = (refl, is)
and_both false b is = absurd cc

-- before LF, any octet but CR
feed_end : (octet next : ℕ) → is_feed next ≡ true → (octet == 13) ≡ false → end_len (octet ∷ (next ∷ [])) ≡ end_len (next ∷ [])
feed_end octet next feed other = rw (feed, other, (feed_is next feed).1) refl

unfolded_front : (octet next : ℕ) (more : List ℕ) (feed : Bool) → is_feed next ≡ feed → (((octet == 13) && (feed && begins_blank more)) ≡ false)
    → unfolded_lines (at_front octet (cond feed ((next ∷ []) ∷ lines_of more) (at_front next (lines_of more)))) ≡ octet ∷ unfolded_lines (cond feed ((next ∷ []) ∷ lines_of more) (at_front next (lines_of more)))
unfolded_front octet next more false is apart = other_kept octet next (lines_of more) is
unfolded_front octet next more true is apart =
    front_kept octet (next ∷ []) (lines_of more) (λ goes. feed_end octet next is (and_true (octet == 13) (rw (sym (goes_on-lines_of more), goes) at apart)))

other_front : (octet : ℕ) (rest : List ℕ) → ((octet == 13) && begins_feed_fold rest) ≡ false → unfolded_lines (at_front octet (lines_of rest)) ≡ octet ∷ unfold_of rest
other_front octet [] apart = refl
other_front octet (next ∷ more) apart = unfolded_front octet next more (is_feed next) refl apart

-- an octet stays where no line end stands first that a blank follows
kept : (octet : ℕ) (rest : List ℕ) (feed : Bool) → is_feed octet ≡ feed → (feed && begins_blank rest) ≡ false → ((octet == 13) && begins_feed_fold rest) ≡ false
    → unfold_of (octet ∷ rest) ≡ octet ∷ unfold_of rest
kept octet rest true is here apart = rw (feed_is octet is).0 (feed_kept rest here)
kept octet rest false is here apart = rw is (other_front octet rest apart)

-- a blank stays
blank_kept : (octet : ℕ) (rest : List ℕ) → is_blank octet ≡ true → unfold_of (octet ∷ rest) ≡ octet ∷ unfold_of rest
blank_kept octet rest blank = kept octet rest false (blank_is octet blank).0 refl (rw (blank_is octet blank).1 refl)

after_feed : (first octet : ℕ) (more after : List ℕ) → is_feed first ≡ true → begins_blank more ≡ true → more ≡ octet ∷ after → unfold_of (first ∷ more) ≡ octet ∷ unfold_of after
after_feed first octet more after feed blank same =
    let octet_blank : is_blank octet ≡ true = sym (ap begins_blank same) ∙ blank in
    rw (feed_is first feed).0 (feed_out more blank ∙ (ap unfold_of same ∙ blank_kept octet after octet_blank))

after_return : (first octet : ℕ) (more after : List ℕ) → (first == 13) ≡ true → begins_feed_fold more ≡ true → drop 2 (first ∷ more) ≡ octet ∷ after → unfold_of (first ∷ more) ≡ octet ∷ unfold_of after
after_return first octet [] after return fold same = absurd cc
after_return first octet (second ∷ third) after return fold same =
    let both = and_both (is_feed second) (begins_blank third) fold in
    let octet_blank : is_blank octet ≡ true = sym (ap begins_blank same) ∙ both.1 in
    rw (return_is first return, (feed_is second both.0).0) (return_out third both.1 ∙ (ap unfold_of same ∙ blank_kept octet after octet_blank))

cut : (first octet : ℕ) (more after : List ℕ) (feed return : Bool) → (is_feed first && begins_blank more) ≡ feed → ((first == 13) && begins_feed_fold more) ≡ return
    → drop (cond feed 1 (cond return 2 0)) (first ∷ more) ≡ octet ∷ after → unfold_of (first ∷ more) ≡ octet ∷ unfold_of after
cut first octet more after true return here there same =
    let both = and_both (is_feed first) (begins_blank more) here in
    after_feed first octet more after both.0 both.1 same
cut first octet more after false true here there same =
    let both = and_both (first == 13) (begins_feed_fold more) there in
    after_return first octet more after both.0 both.1 same
cut first octet more after false false here there same =
    let first_is : first ≡ octet = cc in
    let more_is : more ≡ after = cc in
    rw (sym first_is, sym more_is) (kept first more (is_feed first) refl here there)

-- what stands first after a line end that a blank follows, is the value's first octet
pub first_unfolded : (raw after : List ℕ) (octet : ℕ) → drop (fold_len raw) raw ≡ octet ∷ after → unfold_of raw ≡ octet ∷ unfold_of after
first_unfolded [] after octet same = absurd cc
first_unfolded (first ∷ more) after octet same = cut first octet more after _ _ refl refl same
