-- What is over is not near.
use Rattle.std.proofs.Common.{◌≡◌, ◌+◌, ◌-◌, ◌/◌, ◌%◌, ◌==◌, ◌<◌, ◌≤◌, ◌&&◌, ℕ, Bool, true, false, not, cond, nat_lt, List, [], ◌∷◌, ◌++◌, refl, arith}
use Rattle.std.proofs.lemmas.Bool.{eqb-true, ltb-true}
use Rattle.std.specs.Ordering.{nat_cmp, ordering_then, is_lt}
use Rattle.std.specs.declared.cmp.Ordering.{Ordering}
use Rattle.std.specs.declared.cmp.Ordering.TheVariants.{Less, Equal, Greater}
use Rattle.store_accounts.specs.Account.{bytes_cmp}
use Rattle.store_accounts.specs.ReplyRows.{is_key_between}
use Rattle.sieve_plan.specs.Sent.{half_day, half_handle, half_of, is_near, sent_handle}

-- octets that are no lower, and where they are the same what follows isn't lower
not_lower : (x y : ℕ) (rest : Ordering) → (x < y → ⊥) → (x ≡ y → is_lt rest ≡ false) → is_lt (ordering_then (nat_cmp x y) rest) ≡ false
not_lower x y rest above same = go (nat_lt x y) refl (x == y) refl
  where
    go : (below : Bool) → nat_lt x y ≡ below → (tied : Bool) → (x == y) ≡ tied → is_lt (ordering_then (cond below Less (cond tied Equal Greater)) rest) ≡ false
    go true is tied is_tied = absurd (above (ltb-true x y is))
    go false is true is_tied = same (eqb-true x y is_tied)
    go false is false is_tied = refl

nothing_lower : (rest : List ℕ) → is_lt (bytes_cmp rest []) ≡ false
nothing_lower [] = refl
nothing_lower (octet ∷ rest) = refl

-- the handle's key of a later half day isn't lower
not_below : (half below : ℕ) (rest : List ℕ) → below ≤ half → half < 4294967296 → is_lt (bytes_cmp (half_handle half ++ rest) (half_handle below)) ≡ false
not_below half below rest later fits =
    not_lower (half / 16777216 % 256) (below / 16777216 % 256) _ (λ less. omega arith) (λ one.
    not_lower (half / 65536 % 256) (below / 65536 % 256) _ (λ less. omega arith) (λ two.
    not_lower (half / 256 % 256) (below / 256 % 256) _ (λ less. omega arith) (λ three.
    not_lower (half % 256) (below % 256) _ (λ less. omega arith) (λ four. nothing_lower rest))))

both_true : (one two : Bool) → (one && two) ≡ true → one ≡ true
both_true true two is = refl
both_true false two is = absurd (let never : false ≡ true = is in cc)

-- a moment that is near is kept in the last half day or later
near_is_late : (moment kept : ℕ) → is_near moment kept ≡ true → half_of moment - 1 ≤ half_of kept
near_is_late moment kept near =
    let before : moment < kept + 43200 = ltb-true moment (kept + half_day) (both_true (nat_lt moment (kept + half_day)) (nat_lt kept (moment + half_day)) near) in
    omega arith

-- so what is over has no moment that is near
pub over_is_far : (moment kept : ℕ) (key target sender : List ℕ) → half_of kept < 4294967296 → is_near moment kept ≡ true → is_key_between (3 ∷ []) (half_handle (half_of moment - 1)) (sent_handle (half_of kept) key target, sender) ≡ false
over_is_far moment kept key target sender fits near =
    both_false (not (is_lt (bytes_cmp (sent_handle (half_of kept) key target) (3 ∷ [])))) (is_lt (bytes_cmp (sent_handle (half_of kept) key target) (half_handle (half_of moment - 1)))) (not_below (half_of kept) (half_of moment - 1) (key ++ 0 ∷ target) (near_is_late moment kept near) fits)
  where
    both_false : (one two : Bool) → two ≡ false → (one && two) ≡ false
    both_false true two is = is
    both_false false two is = refl
