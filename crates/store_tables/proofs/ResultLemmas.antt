-- What a clause on Ok or on a refusal says.
use Rattle.std.proofs.Common.{◌≡◌, Ok, Err, Result, OnOk, OnErr}

-- what holds on Ok holds where Ok was answered
pub on_ok : {X E : Type 0} (r : Result X E) (x : X) → r ≡ Ok x → (P : Type 0) → OnOk r P → P
on_ok (Err e) x is P h = absurd (let same = is in cc)
on_ok (Ok y) x is P h = h

pub on_any : {X E : Type 0} (r : Result X E) (P : Type 0) → P → OnOk r P
on_any (Err e) P h = tt
on_any (Ok x) P h = h

pub on_err_any : {X E : Type 0} (r : Result X E) (P : Type 0) → P → OnErr r P
on_err_any (Err e) P h = h
on_err_any (Ok x) P h = tt

-- a fact, and one more where Ok was answered: with a refusal, and once the answer was Ok
pub beside_none : {X E K : Type 0} (P : Type 0) (q : Result X E) → OnOk q ⊥ → K → K × OnOk q P
beside_none P (Ok x) none k = absurd none
beside_none P (Err e) none k = (k, tt)

pub beside_ok : {X E K P : Type 0} (r : Result X E) (x : X) → r ≡ Ok x → K × OnOk r P → K × P
beside_ok r x was h = (h.0, on_ok r x was _ h.1)
