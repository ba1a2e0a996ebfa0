-- The table is held against the definition at each of the 256 octets, by computing.
use Rattle.std.proofs.Common.{◌≡◌, ℕ, zero, suc, ◌<◌, Bool, true, false, ◌&&◌, not, nat_eq, get_or, List, refl, arith, inl, inr}
use Rattle.std.specs.Bool.{beq}
use Rattle.std.proofs.lemmas.Bool.{cases_eq}
use Rattle.mail_address.specs.declared.scanner.TheConstants.{ATOM_OCTETS}
use Rattle.mail_address.specs.Pieces.{is_atom_octet}
use Rattle.mail_address.proofs.scanner.is_atom.Goals as goal

-- the two tests agree below n
agree_below : (ℕ → Bool) → (ℕ → Bool) → ℕ → Bool
agree_below f g zero = true
agree_below f g (suc n) = beq (f n) (g n) && agree_below f g n

both_of : (x y rest : Bool) → (beq x y && rest) ≡ true → (x ≡ y) × (rest ≡ true)
both_of true true rest h = (refl, h)
both_of true false rest h = cc
both_of false true rest h = cc
both_of false false rest h = (refl, h)

agree_at : (f g : ℕ → Bool) (n : ℕ) → agree_below f g n ≡ true → (octet : ℕ) → octet < n → f octet ≡ g octet
unfolding agree_below
agree_at f g zero h octet lt = absurd (omega arith)
agree_at f g (suc n) h octet lt =
    let both = both_of (f n) (g n) (agree_below f g n) h in
    elim (cases_eq octet n) [ inl same ↦ rw same both.0 | inr other ↦ agree_at f g n both.1 octet (omega arith) ]

from_table : (table : List ℕ) (octet : ℕ) → octet < 256
    → agree_below (λ k. not (nat_eq (get_or table k 0) 44)) is_atom_octet 256 ≡ true
    → not (nat_eq (get_or table octet 0) 44) ≡ is_atom_octet octet
from_table table octet lt h = agree_at _ _ 256 h octet lt

pub returns : goal.returns
unfolding agree_below
returns c = from_table ATOM_OCTETS c.args.octet (omega arith) refl
