-- An address and its text.
use Rattle.std.proofs.Common.{◌≡◌, ℕ, List, ◌∷◌, length, ap, ◌∙◌}
use Rattle.std.proofs.Math.Seq.{take-append_seam, drop-append-add}
use Rattle.mail_address.specs.declared.address.Addr.{Addr}
use Rattle.mail_address.specs.Spelling.{unquoted_address}
use Rattle.sieve_exec.specs.Joined.{address_joined}

-- what shows an address is cut into that address
pub joined_back : (address : Addr) → address_joined (unquoted_address address) (length address.local) ≡ address
joined_back address = λ i. record {
  local = take-append_seam address.local (64 ∷ address.domain) i;
  domain = drop-append-add address.local (64 ∷ address.domain) 1 i;
}

pub joined_from : (address : Addr) (all : List ℕ) (at : ℕ) → all ≡ unquoted_address address → at ≡ length address.local → address_joined all at ≡ address
joined_from address all at spelled place = ap (λ t. address_joined t at) spelled ∙ ap (address_joined (unquoted_address address)) place ∙ joined_back address
