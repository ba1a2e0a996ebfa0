use Rattle.std.proofs.Common.{◌*◌, ◌-◌, ◌%◌, ◌^◌, w64, bit_and, slice_index, get_or-set_same, ap, ◌∙◌, arith}
use Rattle.std.specs.Int.{bit_at}
use Rattle.std.proofs.lemmas.Nat.Bits.{bit_at_clear_same, bit_at_clear_other}
use Rattle.sieve_match.proofs.masks.clear.Goals as goal

pub returns-clause-cleared : goal.returns-clause-cleared
returns-clause-cleared c =
    let octets = c.args.octets.now in
    let octet = c.args.octet in
    let bit = c.args.bit in
    let size = c.told-octets in
    let table = c.ranges.octet.fits in
    ap (λ m. bit_at m bit) (get_or-set_same octets octet (bit_and (slice_index octets octet) (18446744073709551615 - 1 * 2 ^ bit % 18446744073709551616)) 0 (omega arith))
    ∙ bit_at_clear_same w64 (slice_index octets octet) bit c.requires

pub returns-clause-kept : goal.returns-clause-kept
returns-clause-kept c j l apart =
    let octets = c.args.octets.now in
    let octet = c.args.octet in
    let bit = c.args.bit in
    let size = c.told-octets in
    let table = c.ranges.octet.fits in
    ap (λ m. bit_at m j) (get_or-set_same octets octet (bit_and (slice_index octets octet) (18446744073709551615 - 1 * 2 ^ bit % 18446744073709551616)) 0 (omega arith))
    ∙ bit_at_clear_other w64 (slice_index octets octet) bit c.requires j l apart
