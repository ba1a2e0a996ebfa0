use Rattle.std.proofs.Common.{◌≡◌, Some}
use Rattle.store_engine.proofs.user.is_own_address.Goals as goal

pub returns : goal.returns
returns c own =
    let some : c.in_ok-bare_address.field-0 ≡ Some own.0 = c.in_ok-bare_address.ensures.only own.0 own.1 in
    c.in_default.not-Some own.0 some
