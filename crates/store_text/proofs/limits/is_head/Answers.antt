use Rattle.store_text.proofs.limits.is_head.Goals as goal

pub returns-then-has_counters : goal.returns-then-has_counters
returns-then-has_counters c =
    let once = c.has_counters.ensures.0 c.if-has_counters.true in
    (λ is. record { rounds = once.0; counters = once.1; small = c.has_owner_fields.ensures.0 is }, λ head. c.has_owner_fields.ensures.1 head.small)
