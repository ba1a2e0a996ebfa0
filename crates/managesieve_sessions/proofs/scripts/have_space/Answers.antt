use Rattle.std.proofs.Common.{refl, inl, inr, arith}
use Rattle.managesieve_sessions.proofs.ScriptLemmas.{decided}
use Rattle.managesieve_sessions.proofs.scripts.have_space.Goals as goal

pub returns-then-not-has_room : goal.returns-then-not-has_room
returns-then-not-has_room c =
    decided _ _ _ c.refuse-then-not-has_room.result c.refuse-then-not-has_room.ensures
    (record { replies = λ a fits. inl (c.if-not-is_script_name.ensures, inl (omega arith, inr (c.if-not-has_room.ensures a fits, refl))); changes = λ a. refl })

pub returns : goal.returns
returns c =
    decided _ _ _ c.agree.result c.agree.ensures
    (record { replies = λ a fits. inl (c.if-not-is_script_name.ensures, inl (omega arith, inl (c.if-not-has_room.ensures a fits, refl))); changes = λ a. refl })
