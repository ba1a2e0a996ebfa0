use Rattle.std.proofs.Common.{refl, inl, inr}
use Rattle.managesieve_sessions.proofs.ScriptLemmas.{decided}
use Rattle.managesieve_sessions.proofs.scripts.put_script.Goals as goal

pub returns-then-not-has_room : goal.returns-then-not-has_room
returns-then-not-has_room c =
    decided _ _ _ c.refuse-then-not-has_room.result c.refuse-then-not-has_room.ensures
    (record { replies = λ a fits. inl (c.if-not-is_script_name.ensures, inl (c.if-script-gt-MAX_SCRIPT.false, inr (c.if-not-has_room.ensures a fits, refl))); changes = λ a. refl })

pub returns-in-Some : goal.returns-in-Some
returns-in-Some c =
    let verdict = rw c.in-Some.is at c.in_ok-fault.ensures in
    decided _ _ _ c.tell.result c.tell.ensures
    (record {
      replies = λ a fits. inl (
        c.if-not-is_script_name.ensures,
        inl (
          c.if-script-gt-MAX_SCRIPT.false,
          inl (
            c.if-not-has_room.ensures a fits,
            inr (verdict.0, (c.in-Some.fault.line, c.in-Some.fault.kind, verdict.1, verdict.2, refl)),
          ),
        ),
      );
      changes = λ a. refl;
    })

pub returns : goal.returns
returns c =
    let verdict = rw c.in_default.is at c.in_ok-fault.ensures in
    decided _ _ _ c.agree.result c.agree.ensures
    (record {
      replies = λ a fits. inl (c.if-not-is_script_name.ensures, inl (c.if-script-gt-MAX_SCRIPT.false, inl (c.if-not-has_room.ensures a fits, inl (verdict, refl))));
      changes = λ a. refl;
    })
