use Rattle.std.proofs.Common.{◌≡◌, ◌+◌, ◌<◌, ◌≤◌, length, get_or, sym, ap, ◌∙◌, subst, arith}
use Rattle.std.proofs.lemmas.Iterator.{YieldsList-from_chars}
use Rattle.std.proofs.lemmas.Iterator.Consumers.{YieldsList-turn, YieldsList-end}
use Rattle.std.proofs.lemmas.List.{length_push}
use Rattle.std.specs.Prelude.{string_bytes}
use Rattle.std.specs.Str.{chars}
use Rattle.sieve_vacation.proofs.SubjectLemmas.{short_at, short_more, short_cut, short_whole}
use Rattle.sieve_vacation.proofs.subject.shortened.Goals as goal

pub returns-then-count-eq-MAX_SUBJECT : goal.returns-then-count-eq-MAX_SUBJECT
returns-then-count-eq-MAX_SUBJECT c =
    let turn = YieldsList-turn (YieldsList-from_chars c.args.text.now c.utf8.text cc) c.loop-character.yielded _ c.loop-character.yielded_by _ _ c.in-Some.character c.in-Some.is c.next.ensures.steps in
    let at = short_at (chars c.args.text.now) (length c.loop-character.yielded) c.loop-character.count c.in-Some.character c.loop-character.invariant.0 turn in
    short_cut c.args.text.now c.loop-character.count (string_bytes c.loop-character.short) (string_bytes c.push_str.new.self) c.if-count-eq-MAX_SUBJECT.true at.0
    c.loop-character.invariant.2 c.in_ok-push_str.ensures.bytes

pub loop-character-preserved : goal.loop-character-preserved
loop-character-preserved c =
    let turn = YieldsList-turn (YieldsList-from_chars c.args.text.now c.utf8.text cc) c.loop-character.yielded _ c.loop-character.yielded_by _ _ c.in-Some.character c.in-Some.is c.next.ensures.steps in
    let at = short_at (chars c.args.text.now) (length c.loop-character.yielded) c.loop-character.count c.in-Some.character c.loop-character.invariant.0 turn in
    let pushed = length_push c.loop-character.yielded c.in-Some.character in
    let count = c.loop-character.invariant.0 in
    let few = c.loop-character.invariant.1 in
    let other = c.if-count-eq-MAX_SUBJECT.false in (
      omega arith,
      omega arith,
      short_more (chars c.args.text.now) c.loop-character.count c.in-Some.character (string_bytes c.loop-character.short) (string_bytes c.push.new.self) at
          c.loop-character.invariant.2 c.in_ok-push.ensures.bytes,
    )

pub returns : goal.returns
returns c =
    let end = YieldsList-end (YieldsList-from_chars c.args.text.now c.utf8.text cc) c.loop-character.yielded _ c.loop-character.yielded_by _ _ c.in-None.is c.next.ensures.steps in
    short_whole c.args.text.now c.loop-character.count (string_bytes c.loop-character.short) c.loop-character.invariant.1 (c.loop-character.invariant.0 ∙ end.1) c.loop-character.invariant.2
