use Rattle.std.proofs.Common.{◌≡◌, ◌+◌, ◌<◌, ◌∷◌, ◌++◌, [], ◌∙◌, Ok, ap, subst, sym, w64, arith}
use Rattle.std.proofs.lemmas.Int.{to_z_pos}
use Rattle.sqlite.specs.Held.{state}
use Rattle.maildir_moves.specs.Steps.{WereFolderFront, octets_of}
use Rattle.maildir_moves.proofs.EnduringLemmas.{read_only}
use Rattle.maildir_moves.proofs.FrontLemmas.{HasRead, more_octets, read_front, read_more, read_none, read_then}
use Rattle.maildir_moves.proofs.first_mails.first_mails.Goals as goal

pub returns-in_err-enter-clause-reads : goal.returns-in_err-enter-clause-reads
returns-in_err-enter-clause-reads g c = read_only (state g.S.Store c.args.store.now) (state g.S.Store c.enter.new.self) c.enter.result c.enter.ensures.keeps

pub loop-count-init : goal.loop-count-init
loop-count-init g c =
    let old = state g.S.Store c.args.store.now in
    let new = state g.S.Store c.enter.new.self in
    record {
      read = subst (λ l. HasRead c.args.user.now c.args.folder.now 0 l old new) (sym c.new-mails.ensures) (read_none c.args.user.now c.args.folder.now old new c.enter.result c.in_ok-enter.field-0 c.in_ok-enter.was c.enter.ensures.keeps);
      octets_is = sym (ap octets_of c.new-mails.ensures);
      low = omega arith;
    }

pub returns-in_err-mail-clause-reads : goal.returns-in_err-mail-clause-reads
returns-in_err-mail-clause-reads g c =
    let small : c.loop-count.count < 9223372036854775808 = omega arith in
    let mid = state g.S.Store c.loop-count.store in
    let new = state g.S.Store c.nth_numbered_of.new.self in
    read_then c.args.user.now c.args.folder.now c.loop-count.count c.loop-count.mails (state g.S.Store c.args.store.now) mid new c.loop-count.invariant.read c.nth_numbered_of.result
    (rw (to_z_pos w64 c.loop-count.count small) at c.nth_numbered_of.ensures.finds)

pub returns-in_default-clause-reads : goal.returns-in_default-clause-reads
returns-in_default-clause-reads g c =
    let small : c.loop-count.count < 9223372036854775808 = omega arith in
    let mid = state g.S.Store c.loop-count.store in
    let new = state g.S.Store c.nth_numbered_of.new.self in
    read_then c.args.user.now c.args.folder.now c.loop-count.count c.loop-count.mails (state g.S.Store c.args.store.now) mid new c.loop-count.invariant.read c.nth_numbered_of.result
    (rw (to_z_pos w64 c.loop-count.count small) at c.nth_numbered_of.ensures.finds)

pub returns-in_default-clause-front : goal.returns-in_default-clause-front
returns-in_default-clause-front g c =
    let mid = state g.S.Store c.loop-count.store in
    let new = state g.S.Store c.nth_numbered_of.new.self in
    read_front c.args.user.now c.args.folder.now c.loop-count.count c.loop-count.mails (state g.S.Store c.args.store.now) mid new c.loop-count.invariant.read
    (λ clean. (read_only mid new c.nth_numbered_of.result c.nth_numbered_of.ensures.finds.keeps clean).0)

pub returns-in_err-push-clause-reads : goal.returns-in_err-push-clause-reads
returns-in_err-push-clause-reads g c =
    let small : c.loop-count.count < 9223372036854775808 = omega arith in
    let mid = state g.S.Store c.loop-count.store in
    let new = state g.S.Store c.nth_numbered_of.new.self in
    read_then c.args.user.now c.args.folder.now c.loop-count.count c.loop-count.mails (state g.S.Store c.args.store.now) mid new c.loop-count.invariant.read c.nth_numbered_of.result
    (rw (to_z_pos w64 c.loop-count.count small) at c.nth_numbered_of.ensures.finds)

pub returns-then-octets-ge-FULL-clause-reads : goal.returns-then-octets-ge-FULL-clause-reads
returns-then-octets-ge-FULL-clause-reads g c =
    let small : c.loop-count.count < 9223372036854775808 = omega arith in
    let mid = state g.S.Store c.loop-count.store in
    let new = state g.S.Store c.nth_numbered_of.new.self in
    read_then c.args.user.now c.args.folder.now c.loop-count.count c.loop-count.mails (state g.S.Store c.args.store.now) mid new c.loop-count.invariant.read c.nth_numbered_of.result
    (rw (to_z_pos w64 c.loop-count.count small) at c.nth_numbered_of.ensures.finds)

pub returns-then-octets-ge-FULL-clause-front : goal.returns-then-octets-ge-FULL-clause-front
returns-then-octets-ge-FULL-clause-front g c =
    let small : c.loop-count.count < 9223372036854775808 = omega arith in
    let old = state g.S.Store c.args.store.now in
    let mid = state g.S.Store c.loop-count.store in
    let new = state g.S.Store c.nth_numbered_of.new.self in
    let late = rw (to_z_pos w64 c.loop-count.count small) at c.nth_numbered_of.ensures.finds in
    let more = read_more c.args.user.now c.args.folder.now c.loop-count.count c.loop-count.mails old mid new c.loop-count.invariant.read c.nth_numbered_of.result late c.in-Some.mail (c.in_ok-mail.was ∙ ap Ok c.in-Some.is) in
    subst (λ l. WereFolderFront c.args.user.now c.args.folder.now l old new) {y = c.push.new.self} (sym c.in_ok-push.ensures.ok)
    (read_front c.args.user.now c.args.folder.now (c.loop-count.count + 1) (c.loop-count.mails ++ c.in-Some.mail ∷ []) old new new more (λ clean. clean))

pub loop-count-preserved : goal.loop-count-preserved
loop-count-preserved g c =
    let small : c.loop-count.count < 9223372036854775808 = omega arith in
    let old = state g.S.Store c.args.store.now in
    let mid = state g.S.Store c.loop-count.store in
    let new = state g.S.Store c.nth_numbered_of.new.self in
    let late = rw (to_z_pos w64 c.loop-count.count small) at c.nth_numbered_of.ensures.finds in
    let octets = more_octets c.loop-count.mails c.in-Some.mail in
    let sum : c.saturating_add-octets.result ≡ octets_of (c.loop-count.mails ++ c.in-Some.mail ∷ []) = omega (arith, octets) in
    record {
      read = subst (λ l. HasRead c.args.user.now c.args.folder.now (c.loop-count.count + 1) l old new) {y = c.push.new.self} (sym c.in_ok-push.ensures.ok)
          (read_more c.args.user.now c.args.folder.now c.loop-count.count c.loop-count.mails old mid new c.loop-count.invariant.read c.nth_numbered_of.result late c.in-Some.mail (c.in_ok-mail.was ∙ ap Ok c.in-Some.is));
      octets_is = sum ∙ sym (ap octets_of c.in_ok-push.ensures.ok);
      low = omega arith;
    }

pub returns-clause-front : goal.returns-clause-front
returns-clause-front g c =
    let mid = state g.S.Store c.loop-count.store in
    read_front c.args.user.now c.args.folder.now c.loop-count.count c.loop-count.mails (state g.S.Store c.args.store.now) mid mid c.loop-count.invariant.read (λ clean. clean)
