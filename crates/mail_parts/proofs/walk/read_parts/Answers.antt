use Rattle.std.proofs.Common.{◌≡◌, ◌≤◌, false, not, length, [], ◌∷◌, ◌++◌, sym, ap, ◌∙◌, arith}
use Rattle.std.specs.List.{list_any}
use Rattle.std.proofs.lemmas.List.{nil_from_length}
use Rattle.mail_parts.specs.Parts.{parts_of, is_cut}
use Rattle.mail_parts.specs.PartReading.{maybe_texts}
use Rattle.mail_parts.specs.Walks.{parts_in, parts_pending}
use Rattle.mail_parts.specs.declared.limits.TheConstants.{MAX_NESTING, MAX_PARTS}
use Rattle.mail_parts.proofs.WalkLemmas.{part_read, inner_from, pending_some, pending_first, flag_more, read_all, read_first}
use Rattle.mail_parts.proofs.walk.read_parts.Goals as goal

pub loop-next-init : goal.loop-next-init
loop-next-init c =
    let message = c.args.message.now in
    let pending = c.push_sections.new.pending.items in
    let own : parts_pending pending ≡ parts_in MAX_NESTING false (message ∷ []) ++ [] =
    c.in_ok-push_sections.ensures ∙ ap (λ entries. parts_in MAX_NESTING false (message ∷ []) ++ parts_pending entries) c.new-pending.ensures.items in
    record {
      within = omega (arith, c.new-parts.ensures.len);
      flag = ap (λ parts. not (list_any is_cut parts)) (sym c.new-parts.ensures.items);
      all = ap (λ parts. parts ++ parts_pending pending) c.new-parts.ensures.items ∙ pending_first MAX_NESTING false message (parts_pending pending) own;
    }

pub loop-next-preserved : goal.loop-next-preserved
loop-next-preserved c =
    let entry = c.in-Some.next in
    let text = c.in_ok-cut.cut.0.now in
    let before = ap (λ entries. c.loop-next.parts.items ++ parts_pending entries) (sym c.in-Some.ensures.items) ∙ c.loop-next.invariant.all in
    let others = parts_pending c.push_sections-in-Some.new.pending.items in
    let inner = parts_pending c.push_sections-in-Some-2.new.pending.items in
    let next =
    inner_from entry.left c.saturating_sub.result c.is_multipart_digest.result entry.digest c.in_ok-part.part text c.media_type.result.now
    (maybe_texts c.in_ok-inner.inner) inner others c.in_ok-push_sections-3.ensures c.saturating_sub.ensures c.is_multipart_digest.ensures
    c.media_type.ensures c.in_ok-inner.ensures c.in_ok-part.ensures in
    let pushed = c.in_ok-push.ensures.items ∙ ap (λ part. c.loop-next.parts.items ++ part ∷ []) c.in_ok-part.ensures in
    record {
      within = omega (arith, c.in_ok-push.ensures.len, c.len.ensures, c.if-len-eq-MAX_PARTS.false, c.loop-next.invariant.within);
      flag =
          flag_more c.loop-next.parts.items c.push.new.self.items c.in_ok-part.part c.loop-next.complete c.stays_complete-complete.result c.in_ok-cut_off.cut_off
          c.in_ok-push.ensures.items c.loop-next.invariant.flag c.in_ok-cut_off.ensures c.stays_complete-complete.ensures;
      all =
          part_read c.loop-next.parts.items c.push.new.self.items (parts_of c.args.message.now) c.pop.new.self.items entry text
          (maybe_texts c.in_ok-cut.cut.1) others inner before c.in_ok-cut.ensures c.in_ok-push_sections-2.ensures next pushed;
    }

pub returns-then-len-eq-MAX_PARTS : goal.returns-then-len-eq-MAX_PARTS
returns-then-len-eq-MAX_PARTS c =
    let parts = c.loop-next.parts in
    let entries = c.pop.new.self.items in
    let before = ap (λ all. parts.items ++ parts_pending all) (sym c.in-Some.ensures.items) ∙ c.loop-next.invariant.all in
    let full : length parts.items ≡ MAX_PARTS = omega (arith, parts.ok.0, c.len.ensures, c.if-len-eq-MAX_PARTS.true) in
    let read =
    read_first MAX_PARTS parts.items (parts_pending (entries ++ c.in-Some.next ∷ [])) (parts_of c.args.message.now) before
    (pending_some entries c.in-Some.next) full in
    record { parts = read.0; complete = read.1 }

pub returns : goal.returns
returns c =
    let parts = c.loop-next.parts in
    let pending = c.loop-next.pending in
    let size : length pending.items ≡ 0 = omega (arith, pending.ok.0, c.in_default.ensures.cases.0) in
    let none = ap parts_pending (nil_from_length pending.items size) in
    let small : length parts.items ≤ MAX_PARTS = omega (arith, parts.ok.0, c.loop-next.invariant.within) in
    let read = read_all MAX_PARTS c.loop-next.complete parts.items (parts_pending pending.items) (parts_of c.args.message.now) c.loop-next.invariant.all none small c.loop-next.invariant.flag in
    record { parts = read.0; complete = read.1 }
