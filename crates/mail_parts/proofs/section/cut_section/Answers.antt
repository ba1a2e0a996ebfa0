use Rattle.std.proofs.Common.{length, sym, ◌∙◌}
use Rattle.std.proofs.lemmas.List.{nil_from_length}
use Rattle.std.proofs.lemmas.Bool.{eqb-true}
use Rattle.mail_parts.proofs.SectionLemmas.{passed_none, cut_there, cut_nowhere, epilogue_there, epilogue_nowhere}
use Rattle.mail_parts.proofs.SkipLemmas.{passed_found, passed_all}
use Rattle.mail_parts.proofs.section.cut_section.Goals as goal

pub lines-init : goal.lines-init
lines-init c = passed_none c.args.boundary.now c.args.text.now

pub returns-then-not-is_section_mark : goal.returns-then-not-is_section_mark
returns-then-not-is_section_mark c =
    let other = sym c.is_section_mark.ensures ∙ c.if-not-is_section_mark.true in
    let rest = c.lines.rest.now in
    let mark = c.first_mark-mark.result.0 in
    let after = c.first_mark-mark.result.1.now in
    let first = c.first_mark-mark.ensures.other other in
    let cut =
    cut_there c.args.boundary.now c.args.text.now rest first.0 after c.split_at.result.0.now c.without_end.result.now mark c.lines.invariant first.1 first.2 other
    c.split_at.ensures.front c.without_end.ensures in
    let end = epilogue_there c.args.boundary.now c.args.text.now rest first.0 after mark c.lines.invariant first.1 first.2 other in
    record { section = cut.0; later = cut.1; epilogue = end.0; shorter = λ _. end.1 }

pub lines-preserved-in-Some : goal.lines-preserved-in-Some
lines-preserved-in-Some c =
    let first = c.first_mark-mark.ensures.inside (sym c.is_section_mark.ensures ∙ c.if-not-is_section_mark.false) in
    passed_found c.args.boundary.now c.args.finder.now c.args.text.now c.lines.rest.now c.split_at-in-Some.result.1.now c.in-Some.at c.lines.invariant first
    c.requires c.in-Some.ensures c.split_at-in-Some.ensures.back

pub lines-preserved : goal.lines-preserved
lines-preserved c =
    let first = c.first_mark-mark.ensures.inside (sym c.is_section_mark.ensures ∙ c.if-not-is_section_mark.false) in
    passed_all c.args.boundary.now c.args.finder.now c.args.text.now c.lines.rest.now c.split_at-in-None.result.1.now c.lines.invariant first c.requires
    (sym c.is_empty.ensures ∙ c.lines-test.true) c.in-None.ensures c.split_at-in-None.ensures.back

pub returns : goal.returns
returns c =
    let rest = c.lines.rest.now in
    let none = nil_from_length rest (eqb-true (length rest) 0 (sym c.is_empty.ensures ∙ c.lines-test.false)) in
    let cut = cut_nowhere c.args.boundary.now c.args.text.now rest c.lines.invariant none in
    record {
      section = cut.0;
      later = cut.1;
      epilogue = epilogue_nowhere c.args.boundary.now c.args.text.now rest c.lines.invariant none;
      shorter = λ no. cc no;
    }
