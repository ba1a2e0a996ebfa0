use Rattle.std.proofs.Common.{ap, ◌∙◌}
use Rattle.managesieve_protocol.specs.Machine as m
use Rattle.managesieve_protocol.proofs.Verbs.{in_word_more, in_word_end, in_word_dies}
use Rattle.managesieve_protocol.proofs.state.in_word.Goals as goal

pub returns-in-Some : goal.returns-in-Some
returns-in-Some c =
    in_word_more c.args.verb c.in-Some.next c.args.count c.min.result c.word-word.result.now c.args.octet c.word-word.ensures c.min.ensures
    (rw (← c.to_ascii_uppercase.ensures.value) c.in-Some.ensures)

pub returns-then-letters-word : goal.returns-then-letters-word
returns-then-letters-word c =
    c.leave.ensures ∙ ap (λ (params : m.Params). m.leave params c.args.octet) c.params.ensures
    ∙ in_word_end c.args.verb c.args.count c.min.result c.word-word.result.now c.args.octet c.word-word.ensures c.min.ensures c.if-letters-word.true
    (rw (← c.to_ascii_uppercase.ensures.value) c.in-None.ensures)

pub returns-else-letters-word : goal.returns-else-letters-word
returns-else-letters-word c =
    in_word_dies c.args.verb c.args.count c.min.result c.word-word.result.now c.args.octet c.word-word.ensures c.min.ensures c.if-letters-word.false
    (rw (← c.to_ascii_uppercase.ensures.value) c.in-None.ensures)
