use Rattle.std.proofs.Common.{◌∙◌}
use Rattle.smtp_dialogue.proofs.RunLemmas.{break_first, run_passes}
use Rattle.smtp_dialogue.proofs.sent.DotStuffed.go_on.Goals as goal

pub end_line-requires : goal.end_line-requires
end_line-requires c = record {
  within = c.requires;
  at = break_first c.args.self.now.left.now c.plain_length-count.result c.if-count-eq0.true c.plain_length-count.ensures.next;
}

pub returns : goal.returns
returns c =
    run_passes c.args.self.now c.put.new.self c.put.result c.plain_length-count.result c.requires c.if-count-eq0.false c.plain_length-count.ensures.within c.plain_length-count.ensures.plain
    (c.put.ensures.part ∙ c.split_at.ensures.front) (c.put.ensures.left ∙ c.split_at.ensures.back) c.put.ensures.place
