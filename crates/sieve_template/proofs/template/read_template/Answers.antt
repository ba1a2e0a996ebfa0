use Rattle.std.proofs.Common.{◌-◌, length, take, drop}
use Rattle.std.proofs.lemmas.List.{take_rest}
use Rattle.sieve_template.proofs.TemplateLemmas.{read_more, read_last, plain_between}
use Rattle.sieve_template.proofs.template.read_template.Goals as goal

pub loop-place-preserved : goal.loop-place-preserved
loop-place-preserved c =
    let text = c.args.text.now in
    let found = c.in-Some.ensures in
    record {
      within = found.2.within;
      read = read_more text c.loop-place.from c.in-Some.place c.in-Some.reference c.loop-place.pieces c.push_text.new.pieces c.push.new.self c.in_ok-piece_of.field-0
          c.loop-place.invariant.read found.0 found.1 found.2 c.in_ok-piece_of.ensures c.in_ok-push_text.ensures c.in_ok-push.ensures.ok;
    }

pub returns : goal.returns
returns c =
    let text = c.args.text.now in
    let from = c.loop-place.from in
    read_last text (take (length text - from) (drop from text)) from c.loop-place.pieces c.push_text-2.new.pieces c.loop-place.invariant.read (take_rest text from)
    (plain_between text from (length text) c.in_default.ensures c.loop-place.invariant.within) c.in_ok-push_text-2.ensures
