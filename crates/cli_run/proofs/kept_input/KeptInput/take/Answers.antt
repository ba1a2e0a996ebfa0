-- All is kept so far, or one piece more is counted.
use Rattle.std.proofs.Common.{◌≡◌, ◌+◌, ◌-◌, ◌++◌, take, drop, sym, ap, ◌∙◌, subst, arith}
use Rattle.std.proofs.Math.Seq.{take-add}
use Rattle.mail_head.specs.SizeCounts.{CountsSize}
use Rattle.cli_run.specs.KeptInputs.{KeepsInput}
use Rattle.cli_run.proofs.FrontLemmas.{passed_over}
use Rattle.cli_run.proofs.kept_input.KeptInput.take.Goals as goal

pub returns-in-Some-clause-keeps : goal.returns-in-Some-clause-keeps
returns-in-Some-clause-keeps c came keeps =
    let kept = c.args.self.now.kept in
    let items = c.args.self.now.octets.items in
    let size : (kept + c.args.more) - kept ≡ c.args.more = omega arith in
    passed_over came (take kept items) (take c.args.more (drop kept items)) c.in-Some.count c.with.result (subst (KeepsInput came (take kept items)) c.in-Some.is keeps)
    (λ text counts. subst (λ t. CountsSize (text ++ take c.args.more (drop kept t)) c.with.result) c.as_slice.ensures.value
    (subst (λ n. CountsSize (text ++ take n (drop kept c.as_slice.result.now)) c.with.result) size (c.with.ensures.counts text counts)))

pub returns-in-None-clause-keeps : goal.returns-in-None-clause-keeps
returns-in-None-clause-keeps c came keeps =
    let kept = c.args.self.now.kept in
    let items = c.args.self.now.octets.items in
    let more = c.args.more in
    let new = c.look.new.self in
    let all_so_far : take kept items ≡ came = subst (KeepsInput came (take kept items)) c.in-None.is keeps in
    let all : take (kept + more) items ≡ came ++ take more (drop kept items) = take-add kept more items ∙ ap (λ t. t ++ take more (drop kept items)) all_so_far in
    let looked = subst (λ n. KeepsInput (take (kept + more) items) (take n items) new.count) (sym c.look.ensures.kept) c.look.ensures.keeps in
    subst (λ t. KeepsInput t (take new.kept new.octets.items) new.count) all
    (subst (λ v. KeepsInput (take (kept + more) items) (take new.kept v.items) new.count) (sym c.look.ensures.same) looked)
