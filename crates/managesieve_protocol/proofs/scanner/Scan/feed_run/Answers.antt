use Rattle.std.proofs.Common.{take, refl, ap, ◌∙◌, arith}
use Rattle.std.proofs.lemmas.List.{length-take, length-take-le}
use Rattle.managesieve_protocol.proofs.FedRuns.{skim_takes, pass_still}
use Rattle.managesieve_protocol.proofs.Feeding.{takes, fed_known}
use Rattle.managesieve_protocol.specs.Scanning.{ScanView}
use Rattle.managesieve_protocol.proofs.scanner.Scan.feed_run.Goals as goal

pub returns-then-inside-gt0-clause-still : goal.returns-then-inside-gt0-clause-still
returns-then-inside-gt0-clause-still c =
    pass_still c.self.inside.line c.self.inside.outside c.self.inside.looked c.min-count.result c.self.inside.reach c.args.self.now.known c.skip_literal.new.self.known c.args.octets.now
    (ap (λ (v : ScanView). v.known) c.self.view_is) c.requires c.self.invariant.0 (omega (arith, c.literal_left-inside.ensures)) (omega arith)
    (λ piece len. ap (λ (v : ScanView). v.known) (c.skip_literal.ensures piece len) ∙ fed_known c.args.self.now piece)

pub returns-clause-taken : goal.returns-clause-taken
returns-clause-taken c =
    takes c.args.self.now _ _ (take c.feed_run-line.result.1 c.args.octets.now) c.feed_run-line.result.1 c.self.view_is
    (skim_takes c.self.inside.line c.feed_run-line.result.0 c.self.inside.outside c.self.inside.looked c.min-most.result c.feed_run-line.result.1 c.self.inside.reach c.args.self.now.known c.args.octets.now
    (ap (λ (v : ScanView). v.known) c.self.view_is) c.requires c.self.invariant.0 c.min-most.ensures c.feed_run-line.ensures.count c.feed_run-line.ensures.state) refl
    (length-take-le c.feed_run-line.result.1 c.args.octets.now (omega (arith, c.feed_run-line.ensures.within, length-take c.min-most.result c.args.octets.now)))
