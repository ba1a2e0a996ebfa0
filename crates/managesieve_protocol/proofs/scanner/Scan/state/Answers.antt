use Rattle.std.proofs.Common.{ap, ◌∙◌}
use Rattle.managesieve_protocol.specs.Scanning.{ScanView}
use Rattle.managesieve_protocol.proofs.Turning.{shown_reach}
use Rattle.managesieve_protocol.proofs.Feeding.{stands_reach, stands_reaches}
use Rattle.managesieve_protocol.proofs.scanner.Scan.state.Goals as goal

pub returns-clause-value : goal.returns-clause-value
returns-clause-value c = λ pending text stands.
    shown_reach c.self.inside.line c.self.inside.outside c.self.inside.looked c.self.inside.reach c.args.self.now.known (ap (λ (s : ScanView). s.known) c.self.view_is)
    ∙ stands_reach pending c.args.self.now text stands

pub returns-clause-item : goal.returns-clause-item
returns-clause-item c = λ pending text stands.
    stands_reaches pending c.args.self.now c.self.inside.reach text
    (shown_reach c.self.inside.line c.self.inside.outside c.self.inside.looked c.self.inside.reach c.args.self.now.known (ap (λ (s : ScanView). s.known) c.self.view_is)) stands
