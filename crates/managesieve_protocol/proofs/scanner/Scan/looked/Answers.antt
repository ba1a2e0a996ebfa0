use Rattle.std.proofs.Common.{ap, ◌∙◌}
use Rattle.managesieve_protocol.specs.Scanning.{ScanView}
use Rattle.managesieve_protocol.proofs.Feeding.{stands_count}
use Rattle.managesieve_protocol.proofs.scanner.Scan.looked.Goals as goal

pub returns-clause-count : goal.returns-clause-count
returns-clause-count c = λ pending text stands. ap (λ (s : ScanView). s.looked) c.self.view_is ∙ stands_count pending c.args.self.now text stands
