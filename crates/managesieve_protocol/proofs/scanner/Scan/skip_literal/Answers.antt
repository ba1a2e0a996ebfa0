use Rattle.std.proofs.Common.{refl, ap, ◌∙◌}
use Rattle.managesieve_protocol.proofs.Turning.{pass_takes, pass_end, pass_within}
use Rattle.managesieve_protocol.proofs.Feeding.{takes}
use Rattle.managesieve_protocol.specs.Scanning.{ScanView}
use Rattle.managesieve_protocol.specs.Shown as s
use Rattle.managesieve_protocol.proofs.scanner.Scan.skip_literal.Goals as goal
use Rattle.managesieve_protocol.proofs.scanner.Scan.skip_literal.Goals.{then-count-left, else-count-left}

pub returns-after-count-left : goal.returns-after-count-left
returns-after-count-left c = λ piece len.
    takes c.args.self.now _ _ piece c.args.count c.self.view_is
    (pass_takes c.self.inside.line c.if-count-left.self c.in-Body.left c.self.inside.outside c.self.inside.looked c.args.count c.in-Body.params c.self.inside.reach c.args.self.now.known piece
    c.in-Body.is (ap (λ (v : ScanView). v.known) c.self.view_is) c.requires c.self.invariant.0 len
    (elim c.if-count-left.branch [
      | then-count-left w ↦ ap s.shown_state w.self-is ∙ pass_end c.in-Body.left c.args.count (s.params_shown c.in-Body.params) w.if-count-left.true
      | else-count-left w ↦ ap s.shown_state w.self-is ∙ pass_within c.in-Body.left c.args.count (s.params_shown c.in-Body.params) w.if-count-left.false
    ])) refl len
