use Rattle.std.proofs.Common.{◌+◌, [], ◌∷◌, refl, ap, arith}
use Rattle.managesieve_protocol.proofs.Turning.{is_open, bounds_stay, ends_here, nothing_ends, turn_needs, turn_finds}
use Rattle.managesieve_protocol.proofs.Feeding.{takes, stands_more}
use Rattle.managesieve_protocol.specs.Scanning.{ScanView}
use Rattle.managesieve_protocol.specs.Shown as s
use Rattle.managesieve_protocol.proofs.scanner.Scan.turn.Goals as goal

pub invariant_of-self : goal.invariant_of-self
invariant_of-self c =
    let at = is_open c.self.inside.line c.self.inside.outside c.self.inside.looked c.self.inside.reach c.args.self.now.known (ap (λ (v : ScanView). v.known) c.self.view_is) c.requires in
    let bound = c.self.invariant.2 at.0 in
    let kept = bounds_stay (s.shown_state c.self.inside.line) (s.shown_state c.step-next.result) c.self.inside.outside c.weight.result (c.self.inside.looked + 1) c.self.inside.looked c.args.octet c.ending.result
    c.weight.ensures c.step-next.ensures c.ending.ensures c.in-Need.is bound in
    (kept.0, omega arith, (λ e. kept.1), nothing_ends c.self.inside.reach (c.self.inside.looked + 1) at.0)

pub invariant_of-self-in_default : goal.invariant_of-self-in_default
invariant_of-self-in_default c =
    let at = is_open c.self.inside.line c.self.inside.outside c.self.inside.looked c.self.inside.reach c.args.self.now.known (ap (λ (v : ScanView). v.known) c.self.view_is) c.requires in
    let bound = c.self.invariant.2 at.0 in (
      c.self.invariant.0,
      omega arith,
      (λ e. absurd (c.in_default.not-Need e)),
      ends_here (s.shown_state c.self.inside.line) (c.self.inside.outside + c.weight.result) (c.self.inside.looked + 1) c.args.octet c.ending.result c.ending.ensures,
    )

pub returns-in-Need-clause-taken : goal.returns-in-Need-clause-taken
returns-in-Need-clause-taken c =
    takes c.args.self.now _ _ (c.args.octet ∷ []) 1 c.self.view_is
    (turn_needs c.self.inside.line c.step-next.result c.self.inside.outside c.weight.result c.self.inside.looked c.args.octet c.self.inside.reach c.ending.result c.args.self.now.known
    (ap (λ (v : ScanView). v.known) c.self.view_is) c.requires c.weight.ensures c.step-next.ensures c.ending.ensures c.in-Need.is) refl refl

pub returns-in-Need-clause-stands : goal.returns-in-Need-clause-stands
returns-in-Need-clause-stands c = λ pending text stands. stands_more pending c.args.self.now _ text (c.args.octet ∷ []) (returns-in-Need-clause-taken c) stands

pub returns-in_default-clause-taken : goal.returns-in_default-clause-taken
returns-in_default-clause-taken c =
    takes c.args.self.now _ _ (c.args.octet ∷ []) 1 c.self.view_is
    (turn_finds c.self.inside.line c.self.inside.outside c.weight.result c.self.inside.looked (c.self.inside.looked + 1) c.args.octet c.self.inside.reach c.ending.result c.args.self.now.known
    (ap (λ (v : ScanView). v.known) c.self.view_is) c.requires c.weight.ensures c.ending.ensures c.in_default.not-Need) refl refl

pub returns-in_default-clause-stands : goal.returns-in_default-clause-stands
returns-in_default-clause-stands c = λ pending text stands. stands_more pending c.args.self.now _ text (c.args.octet ∷ []) (returns-in_default-clause-taken c) stands
