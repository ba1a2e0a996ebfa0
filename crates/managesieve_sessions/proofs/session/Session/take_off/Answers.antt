use Rattle.std.proofs.Common.{ℕ, ◌+◌, ◌≤◌, min, List, length, take, ap, ◌∙◌, subst}
use Rattle.std.specs.Prelude.{fold}
use Rattle.managesieve_protocol.specs.Scanning.{ScanView, new_scan, fed, fed_until}
use Rattle.managesieve_sessions.specs.Clients.{reach_in}
use Rattle.managesieve_sessions.specs.Counts.{SessionView, greatest, looked_in}
use Rattle.managesieve_sessions.proofs.ScanLemmas.{scan_reach, rest_scanned}
use Rattle.managesieve_sessions.proofs.ReachLemmas.{item_either, item_ends, no_item, some_item, scanned_same, scanned_more, taken_off, none_off}
use Rattle.managesieve_sessions.proofs.session.Session.take_off.Goals as goal
use Rattle.managesieve_sessions.proofs.session.Session.take_off.Goals.{in-Command, in-Command-2}

pub returns-in_default-clause-client : goal.returns-in_default-clause-client
returns-in_default-clause-client c =
    let s = c.self.inside in
    none_off c.args.pending c.state.result c.args.self.now.client
    (c.state.ensures.reached ∙ scan_reach s.pending s.scan s.unread s.scanned s.given c.self.invariant ∙ ap (λ (v : SessionView). reach_in v.client) c.self.view_is)
    c.in_default.not-Command c.in_default.not-Bad

pub invariant_of-self : goal.invariant_of-self
invariant_of-self c =
    let s = c.self.inside in
    let rest = c.as_slice.ensures in
    rest_scanned c.args.pending s.pending s.scan c.feed.new.self s.unread c.drop_front.new.self s.scanned s.given c.saturating_add-self-inside.result c.match-state.used c.feed.result c.self.invariant
    (item_ends c.state.result c.match-state.used s.scan.looked
    (elim c.match-state.branch [
      | in-Command w ↦ item_either c.state.result c.match-state.used w.in-Command.used w.in-Command.is w.used-is
      | in-Command-2 w ↦ item_either c.state.result c.match-state.used w.in-Command.used w.in-Command.is w.used-is
    ]) c.state.ensures.ends)
    c.drop_front.ensures
    (c.saturating_add-self-inside.ensures ∙ ap (λ (m : ℕ). min (s.scanned + m) greatest) c.looked.ensures.value)
    (c.feed.ensures.until ∙ ap (λ (v : ScanView). fed_until v c.as_slice.result.now) c.new-scan.ensures ∙ ap (fed_until (new_scan c.args.pending)) rest)
    (subst (λ (t : List ℕ). c.feed.result ≤ length t) rest c.feed.ensures.within)
    (c.feed.ensures.taken ∙ ap (λ (v : ScanView). fold fed v (take c.feed.result c.as_slice.result.now)) c.new-scan.ensures ∙ ap (λ (t : List ℕ). fold fed (new_scan c.args.pending) (take c.feed.result t)) rest)
    (λ need. c.feed.ensures.whole need ∙ ap length rest)

pub returns-clause-client : goal.returns-clause-client
returns-clause-client c =
    let s = c.self.inside in
    taken_off c.args.pending c.state.result c.match-state.used (record { user = s.user; failures = s.failures; unread = s.unread; pending = s.pending; closed = s.closed }) c.args.self.now.client c.drop_front.new.self
    (ap (λ (v : SessionView). v.client) c.self.view_is)
    (c.state.ensures.reached ∙ scan_reach s.pending s.scan s.unread s.scanned s.given c.self.invariant)
    (elim c.match-state.branch [
      | in-Command w ↦ item_either c.state.result c.match-state.used w.in-Command.used w.in-Command.is w.used-is
      | in-Command-2 w ↦ item_either c.state.result c.match-state.used w.in-Command.used w.in-Command.is w.used-is
    ])
    c.drop_front.ensures

pub returns-in_default-clause-scans : goal.returns-in_default-clause-scans
returns-in_default-clause-scans c =
    let s = c.self.inside in
    scanned_same c.args.self.now c.state.result
    (c.state.ensures.reached ∙ scan_reach s.pending s.scan s.unread s.scanned s.given c.self.invariant ∙ ap (λ (v : SessionView). reach_in v.client) c.self.view_is)
    (no_item c.state.result c.in_default.not-Command c.in_default.not-Bad)

pub returns-clause-scans : goal.returns-clause-scans
returns-clause-scans c =
    let s = c.self.inside in
    c.saturating_add-self-inside.ensures
    ∙ ap (λ (m : ℕ). min (s.scanned + m) greatest) (c.looked.ensures.value ∙ ap (λ (v : ScanView). v.looked) c.self.invariant.until)
    ∙ ap looked_in c.self.view_is
    ∙ scanned_more c.args.self.now c.state.result
    (c.state.ensures.reached ∙ scan_reach s.pending s.scan s.unread s.scanned s.given c.self.invariant ∙ ap (λ (v : SessionView). reach_in v.client) c.self.view_is)
    (some_item c.state.result c.match-state.used
    (elim c.match-state.branch [
      | in-Command w ↦ item_either c.state.result c.match-state.used w.in-Command.used w.in-Command.is w.used-is
      | in-Command-2 w ↦ item_either c.state.result c.match-state.used w.in-Command.used w.in-Command.is w.used-is
    ]))
