use Rattle.std.proofs.Common.{◌≡◌, take, sym, ap, ◌∙◌, subst}
use Rattle.std.specs.Prelude.{fold}
use Rattle.managesieve_protocol.specs.declared.items.ItemExtent.{ItemExtent}
use Rattle.managesieve_protocol.specs.Items.{IsFirstExtent}
use Rattle.managesieve_protocol.specs.Scanning.{extent_of, ScanView, fed}
use Rattle.managesieve_protocol.proofs.Scans.{reaches}
use Rattle.managesieve_protocol.proofs.Feeding.{whole_reach}
use Rattle.managesieve_protocol.proofs.items.extent.Goals as goal

pub returns : goal.returns
returns c =
    let value : c.state.result ≡ extent_of c.args.pending c.args.buffer.now =
    c.state.ensures.reached ∙ whole_reach c.args.pending c.feed.new.self c.args.buffer.now c.feed.result
    (c.feed.ensures.taken ∙ ap (λ (scan : ScanView). fold fed scan (take c.feed.result c.args.buffer.now)) c.new-scan.ensures) c.feed.ensures.whole in
    record { value = value; item = subst (λ (r : ItemExtent). IsFirstExtent c.args.pending r c.args.buffer.now) (sym value) (reaches c.args.pending c.args.buffer.now) }
