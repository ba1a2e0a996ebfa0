use Rattle.std.proofs.Common.{IfSome, ap, ◌∙◌, subst}
use Rattle.sqlite.specs.Held.{state}
use Rattle.mail_address.specs.declared.address.Addr.{Addr}
use Rattle.mail_address.specs.Outbound.{IsBareAddress}
use Rattle.store_accounts.specs.declared.profile.Profile.{Profile}
use Rattle.store_engine.specs.Lookups.{IsActiveScript, IsLookup}
use Rattle.store_engine.proofs.LookupLemmas.{looks_answer}
use Rattle.store_engine.proofs.delivery.look_up.Goals as goal

pub returns : goal.returns
returns g c =
    let bare : IsBareAddress c.as_slice.result.now c.in-Some.address = subst (λ o. IfSome o (λ (address : Addr). IsBareAddress c.as_slice.result.now address)) c.in-Some.is c.in_ok-address.ensures.found in
    looks_answer c.args.user.now IsActiveScript IsLookup (state g.S.Store c.args.store.now) (state g.S.Store c.active_script.new.store) c.active_script.result c.in_ok-profile.field-0 c.in_ok-profile.was _ tt
    (λ account found. record {
      address = subst (λ text. IsBareAddress text c.in-Some.address) (c.as_slice.ensures ∙ ap (λ (p : Profile). p.address) found.profile) bare;
      text = found.text;
    }) c.active_script.ensures
