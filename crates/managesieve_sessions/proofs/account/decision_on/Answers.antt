use Rattle.std.proofs.Common.{◌≡◌, ℕ, List, Option, Ok, sym, ap, ◌∙◌}
use Rattle.std.specs.FinMap.{get}
use Rattle.sqlite.specs.Held.{state}
use Rattle.store_accounts.specs.Account.{Account}
use Rattle.store_accounts.proofs.KeepLemmas.{reads_answer}
use Rattle.managesieve_sessions.specs.declared.account.KeptScripts.{KeptScripts}
use Rattle.managesieve_sessions.specs.Decisions.{AreScripts, Decides}
use Rattle.managesieve_sessions.specs.CommandClasses.{of_script}
use Rattle.managesieve_sessions.proofs.OrderLemmas.{got, decides_named, copied_is}
use Rattle.managesieve_sessions.proofs.account.decision_on.Goals as goal

pub returns-in-Get : goal.returns-in-Get
returns-in-Get g c =
    reads_answer c.args.user.now (λ (text : Option (List ℕ)) (a : Account). text ≡ get a.scripts c.as_slice.result.now) (Decides (of_script c.args.command.now)) (state g.S.Store c.args.store.now) (state g.S.Store c.script.new.self) c.script.result c.in_ok-text-in-Get.text c.in_ok-text-in-Get.was
    (Ok _) tt (λ a is. got (of_script c.args.command.now) c.in-Get.name c.as_slice.result.now c.in_ok-text-in-Get.text c.in_ok-reply-in-Get.reply a (ap of_script c.in-Get.is) c.as_slice.ensures c.in_ok-reply-in-Get.ensures is) c.script.ensures

pub returns : goal.returns
returns g c =
    let decides = c.in_ok-decision.ensures in
    reads_answer c.args.user.now (λ (kept : KeptScripts) (a : Account). AreScripts kept.names kept.active a) (Decides (of_script c.args.command.now)) (state g.S.Store c.args.store.now) (state g.S.Store c.kept_scripts.new.store) c.kept_scripts.result c.in_ok-names.field-0 c.in_ok-names.was
    (Ok _) tt (λ a fits. decides_named c.args.command.now c.in-Named.command _ _ a c.in-Named.is decides (fits.0, fits.1 ∙ sym (copied_is c.as_deref.result ∙ c.as_deref.ensures))) c.kept_scripts.ensures
