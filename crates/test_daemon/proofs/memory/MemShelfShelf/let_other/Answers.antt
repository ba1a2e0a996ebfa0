-- An event of others, by the call of store_engine for it.
use Rattle.std.proofs.Common.{◌≡◌, is_ok, refl, rules, sym, subst}
use Rattle.sqlite.specs.Held.{state}
use Rattle.sqlite.specs.Steps.{over_memory}
use Rattle.store_accounts.specs.Refusals.{IsTransient}
use Rattle.store_engine.specs.AccountEvents.{Addition, Importing, Taking, MailTaking}
use Rattle.store_engine.specs.Hosts.{ActsAddition, ActsTaking, ActsMailTaking, ActsKeeping, MayRefuseAddition, MayRefuseImport, MayRefuseKeeping}
use Rattle.store_engine.specs.Upkeep.{Keeping}
use Rattle.store_engine.specs.declared.answer.Answer.TheVariants.{Added, Imported, Taken, MailTaken}
use Rattle.store_engine.specs.declared.event.Event.TheVariants.{Deliver, AddUser, Import, TakeOut, TakeMail, DoUpkeep}
use Rattle.store_engine.proofs.HostLemmas.{addition_may, importing_may, taking_may, mail_taking_may, keeping_may}
use Rattle.test_daemon.specs.Memory.{memory_view_of}
use Rattle.test_daemon.specs.Shelves.{IsLet}
use Rattle.test_daemon.proofs.MemoryLemmas.{lets_by, on_shelf}
use Rattle.test_daemon.proofs.memory.MemShelfShelf.let_other.Goals as goal

pub returns-in-Deliver-clause-lets : goal.returns-in-Deliver-clause-lets
returns-in-Deliver-clause-lets c =
    let it = c.in-Deliver in
    let let_by_message =
    subst (λ m. IsLet memory_view_of (Deliver c.as_slice-user.result.now it.envelope m it.terms) c.let_delivery.result c.args.self.now.store c.let_delivery.new.store) c.as_slice-message.ensures c.let_delivery.ensures in
    let let_by_user = subst (λ u. IsLet memory_view_of (Deliver u it.envelope it.message it.terms) c.let_delivery.result c.args.self.now.store c.let_delivery.new.store) c.as_slice-user.ensures let_by_message in
    on_shelf c.args.event.now c.let_delivery.result c.args.self.now _ (subst (λ e. IsLet memory_view_of e c.let_delivery.result c.args.self.now.store c.let_delivery.new.store) (sym it.is) let_by_user)

pub returns-in-AddUser-clause-lets : goal.returns-in-AddUser-clause-lets
returns-in-AddUser-clause-lets c =
    let it = c.in-AddUser in
    let old = state over_memory c.args.self.now.store in
    let new = state over_memory c.add_user.new.store in
    let is : c.is_ok.result ≡ is_ok c.add_user.result = search rules in
    let by_name = subst (λ n. ActsAddition n c.as_slice-address.result.now it.salt c.as_slice.result.now old new c.add_user.result) c.as_slice-name.ensures c.add_user.ensures.acts in
    let by_address = subst (λ a. ActsAddition it.name a it.salt c.as_slice.result.now old new c.add_user.result) c.as_slice-address.ensures by_name in
    let acts = subst (λ p. ActsAddition it.name it.address it.salt p old new c.add_user.result) c.as_slice.ensures by_address in
    on_shelf c.args.event.now c.is_ok.result c.args.self.now _
    (subst (λ e. IsLet memory_view_of e c.is_ok.result c.args.self.now.store c.add_user.new.store) (sym it.is)
    (lets_by (AddUser it.name it.address it.salt it.password) (λ accounts. Addition accounts it.name it.address it.salt it.password) (MayRefuseAddition it.name it.address it.password)
    (addition_may it.name it.address it.salt it.password) (λ w answer later row. (later, row, refl)) c.args.self.now.store c.add_user.new.store (λ done. Added) c.add_user.result c.is_ok.result is acts))

pub returns-in-Import-clause-lets : goal.returns-in-Import-clause-lets
returns-in-Import-clause-lets c =
    let it = c.in-Import in
    let file = it.file in
    let is : c.is_ok-in-Import.result ≡ is_ok c.import.result = search rules in
    on_shelf c.args.event.now c.is_ok-in-Import.result c.args.self.now _
    (subst (λ e. IsLet memory_view_of e c.is_ok-in-Import.result c.args.self.now.store c.import.new.store) (sym it.is)
    (lets_by (Import file) (λ accounts. Importing accounts file.head file.parts) (MayRefuseImport file.head file.parts) (importing_may file) (λ w answer later row. (later, row, refl)) c.args.self.now.store
    c.import.new.store (λ done. Imported) c.import.result c.is_ok-in-Import.result is c.import.ensures.acts))

pub returns-in-TakeOut-clause-lets : goal.returns-in-TakeOut-clause-lets
returns-in-TakeOut-clause-lets c =
    let it = c.in-TakeOut in
    let old = state over_memory c.args.self.now.store in
    let new = state over_memory c.take_out.new.store in
    let is : c.is_ok-in-TakeOut.result ≡ is_ok c.take_out.result = search rules in
    let acts = subst (λ u. ActsTaking u it.id old new c.take_out.result) c.as_slice-in-TakeOut.ensures c.take_out.ensures.acts in
    on_shelf c.args.event.now c.is_ok-in-TakeOut.result c.args.self.now _
    (subst (λ e. IsLet memory_view_of e c.is_ok-in-TakeOut.result c.args.self.now.store c.take_out.new.store) (sym it.is)
    (lets_by (TakeOut it.user it.id) (λ accounts. Taking accounts it.user it.id) IsTransient (taking_may it.user it.id) (λ w answer later row. (later, row, refl)) c.args.self.now.store c.take_out.new.store
    Taken c.take_out.result c.is_ok-in-TakeOut.result is acts))

pub returns-in-TakeMail-clause-lets : goal.returns-in-TakeMail-clause-lets
returns-in-TakeMail-clause-lets c =
    let it = c.in-TakeMail in
    let old = state over_memory c.args.self.now.store in
    let new = state over_memory c.take_mail.new.store in
    let is : c.is_ok-in-TakeMail.result ≡ is_ok c.take_mail.result = search rules in
    let by_user = subst (λ u. ActsMailTaking u c.as_slice-in-TakeMail-2.result.now old new c.take_mail.result) c.as_slice-in-TakeMail.ensures c.take_mail.ensures.acts in
    let acts = subst (λ f. ActsMailTaking it.user f old new c.take_mail.result) c.as_slice-in-TakeMail-2.ensures by_user in
    on_shelf c.args.event.now c.is_ok-in-TakeMail.result c.args.self.now _
    (subst (λ e. IsLet memory_view_of e c.is_ok-in-TakeMail.result c.args.self.now.store c.take_mail.new.store) (sym it.is)
    (lets_by (TakeMail it.user it.folder) (λ accounts. MailTaking accounts it.user it.folder) IsTransient (mail_taking_may it.user it.folder) (λ w answer later row. (later, row, refl)) c.args.self.now.store
    c.take_mail.new.store (λ done. MailTaken) c.take_mail.result c.is_ok-in-TakeMail.result is acts))

pub returns-in-DoUpkeep-clause-lets : goal.returns-in-DoUpkeep-clause-lets
returns-in-DoUpkeep-clause-lets c =
    let it = c.in-DoUpkeep in
    let old = state over_memory c.args.self.now.store in
    let new = state over_memory c.do_upkeep.new.store in
    let is : c.is_ok-in-DoUpkeep.result ≡ is_ok c.do_upkeep.result = search rules in
    let acts = subst (λ u. ActsKeeping u it.upkeep old new c.do_upkeep.result) c.as_slice-in-DoUpkeep.ensures c.do_upkeep.ensures in
    on_shelf c.args.event.now c.is_ok-in-DoUpkeep.result c.args.self.now _
    (subst (λ e. IsLet memory_view_of e c.is_ok-in-DoUpkeep.result c.args.self.now.store c.do_upkeep.new.store) (sym it.is)
    (lets_by (DoUpkeep it.user it.upkeep) (λ accounts. Keeping accounts it.user it.upkeep) (MayRefuseKeeping it.upkeep) (keeping_may it.user it.upkeep) (λ w answer later row. (later, row, refl)) c.args.self.now.store
    c.do_upkeep.new.store (λ answer. answer) c.do_upkeep.result c.is_ok-in-DoUpkeep.result is acts))
