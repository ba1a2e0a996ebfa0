use Rattle.std.proofs.Common.{◌≡◌, refl}
use Rattle.sqlite.specs.Held.{state}
use Rattle.store_engine.specs.declared.event.Event.{Event}
use Rattle.store_engine.specs.declared.event.Event.TheVariants.{Open, Give, Step, GiveUp, Close, Deliver, AddUser, Import, TakeOut, TakeMail, DoUpkeep}
use Rattle.store_engine.specs.declared.answer.Answer.TheVariants.{Delivered, Added, Imported, Taken, MailTaken}
use Rattle.store_engine.specs.AccountEvents.{Delivery, Addition, Importing, Taking, MailTaking}
use Rattle.store_engine.specs.Upkeep.{Keeping}
use Rattle.store_engine.specs.Hosts.{answer_by, answer_of, MayRefuseDelivery, MayRefuseAddition, MayRefuseImport, MayRefuseKeeping}
use Rattle.store_accounts.specs.Refusals.{IsTransient}
use Rattle.store_engine.proofs.HostLemmas.{told_by, told_done, session_event, account_event, account_crash, delivery_may, addition_may, importing_may, taking_may, mail_taking_may, keeping_may, event_is, crash_is}
use Rattle.store_engine.specs.declared.terms.Terms.{Terms}
use Rattle.store_engine.proofs.machine.carry_out.Goals as goal

pub returns-in-Open-clause-event : goal.returns-in-Open-clause-event
returns-in-Open-clause-event g c =
    let is : c.args.event.now ≡ Open c.in-Open.number = cc in
    event_is c.args.event.now (Open c.in-Open.number) c.answer_of.result (answer_of c.open.result) (state g.S.Store c.args.store.now) (state g.S.Store c.args.store.now) c.args.sessions.now c.open.new.sessions is c.answer_of.ensures
    (session_event (Open c.in-Open.number) (answer_of c.open.result) (state g.S.Store c.args.store.now) c.args.sessions.now c.open.new.sessions c.open.ensures)

pub returns-in-Give-clause-event : goal.returns-in-Give-clause-event
returns-in-Give-clause-event g c =
    let event = Give c.in-Give.number c.as_slice.result.now in
    let is : c.args.event.now ≡ event = cc in
    event_is c.args.event.now event c.answer_of-in-Give.result (answer_of c.give.result) (state g.S.Store c.args.store.now) (state g.S.Store c.args.store.now) c.args.sessions.now c.give.new.sessions is c.answer_of-in-Give.ensures
    (session_event event (answer_of c.give.result) (state g.S.Store c.args.store.now) c.args.sessions.now c.give.new.sessions c.give.ensures)

pub returns-in-Step-clause-event : goal.returns-in-Step-clause-event
returns-in-Step-clause-event g c =
    let is : c.args.event.now ≡ Step c.in-Step.number = cc in
    event_is c.args.event.now (Step c.in-Step.number) c.answer_of-in-Step.result (answer_of c.step.result) (state g.S.Store c.args.store.now) (state g.S.Store c.step.new.store) c.args.sessions.now c.step.new.sessions is c.answer_of-in-Step.ensures
    c.step.ensures.event

pub returns-in-GiveUp-clause-event : goal.returns-in-GiveUp-clause-event
returns-in-GiveUp-clause-event g c =
    let is : c.args.event.now ≡ GiveUp c.in-GiveUp.number = cc in
    event_is c.args.event.now (GiveUp c.in-GiveUp.number) c.give_up.result c.give_up.result (state g.S.Store c.args.store.now) (state g.S.Store c.args.store.now) c.args.sessions.now c.give_up.new.sessions is refl
    (session_event (GiveUp c.in-GiveUp.number) c.give_up.result (state g.S.Store c.args.store.now) c.args.sessions.now c.give_up.new.sessions c.give_up.ensures)

pub returns-in-Close-clause-event : goal.returns-in-Close-clause-event
returns-in-Close-clause-event g c =
    let is : c.args.event.now ≡ Close c.in-Close.number = cc in
    event_is c.args.event.now (Close c.in-Close.number) c.close.result c.close.result (state g.S.Store c.args.store.now) (state g.S.Store c.args.store.now) c.args.sessions.now c.close.new.sessions is refl
    (session_event (Close c.in-Close.number) c.close.result (state g.S.Store c.args.store.now) c.args.sessions.now c.close.new.sessions c.close.ensures)

pub returns-in-Deliver-clause-event : goal.returns-in-Deliver-clause-event
returns-in-Deliver-clause-event g c =
    let event : Event = Deliver c.as_slice-in-Deliver.result.now c.in-Deliver.envelope c.as_slice-in-Deliver-2.result.now c.in-Deliver.terms in
    let is : c.args.event.now ≡ event = cc in
    event_is c.args.event.now event c.answer_of-in-Deliver.result (answer_by Delivered c.carry_out_delivery-report.result) (state g.S.Store c.args.store.now) (state g.S.Store c.carry_out_delivery-report.new.store) c.args.sessions.now c.args.sessions.now is
    (told_by Delivered c.carry_out_delivery-report.result c.map.result c.answer_of-in-Deliver.result c.map.ensures.cases c.answer_of-in-Deliver.ensures)
    (account_event event (λ accounts. Delivery accounts c.as_slice-in-Deliver.result.now c.in-Deliver.envelope c.as_slice-in-Deliver-2.result.now c.in-Deliver.terms) (MayRefuseDelivery c.in-Deliver.envelope c.as_slice-in-Deliver-2.result.now c.in-Deliver.terms.when.moment) (λ w answer next made. made) (delivery_may c.as_slice-in-Deliver.result.now c.as_slice-in-Deliver-2.result.now c.in-Deliver.envelope c.in-Deliver.terms) (state g.S.Store c.args.store.now) (state g.S.Store c.carry_out_delivery-report.new.store) c.args.sessions.now Delivered c.carry_out_delivery-report.result c.carry_out_delivery-report.ensures)

pub returns-in-Deliver-clause-crash : goal.returns-in-Deliver-clause-crash
returns-in-Deliver-clause-crash g c =
    let event : Event = Deliver c.as_slice-in-Deliver.result.now c.in-Deliver.envelope c.as_slice-in-Deliver-2.result.now c.in-Deliver.terms in
    let is : c.args.event.now ≡ event = cc in
    crash_is c.args.event.now event (state g.S.Store c.args.store.now) (state g.S.Store c.carry_out_delivery-report.new.store) c.args.sessions.now is
    (account_crash event (λ accounts. Delivery accounts c.as_slice-in-Deliver.result.now c.in-Deliver.envelope c.as_slice-in-Deliver-2.result.now c.in-Deliver.terms) (MayRefuseDelivery c.in-Deliver.envelope c.as_slice-in-Deliver-2.result.now c.in-Deliver.terms.when.moment) (λ w answer next made. made) (delivery_may c.as_slice-in-Deliver.result.now c.as_slice-in-Deliver-2.result.now c.in-Deliver.envelope c.in-Deliver.terms) (state g.S.Store c.args.store.now) (state g.S.Store c.carry_out_delivery-report.new.store) c.args.sessions.now c.carry_out_delivery-report.result (answer_by Delivered c.carry_out_delivery-report.result) c.carry_out_delivery-report.ensures)

pub returns-in-AddUser-clause-event : goal.returns-in-AddUser-clause-event
returns-in-AddUser-clause-event g c =
    let event : Event = AddUser c.as_slice-in-AddUser.result.now c.as_slice-in-AddUser-2.result.now c.in-AddUser.salt c.as_slice-in-AddUser-3.result.now in
    let is : c.args.event.now ≡ event = cc in
    event_is c.args.event.now event c.answer_of-in-AddUser.result (answer_by (λ done. Added) c.add_user-added.result) (state g.S.Store c.args.store.now) (state g.S.Store c.add_user-added.new.store) c.args.sessions.now c.args.sessions.now is
    (told_done Added c.add_user-added.result c.and.result c.answer_of-in-AddUser.result c.and.ensures c.answer_of-in-AddUser.ensures)
    (account_event event (λ accounts. Addition accounts c.as_slice-in-AddUser.result.now c.as_slice-in-AddUser-2.result.now c.in-AddUser.salt c.as_slice-in-AddUser-3.result.now) (MayRefuseAddition c.as_slice-in-AddUser.result.now c.as_slice-in-AddUser-2.result.now c.as_slice-in-AddUser-3.result.now) (λ w answer next made. made) (addition_may c.as_slice-in-AddUser.result.now c.as_slice-in-AddUser-2.result.now c.in-AddUser.salt c.as_slice-in-AddUser-3.result.now) (state g.S.Store c.args.store.now) (state g.S.Store c.add_user-added.new.store) c.args.sessions.now (λ done. Added) c.add_user-added.result c.add_user-added.ensures.acts)

pub returns-in-AddUser-clause-crash : goal.returns-in-AddUser-clause-crash
returns-in-AddUser-clause-crash g c =
    let event : Event = AddUser c.as_slice-in-AddUser.result.now c.as_slice-in-AddUser-2.result.now c.in-AddUser.salt c.as_slice-in-AddUser-3.result.now in
    let is : c.args.event.now ≡ event = cc in
    crash_is c.args.event.now event (state g.S.Store c.args.store.now) (state g.S.Store c.add_user-added.new.store) c.args.sessions.now is
    (account_crash event (λ accounts. Addition accounts c.as_slice-in-AddUser.result.now c.as_slice-in-AddUser-2.result.now c.in-AddUser.salt c.as_slice-in-AddUser-3.result.now) (MayRefuseAddition c.as_slice-in-AddUser.result.now c.as_slice-in-AddUser-2.result.now c.as_slice-in-AddUser-3.result.now) (λ w answer next made. made) (addition_may c.as_slice-in-AddUser.result.now c.as_slice-in-AddUser-2.result.now c.in-AddUser.salt c.as_slice-in-AddUser-3.result.now) (state g.S.Store c.args.store.now) (state g.S.Store c.add_user-added.new.store) c.args.sessions.now c.add_user-added.result (answer_by (λ done. Added) c.add_user-added.result) c.add_user-added.ensures.acts)

pub returns-in-Import-clause-event : goal.returns-in-Import-clause-event
returns-in-Import-clause-event g c =
    let file = c.in-Import.file in
    let is : c.args.event.now ≡ Import file = cc in
    event_is c.args.event.now (Import file) c.answer_of-in-Import.result (answer_by (λ done. Imported) c.import-imported.result) (state g.S.Store c.args.store.now) (state g.S.Store c.import-imported.new.store) c.args.sessions.now c.args.sessions.now is
    (told_done Imported c.import-imported.result c.and-in-Import.result c.answer_of-in-Import.result c.and-in-Import.ensures c.answer_of-in-Import.ensures)
    (account_event (Import file) (λ accounts. Importing accounts file.head file.parts) (MayRefuseImport file.head file.parts) (λ w answer next made. made) (importing_may file) (state g.S.Store c.args.store.now) (state g.S.Store c.import-imported.new.store) c.args.sessions.now
    (λ done. Imported) c.import-imported.result c.import-imported.ensures.acts)

pub returns-in-Import-clause-crash : goal.returns-in-Import-clause-crash
returns-in-Import-clause-crash g c =
    let file = c.in-Import.file in
    let is : c.args.event.now ≡ Import file = cc in
    crash_is c.args.event.now (Import file) (state g.S.Store c.args.store.now) (state g.S.Store c.import-imported.new.store) c.args.sessions.now is
    (account_crash (Import file) (λ accounts. Importing accounts file.head file.parts) (MayRefuseImport file.head file.parts) (λ w answer next made. made) (importing_may file) (state g.S.Store c.args.store.now) (state g.S.Store c.import-imported.new.store) c.args.sessions.now
    c.import-imported.result (answer_by (λ done. Imported) c.import-imported.result) c.import-imported.ensures.acts)

pub returns-in-TakeOut-clause-event : goal.returns-in-TakeOut-clause-event
returns-in-TakeOut-clause-event g c =
    let event : Event = TakeOut c.as_slice-in-TakeOut.result.now c.in-TakeOut.id in
    let is : c.args.event.now ≡ event = cc in
    event_is c.args.event.now event c.answer_of-in-TakeOut.result (answer_by Taken c.take_out-row.result) (state g.S.Store c.args.store.now) (state g.S.Store c.take_out-row.new.store) c.args.sessions.now c.args.sessions.now is
    (told_by Taken c.take_out-row.result c.map-in-TakeOut.result c.answer_of-in-TakeOut.result c.map-in-TakeOut.ensures.cases c.answer_of-in-TakeOut.ensures)
    (account_event event (λ accounts. Taking accounts c.as_slice-in-TakeOut.result.now c.in-TakeOut.id) IsTransient (λ w answer next made. made) (taking_may c.as_slice-in-TakeOut.result.now c.in-TakeOut.id) (state g.S.Store c.args.store.now) (state g.S.Store c.take_out-row.new.store) c.args.sessions.now Taken c.take_out-row.result c.take_out-row.ensures.acts)

pub returns-in-TakeOut-clause-crash : goal.returns-in-TakeOut-clause-crash
returns-in-TakeOut-clause-crash g c =
    let event : Event = TakeOut c.as_slice-in-TakeOut.result.now c.in-TakeOut.id in
    let is : c.args.event.now ≡ event = cc in
    crash_is c.args.event.now event (state g.S.Store c.args.store.now) (state g.S.Store c.take_out-row.new.store) c.args.sessions.now is
    (account_crash event (λ accounts. Taking accounts c.as_slice-in-TakeOut.result.now c.in-TakeOut.id) IsTransient (λ w answer next made. made) (taking_may c.as_slice-in-TakeOut.result.now c.in-TakeOut.id) (state g.S.Store c.args.store.now) (state g.S.Store c.take_out-row.new.store) c.args.sessions.now c.take_out-row.result (answer_by Taken c.take_out-row.result) c.take_out-row.ensures.acts)

pub returns-in-TakeMail-clause-event : goal.returns-in-TakeMail-clause-event
returns-in-TakeMail-clause-event g c =
    let event : Event = TakeMail c.as_slice-in-TakeMail.result.now c.as_slice-in-TakeMail-2.result.now in
    let is : c.args.event.now ≡ event = cc in
    event_is c.args.event.now event c.answer_of-in-TakeMail.result (answer_by (λ done. MailTaken) c.take_mail-taken.result) (state g.S.Store c.args.store.now) (state g.S.Store c.take_mail-taken.new.store) c.args.sessions.now c.args.sessions.now is
    (told_done MailTaken c.take_mail-taken.result c.and-in-TakeMail.result c.answer_of-in-TakeMail.result c.and-in-TakeMail.ensures c.answer_of-in-TakeMail.ensures)
    (account_event event (λ accounts. MailTaking accounts c.as_slice-in-TakeMail.result.now c.as_slice-in-TakeMail-2.result.now) IsTransient (λ w answer next made. made) (mail_taking_may c.as_slice-in-TakeMail.result.now c.as_slice-in-TakeMail-2.result.now) (state g.S.Store c.args.store.now) (state g.S.Store c.take_mail-taken.new.store) c.args.sessions.now (λ done. MailTaken) c.take_mail-taken.result c.take_mail-taken.ensures.acts)

pub returns-in-TakeMail-clause-crash : goal.returns-in-TakeMail-clause-crash
returns-in-TakeMail-clause-crash g c =
    let event : Event = TakeMail c.as_slice-in-TakeMail.result.now c.as_slice-in-TakeMail-2.result.now in
    let is : c.args.event.now ≡ event = cc in
    crash_is c.args.event.now event (state g.S.Store c.args.store.now) (state g.S.Store c.take_mail-taken.new.store) c.args.sessions.now is
    (account_crash event (λ accounts. MailTaking accounts c.as_slice-in-TakeMail.result.now c.as_slice-in-TakeMail-2.result.now) IsTransient (λ w answer next made. made) (mail_taking_may c.as_slice-in-TakeMail.result.now c.as_slice-in-TakeMail-2.result.now) (state g.S.Store c.args.store.now) (state g.S.Store c.take_mail-taken.new.store) c.args.sessions.now c.take_mail-taken.result (answer_by (λ done. MailTaken) c.take_mail-taken.result) c.take_mail-taken.ensures.acts)

pub returns-in-DoUpkeep-clause-event : goal.returns-in-DoUpkeep-clause-event
returns-in-DoUpkeep-clause-event g c =
    let event : Event = DoUpkeep c.as_slice-in-DoUpkeep.result.now c.in-DoUpkeep.upkeep in
    let is : c.args.event.now ≡ event = cc in
    event_is c.args.event.now event c.answer_of-in-DoUpkeep.result (answer_of c.do_upkeep.result) (state g.S.Store c.args.store.now) (state g.S.Store c.do_upkeep.new.store) c.args.sessions.now c.args.sessions.now is c.answer_of-in-DoUpkeep.ensures
    (account_event event (λ accounts. Keeping accounts c.as_slice-in-DoUpkeep.result.now c.in-DoUpkeep.upkeep) (MayRefuseKeeping c.in-DoUpkeep.upkeep) (λ w answer next made. made) (keeping_may c.as_slice-in-DoUpkeep.result.now c.in-DoUpkeep.upkeep) (state g.S.Store c.args.store.now) (state g.S.Store c.do_upkeep.new.store) c.args.sessions.now (λ answer. answer) c.do_upkeep.result c.do_upkeep.ensures)

pub returns-in-DoUpkeep-clause-crash : goal.returns-in-DoUpkeep-clause-crash
returns-in-DoUpkeep-clause-crash g c =
    let event : Event = DoUpkeep c.as_slice-in-DoUpkeep.result.now c.in-DoUpkeep.upkeep in
    let is : c.args.event.now ≡ event = cc in
    crash_is c.args.event.now event (state g.S.Store c.args.store.now) (state g.S.Store c.do_upkeep.new.store) c.args.sessions.now is
    (account_crash event (λ accounts. Keeping accounts c.as_slice-in-DoUpkeep.result.now c.in-DoUpkeep.upkeep) (MayRefuseKeeping c.in-DoUpkeep.upkeep) (λ w answer next made. made) (keeping_may c.as_slice-in-DoUpkeep.result.now c.in-DoUpkeep.upkeep) (state g.S.Store c.args.store.now) (state g.S.Store c.do_upkeep.new.store) c.args.sessions.now c.do_upkeep.result (answer_by (λ answer. answer) c.do_upkeep.result) c.do_upkeep.ensures)
