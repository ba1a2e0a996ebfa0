-- What is so of every run that doesn't fail.
use Rattle.std.proofs.Common.{◌≡◌, ◌≤◌, ◌&&◌, ◌||◌, ℕ, suc, Bool, true, false, cond, List, [], ◌∷◌, ◌++◌, length, map, Option, Some, None, refl, sym, ap, subst, ◌∙◌, arith}
use Rattle.std.specs.Prelude.{nat_eq, nat_lt, All}
use Rattle.std.specs.List.{list_any, IsDistinct}
use Rattle.std.specs.Cmp.{IsEquivalence}
use Rattle.std.specs.Cmp.Lexicographic.{pointwise}
use Rattle.std.proofs.lemmas.Bool.{ltb-true}
use Rattle.std.proofs.lemmas.Cmp.{nat_list_eq_equiv}
use Rattle.std.proofs.lemmas.List.{length-append, length-map, map-append}
use Rattle.std.proofs.lemmas.List.Elements.{All-cons, All-head, All-tail}
use Rattle.std.proofs.lemmas.Map.Keys.{IsDistinct-push}
use Rattle.std.proofs.lemmas.Slice.Eq.{bytes_eq-Decides}
use Rattle.mail_flags.specs.Flags.{AreFlags, with_all_named, flags_text}
use Rattle.mail_flags.specs.declared.placement.Placement.{Placement}
use Rattle.mail_flags.proofs.FlagLemmas.{no_flags, added_flags, removed_flags}
use Rattle.mail_address.specs.declared.address.Addr.{Addr}
use Rattle.sieve_syntax.specs.declared.tree.action.Action.{Action}
use Rattle.sieve_syntax.specs.declared.tree.action.Action.TheVariants.{Keep, Discard, FileInto, Redirect, Vacation, SetFlag, AddFlag, RemoveFlag}
use Rattle.sieve_syntax.specs.declared.tree.checks.MailCheck.{MailCheck}
use Rattle.sieve_syntax.specs.declared.extension.vacation.VacationArgs.{VacationArgs}
use Rattle.sieve_syntax.specs.RunState.{RunState, at_first, max_targets, max_mailboxes, TwoVacations, TooManyRedirects, TooManyMailboxes, Flow, Going, Stopped, Failed, and_then, inbox, mailbox_named, is_filed, has_room, with_filed, flags_given, cancelled_after, filed_into, same_target, sent_to, replied_by, with_keep, with_name, performed}
use Rattle.sieve_syntax.specs.Looking.{outcome_by}
use Rattle.sieve_syntax.specs.Meaning.{Actions, actions_of, done_by, outcome_after}
use Rattle.sieve_syntax.specs.Trace.{actions_run, in_turn, KeepsImplicitly, OnDone, NamesWithoutRepeats, FilesIntoInboxAlone, NamesFlags, FilesWithFlags}
use Rattle.sieve_syntax.specs.Tree.{Commands}
use Rattle.sieve_syntax.proofs.TraceLemmas.{outcome_in_turn}

-- this is so of the state, where the run hasn't failed
abbrev OnState : (RunState → Type 0) → Flow → Type 0
OnState P (Going state) = P state
OnState P (Stopped state) = P state
OnState P (Failed failure) = Unit {0}

-- what each action keeps, all keep in turn
kept_in_turn : (P : RunState → Type 0) (May : Action → Type 0) → ((action : Action) (state : RunState) → May action → P state → OnState P (performed action state)) → (actions : List Action) → All May actions → (state : RunState) → P state → OnState P (in_turn actions state)
kept_in_turn P May keeps [] all state so = so
kept_in_turn P May keeps (action ∷ more) all state so = step (performed action state) (keeps action state (all 0 action (omega arith)) so) (kept_in_turn P May keeps more (λ k other within. all (suc k) other (omega arith)))
  where
    step : (flow : Flow) → OnState P flow → ((next : RunState) → P next → OnState P (in_turn more next)) → OnState P (and_then flow (in_turn more))
    step (Going next) so later = later next so
    step (Stopped next) so later = so
    step (Failed failure) so later = tt

-- the mailboxes of these copies
abbrev mailboxes_of : List Placement → List (List ℕ)
mailboxes_of filed = map (λ (one : Placement). one.mailbox) filed

-- the state of a run and what it stands for
pub record IsOrderly (state : RunState) : Type 0 where
  pub mailboxes : IsDistinct (pointwise nat_eq) (mailboxes_of state.filed)
  pub addresses : IsDistinct same_target state.sent
  pub few_mailboxes : length state.filed ≤ max_mailboxes
  pub few_addresses : length state.sent ≤ max_targets

-- the same address, by both parts
both : (a b : Bool) → (a && b) ≡ true → (a ≡ true) × (b ≡ true)
both true b is = (refl, is)
both false b is = absurd cc

target_equiv : IsEquivalence same_target
target_equiv = record {
  refl = λ a i. nat_list_eq_equiv.refl a.local i && nat_list_eq_equiv.refl a.domain i;
  symm = λ a b i. nat_list_eq_equiv.symm a.local b.local i && nat_list_eq_equiv.symm a.domain b.domain i;
  congr = λ a b c same i.
      let parts = both (pointwise nat_eq a.local b.local) (pointwise nat_eq a.domain b.domain) same in
      nat_list_eq_equiv.congr a.local b.local c.local parts.0 i && nat_list_eq_equiv.congr a.domain b.domain c.domain parts.1 i;
}

-- whichever side is asked about
turned : {K : Type 0} {eq : K → K → Bool} → IsEquivalence eq → (y : K) (xs : List K) → list_any (eq y) xs ≡ list_any (λ there. eq there y) xs
turned laws y [] = refl
turned laws y (x ∷ xs) = λ i. laws.symm y x i || turned laws y xs i

any_mailbox : (p : List ℕ → Bool) (filed : List Placement) → list_any p (mailboxes_of filed) ≡ list_any (λ there. p there.mailbox) filed
any_mailbox p [] = refl
any_mailbox p (one ∷ more) = λ i. p one.mailbox || any_mailbox p more i

-- where a mailbox has a copy, one more adds no mailbox
filed_again : (filed : List Placement) (new : Placement) → is_filed filed new.mailbox ≡ true → mailboxes_of (with_filed filed new) ≡ mailboxes_of filed
filed_again [] new is = absurd (cc is)
filed_again (there ∷ more) new is = step (filed_again more new) (pointwise nat_eq there.mailbox new.mailbox) refl is
  where
    step : (is_filed more new.mailbox ≡ true → mailboxes_of (with_filed more new) ≡ mailboxes_of more) → (same : Bool) → pointwise nat_eq there.mailbox new.mailbox ≡ same
        → (same || is_filed more new.mailbox) ≡ true → mailboxes_of (cond same (new ∷ more) (there ∷ with_filed more new)) ≡ there.mailbox ∷ mailboxes_of more
    step later true same is = ap (λ (l : List ℕ). l ∷ mailboxes_of more) (sym ((bytes_eq-Decides there.mailbox new.mailbox).0 same))
    step later false same is = ap (λ l. there.mailbox ∷ l) (later is)

-- and where it has none, it comes behind the others
pub filed_anew : (filed : List Placement) (new : Placement) → is_filed filed new.mailbox ≡ false → with_filed filed new ≡ filed ++ new ∷ []
filed_anew [] new is = refl
filed_anew (there ∷ more) new is = step (filed_anew more new) (pointwise nat_eq there.mailbox new.mailbox) is
  where
    step : (is_filed more new.mailbox ≡ false → with_filed more new ≡ more ++ new ∷ []) → (same : Bool)
        → (same || is_filed more new.mailbox) ≡ false → cond same (new ∷ more) (there ∷ with_filed more new) ≡ there ∷ (more ++ new ∷ [])
    step later true is = absurd (cc is)
    step later false is = ap (λ l. there ∷ l) (later is)

-- what is so of each copy and of the new one
all_filed : (P : Placement → Type 0) (filed : List Placement) (new : Placement) → All P filed → P new → All P (with_filed filed new)
all_filed P [] new all so = All-cons P new [] so all
all_filed P (there ∷ more) new all so = step (all_filed P more new (All-tail P there more all) so) (pointwise nat_eq there.mailbox new.mailbox)
  where
    step : All P (with_filed more new) → (same : Bool) → All P (cond same (new ∷ more) (there ∷ with_filed more new))
    step later true = All-cons P new more so (All-tail P there more all)
    step later false = All-cons P there (with_filed more new) (All-head P there more all) later

-- a copy in a mailbox
abbrev copy_in : List ℕ → List ℕ → Placement
copy_in mailbox flags = record { mailbox = mailbox; flags = flags }

-- a state with one copy more
abbrev with_copy : List ℕ → List ℕ → (copy : Bool) → RunState → RunState
with_copy mailbox flags copy state = record state { filed = with_filed state.filed (copy_in mailbox flags); cancelled = cancelled_after copy state }

same_mailboxes : (mailbox flags : List ℕ) (copy : Bool) (state : RunState) → is_filed state.filed mailbox ≡ true → IsOrderly state → IsOrderly (with_copy mailbox flags copy state)
same_mailboxes mailbox flags copy state is so =
    let same = filed_again state.filed (copy_in mailbox flags) is in
    let long = length-map (with_filed state.filed (copy_in mailbox flags)) (λ (one : Placement). one.mailbox) in
    let was = length-map state.filed (λ (one : Placement). one.mailbox) in
    record {
      mailboxes = subst (IsDistinct (pointwise nat_eq)) (sym same) so.mailboxes;
      addresses = so.addresses;
      few_mailboxes = omega (arith, ap length same, long, was, so.few_mailboxes);
      few_addresses = so.few_addresses;
    }

one_mailbox : (mailbox flags : List ℕ) (copy : Bool) (state : RunState) → nat_lt (length state.filed) max_mailboxes ≡ true → is_filed state.filed mailbox ≡ false → IsOrderly state → IsOrderly (with_copy mailbox flags copy state)
one_mailbox mailbox flags copy state free is so =
    let new = copy_in mailbox flags in
    let longer = filed_anew state.filed new is in
    let long = length-append state.filed (new ∷ []) in
    let low = ltb-true (length state.filed) max_mailboxes free in
    record {
      mailboxes =
          subst (IsDistinct (pointwise nat_eq)) (sym (ap mailboxes_of longer ∙ map-append (λ (one : Placement). one.mailbox) state.filed (new ∷ [])))
          (IsDistinct-push nat_list_eq_equiv (mailboxes_of state.filed) mailbox so.mailboxes
          (turned nat_list_eq_equiv mailbox (mailboxes_of state.filed) ∙ any_mailbox (λ there. pointwise nat_eq there mailbox) state.filed ∙ is));
      addresses = so.addresses;
      few_mailboxes = omega (arith, ap length longer, long, low);
      few_addresses = so.few_addresses;
    }

files : (mailbox flags : List ℕ) (copy : Bool) (state : RunState) → IsOrderly state → OnState IsOrderly (filed_into mailbox flags copy state)
files mailbox flags copy state so = step (nat_lt (length state.filed) max_mailboxes) (is_filed state.filed mailbox) refl refl
  where
    step : (room there : Bool) → nat_lt (length state.filed) max_mailboxes ≡ room → is_filed state.filed mailbox ≡ there
        → OnState IsOrderly (cond (room || there) (Going (with_copy mailbox flags copy state)) (Failed TooManyMailboxes))
    step true true free is = same_mailboxes mailbox flags copy state is so
    step false true free is = same_mailboxes mailbox flags copy state is so
    step true false free is = one_mailbox mailbox flags copy state free is so
    step false false free is = tt

-- what filing keeps, the implicit keep keeps too, and then it is so of what is done
module _ (P : RunState → Type 0) (Q : Actions → Type 0) (shows : (state : RunState) → P state → Q (actions_of state)) where
  on_done : (flow : Flow) → OnState P flow → OnDone Q (done_by flow)
  on_done (Going state) so = shows state so
  on_done (Stopped state) so = shows state so
  on_done (Failed failure) so = tt

  keeps_in_the_end : (state : RunState) → P state → OnState P (filed_into inbox (flags_given None state) true state) → OnDone Q (outcome_after (Going state))
  keeps_in_the_end state so filed = step state.cancelled
    where
      step : (cancelled : Bool) → OnDone Q (done_by (cond cancelled (Going state) (filed_into inbox (flags_given None state) true state)))
      step true = shows state so
      step false = on_done (filed_into inbox (flags_given None state) true state) filed

  in_the_end : ((state : RunState) → P state → OnState P (filed_into inbox (flags_given None state) true state)) → (flow : Flow) → OnState P flow → OnDone Q (outcome_after flow)
  in_the_end keeps (Going state) so = keeps_in_the_end state so (keeps state so)
  in_the_end keeps (Stopped state) so = keeps_in_the_end state so (keeps state so)
  in_the_end keeps (Failed failure) so = tt

sends : (target : Addr) (copy : Bool) (state : RunState) → IsOrderly state → OnState IsOrderly (sent_to target copy state)
sends target copy state so = step (list_any (λ there. same_target there target) state.sent) (nat_lt (length state.sent) max_targets) refl refl
  where
    step : (there room : Bool) → list_any (λ there. same_target there target) state.sent ≡ there → nat_lt (length state.sent) max_targets ≡ room
        → OnState IsOrderly (cond there (Going (record state { cancelled = cancelled_after copy state })) (cond room (Going (record state { sent = state.sent ++ target ∷ []; cancelled = cancelled_after copy state })) (Failed TooManyRedirects)))
    step true room is free = record { mailboxes = so.mailboxes; addresses = so.addresses; few_mailboxes = so.few_mailboxes; few_addresses = so.few_addresses }
    step false false is free = tt
    step false true is free =
        let longer = length-append state.sent (target ∷ []) in
        let low = ltb-true (length state.sent) max_targets free in
        record {
          mailboxes = so.mailboxes;
          addresses = IsDistinct-push target_equiv state.sent target so.addresses (turned target_equiv target state.sent ∙ is);
          few_mailboxes = so.few_mailboxes;
          few_addresses = omega arith;
        }

replies : (args : VacationArgs) (state : RunState) → IsOrderly state → OnState IsOrderly (replied_by args state)
replies args state so = step state.reply
  where
    step : (reply : Option VacationArgs) → OnState IsOrderly (elim reply [
      | None ↦ Going (record state { reply = Some args })
      | Some _ ↦ Failed TwoVacations
    ])
    step None = record { mailboxes = so.mailboxes; addresses = so.addresses; few_mailboxes = so.few_mailboxes; few_addresses = so.few_addresses }
    step (Some _) = tt

-- the marks of a run say nothing of its mailboxes and addresses
marked : (state : RunState) (has_kept names_inbox : Bool) → IsOrderly state → IsOrderly (record state { has_kept = has_kept; names_inbox = names_inbox })
marked state has_kept names_inbox so = record { mailboxes = so.mailboxes; addresses = so.addresses; few_mailboxes = so.few_mailboxes; few_addresses = so.few_addresses }

orderly : (action : Action) (state : RunState) → Unit {0} → IsOrderly state → OnState IsOrderly (performed action state)
orderly (Keep given) state may so = files inbox (flags_given given state) false (with_keep state) (marked state true state.names_inbox so)
orderly Discard state may so = record { mailboxes = so.mailboxes; addresses = so.addresses; few_mailboxes = so.few_mailboxes; few_addresses = so.few_addresses }
orderly (FileInto filing) state may so =
    files (mailbox_named filing.mailbox) (flags_given filing.flags state) filing.copy (with_name filing.mailbox state) (marked state state.has_kept (with_name filing.mailbox state).names_inbox so)
orderly (Redirect redirect) state may so = sends redirect.target redirect.copy state so
orderly (Vacation args) state may so = replies args state so
orderly (SetFlag texts) state may so = record { mailboxes = so.mailboxes; addresses = so.addresses; few_mailboxes = so.few_mailboxes; few_addresses = so.few_addresses }
orderly (AddFlag texts) state may so = record { mailboxes = so.mailboxes; addresses = so.addresses; few_mailboxes = so.few_mailboxes; few_addresses = so.few_addresses }
orderly (RemoveFlag texts) state may so = record { mailboxes = so.mailboxes; addresses = so.addresses; few_mailboxes = so.few_mailboxes; few_addresses = so.few_addresses }

-- each mailbox and each address once
pub named_once : (truth : RunState → MailCheck → Bool) (commands : Commands) → OnDone NamesWithoutRepeats (outcome_by truth commands)
unfolding IsDistinct
named_once truth commands =
    subst (OnDone NamesWithoutRepeats) (sym (outcome_in_turn truth commands))
    (in_the_end IsOrderly NamesWithoutRepeats (λ state so. record { mailboxes = so.mailboxes; addresses = so.addresses; few_mailboxes = so.few_mailboxes; few_addresses = so.few_addresses }) (λ state so. files inbox (flags_given None state) true state so)
    (in_turn (actions_run truth commands) at_first)
    (kept_in_turn IsOrderly (λ action. Unit {0}) orderly (actions_run truth commands) (λ k other within. tt) at_first (record { mailboxes = tt; addresses = tt; few_mailboxes = omega arith; few_addresses = omega arith })))

-- the implicit keep is the only action
pub record IsUntouched (state : RunState) : Type 0 where
  pub filed : state.filed ≡ []
  pub sent : state.sent ≡ []
  pub kept : state.cancelled ≡ false

untouched : (action : Action) (state : RunState) → KeepsImplicitly action → IsUntouched state → OnState IsUntouched (performed action state)
untouched (Keep given) state may so = absurd may
untouched Discard state may so = absurd may
untouched (FileInto name) state may so = absurd may
untouched (Redirect target) state may so = absurd may
untouched (Vacation args) state may so = step state.reply
  where
    step : (reply : Option VacationArgs) → OnState IsUntouched (elim reply [
      | None ↦ Going (record state { reply = Some args })
      | Some _ ↦ Failed TwoVacations
    ])
    step None = record { filed = so.filed; sent = so.sent; kept = so.kept }
    step (Some _) = tt
untouched (SetFlag texts) state may so = record { filed = so.filed; sent = so.sent; kept = so.kept }
untouched (AddFlag texts) state may so = record { filed = so.filed; sent = so.sent; kept = so.kept }
untouched (RemoveFlag texts) state may so = record { filed = so.filed; sent = so.sent; kept = so.kept }

untouched_end : (state : RunState) → IsUntouched state → OnDone FilesIntoInboxAlone (outcome_after (Going state))
untouched_end state so = step state.filed state.cancelled so.filed so.kept
  where
    step : (filed : List Placement) (cancelled : Bool) → filed ≡ [] → cancelled ≡ false → OnDone FilesIntoInboxAlone (outcome_after (Going (record state { filed = filed; cancelled = cancelled })))
    step [] true none kept = absurd (cc kept)
    step [] false none kept = record { filed = refl; sent = so.sent }
    step (one ∷ more) cancelled none kept = absurd (cc none)

-- the implicit keep alone
pub implicitly_kept : (truth : RunState → MailCheck → Bool) (commands : Commands) → All KeepsImplicitly (actions_run truth commands) → OnDone FilesIntoInboxAlone (outcome_by truth commands)
implicitly_kept truth commands all =
    subst (OnDone FilesIntoInboxAlone) (sym (outcome_in_turn truth commands))
    (step (in_turn (actions_run truth commands) at_first)
    (kept_in_turn IsUntouched KeepsImplicitly untouched (actions_run truth commands) all at_first (record { filed = refl; sent = refl; kept = refl })))
  where
    step : (flow : Flow) → OnState IsUntouched flow → OnDone FilesIntoInboxAlone (outcome_after flow)
    step (Going state) so = untouched_end state so
    step (Stopped state) so = untouched_end state so
    step (Failed failure) so = tt

-- ---- whatever the texts are, the flags of a copy are flags

record IsFlagged (state : RunState) : Type 0 where
  flags : AreFlags state.flags
  filed : All NamesFlags state.filed

named_given : (given : Option (List (List ℕ))) (state : RunState) → IsFlagged state → (flags : List (List ℕ)) × AreFlags flags × (flags_given given state ≡ flags_text flags)
named_given None state so = (state.flags, so.flags, refl)
named_given (Some texts) state so = (with_all_named [] texts, added_flags [] texts no_flags, refl)

flagged_filed : (mailbox : List ℕ) (given : Option (List (List ℕ))) (copy : Bool) (state : RunState) → IsFlagged state → OnState IsFlagged (filed_into mailbox (flags_given given state) copy state)
flagged_filed mailbox given copy state so = step (has_room state.filed mailbox)
  where
    step : (room : Bool) → OnState IsFlagged (cond room (Going (with_copy mailbox (flags_given given state) copy state)) (Failed TooManyMailboxes))
    step true = record { flags = so.flags; filed = all_filed NamesFlags state.filed (copy_in mailbox (flags_given given state)) so.filed (named_given given state so) }
    step false = tt

-- whatever its marks are
marked_filed : (mailbox : List ℕ) (given : Option (List (List ℕ))) (copy : Bool) (state : RunState) (has_kept names_inbox : Bool) → IsFlagged state
    → OnState IsFlagged (filed_into mailbox (flags_given given state) copy (record state { has_kept = has_kept; names_inbox = names_inbox }))
marked_filed mailbox None copy state has_kept names_inbox so = flagged_filed mailbox None copy (record state { has_kept = has_kept; names_inbox = names_inbox }) (record { flags = so.flags; filed = so.filed })
marked_filed mailbox (Some texts) copy state has_kept names_inbox so =
    flagged_filed mailbox (Some texts) copy (record state { has_kept = has_kept; names_inbox = names_inbox }) (record { flags = so.flags; filed = so.filed })

flagged_sent : (target : Addr) (copy : Bool) (state : RunState) → IsFlagged state → OnState IsFlagged (sent_to target copy state)
flagged_sent target copy state so = step (list_any (λ there. same_target there target) state.sent) (nat_lt (length state.sent) max_targets)
  where
    step : (there room : Bool)
        → OnState IsFlagged (cond there (Going (record state { cancelled = cancelled_after copy state })) (cond room (Going (record state { sent = state.sent ++ target ∷ []; cancelled = cancelled_after copy state })) (Failed TooManyRedirects)))
    step true room = record { flags = so.flags; filed = so.filed }
    step false true = record { flags = so.flags; filed = so.filed }
    step false false = tt

flagged_reply : (args : VacationArgs) (state : RunState) → IsFlagged state → OnState IsFlagged (replied_by args state)
flagged_reply args state so = step state.reply
  where
    step : (reply : Option VacationArgs) → OnState IsFlagged (elim reply [
      | None ↦ Going (record state { reply = Some args })
      | Some _ ↦ Failed TwoVacations
    ])
    step None = record { flags = so.flags; filed = so.filed }
    step (Some _) = tt

flagged_action : (action : Action) (state : RunState) → Unit {0} → IsFlagged state → OnState IsFlagged (performed action state)
flagged_action (Keep given) state may so = marked_filed inbox given false state true state.names_inbox so
flagged_action Discard state may so = record { flags = so.flags; filed = so.filed }
flagged_action (FileInto filing) state may so = marked_filed (mailbox_named filing.mailbox) filing.flags filing.copy state state.has_kept (with_name filing.mailbox state).names_inbox so
flagged_action (Redirect redirect) state may so = flagged_sent redirect.target redirect.copy state so
flagged_action (Vacation args) state may so = flagged_reply args state so
flagged_action (SetFlag texts) state may so = record { flags = added_flags [] texts no_flags; filed = so.filed }
flagged_action (AddFlag texts) state may so = record { flags = added_flags state.flags texts so.flags; filed = so.filed }
flagged_action (RemoveFlag texts) state may so = record { flags = removed_flags state.flags texts so.flags; filed = so.filed }

pub flags_named : (truth : RunState → MailCheck → Bool) (commands : Commands) → OnDone FilesWithFlags (outcome_by truth commands)
flags_named truth commands =
    subst (OnDone FilesWithFlags) (sym (outcome_in_turn truth commands))
    (in_the_end IsFlagged FilesWithFlags (λ state so. record { named = so.filed }) (λ state so. flagged_filed inbox None true state so)
    (in_turn (actions_run truth commands) at_first)
    (kept_in_turn IsFlagged (λ action. Unit {0}) flagged_action (actions_run truth commands) (λ k other within. tt) at_first (record { flags = no_flags; filed = λ k other within. absurd (omega (arith, within)) })))
