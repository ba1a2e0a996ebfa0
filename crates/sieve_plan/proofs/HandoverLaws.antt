-- What a run makes of what was left to it.
use Rattle.std.proofs.Common.{◌≡◌, ◌≤◌, ◌&&◌, ◌||◌, ℕ, Bool, true, false, cond, List, [], ◌∷◌, ◌++◌, drop, length, map, Option, Some, None, refl, sym, ap, subst, ◌∙◌, arith}
use Rattle.std.specs.Prelude.{nat_eq, nat_lt, not}
use Rattle.std.specs.List.{filter, list_any, All, AllByRecursion, Contains, IsDistinct}
use Rattle.std.specs.Cmp.{IsEquivalence}
use Rattle.std.specs.Cmp.Lexicographic.{pointwise}
use Rattle.std.proofs.Math.Seq.{drop-append_seam}
use Rattle.std.proofs.lemmas.Bool.{ltb-true}
use Rattle.std.proofs.lemmas.Cmp.{nat_list_eq_equiv}
use Rattle.std.proofs.lemmas.List.{append-nil, append_assoc, drop-map, length-append, length-map, map-append}
use Rattle.std.proofs.lemmas.List.Elements.{All-contains_itself, All-filter, Contains-append_left, filter-append}
use Rattle.std.proofs.lemmas.Map.Keys.{IsDistinct-push}
use Rattle.std.proofs.lemmas.Slice.Eq.{bytes_eq-Decides}
use Rattle.mail_flags.specs.declared.placement.Placement.{Placement}
use Rattle.mail_address.specs.declared.address.Addr.{Addr}
use Rattle.sieve_syntax.specs.declared.tree.action.Action.{Action}
use Rattle.sieve_syntax.specs.declared.tree.action.Action.TheVariants.{Keep, Discard, FileInto, Redirect, Vacation, SetFlag, AddFlag, RemoveFlag}
use Rattle.sieve_syntax.specs.declared.tree.checks.MailCheck.{MailCheck}
use Rattle.sieve_syntax.specs.declared.extension.vacation.VacationArgs.{VacationArgs}
use Rattle.sieve_syntax.specs.RunState.{RunState, at_first, max_targets, max_mailboxes, TwoVacations, TooManyRedirects, TooManyMailboxes, TooMuchWork, Flow, Going, Stopped, Failed, and_then, inbox, mailbox_named, is_filed, with_filed, flags_given, cancelled_after, filed_into, implicit_flags, kept_implicitly, kept_with, same_target, sent_to, replied_by, with_keep, with_name, performed}
use Rattle.sieve_syntax.specs.Meaning.{TestAnswer, answered, TestAsking, asking_at, holds, all_hold, some_holds, does, chooses, does_all, Actions, Outcome, done_by, outcome_after}
use Rattle.sieve_syntax.specs.Meaning as M
use Rattle.sieve_syntax.specs.Trace.{NamesWithoutRepeats}
use Rattle.sieve_syntax.specs.Tree.{TestTree, yes, no, looks, not_of, all_of, any_of, Tests, no_tests, test, CommandTree, require, choose, stop, act, Branches, no_branches, branch, Commands, no_commands, command}
use Rattle.sieve_syntax.specs.Work.{all_take, max_work, outcome_within}
use Rattle.sieve_syntax.proofs.OutcomeLemmas.{filed_anew}
use Rattle.sieve_plan.specs.Handover.{Handover, nothing_left, begins_from, for_good, StandsAmong, filed_behind, first_reply, done_behind, without_inbox, filed_for_good, leaves, ScriptEnd, Ended, Broken, ended_with, ended_by, end_of_run}

-- ---- a run to which nothing was left

abbrev pub outcome_of : ScriptEnd → Outcome
outcome_of (Ended done next) = M.Done done
outcome_of (Broken failure) = M.Failed failure

alone_with : (at_end : RunState) (flow : Flow) → outcome_of (ended_with nothing_left at_end flow) ≡ done_by flow
alone_with at_end (Going state) = refl
alone_with at_end (Stopped state) = refl
alone_with at_end (Failed failure) = refl

alone_by : (flow : Flow) → outcome_of (ended_by nothing_left flow) ≡ outcome_after flow
alone_by (Going state) = alone_with state (kept_implicitly state)
alone_by (Stopped state) = alone_with state (kept_implicitly state)
alone_by (Failed failure) = refl

-- it is a run as it is without a sequence
pub alone : (asking : TestAsking) (work : RunState → MailCheck → ℕ) (tree : Commands)
    → outcome_of (end_of_run asking work max_work tree nothing_left) ≡ outcome_within asking work tree
alone asking work tree = step (nat_lt max_work (all_take asking work tree at_first))
  where
    step : (much : Bool) → outcome_of (cond much (Broken TooMuchWork) (ended_by nothing_left (does_all asking tree at_first)))
        ≡ cond much (M.Failed TooMuchWork) (outcome_after (does_all asking tree at_first))
    step true = refl
    step false = alone_by (does_all asking tree at_first)

-- ---- what each action and each test keeps, a script keeps

abbrev pub OnFlow : (RunState → Type 0) → Flow → Type 0
OnFlow P (Going state) = P state
OnFlow P (Stopped state) = P state
OnFlow P (Failed failure) = Unit {0}

abbrev IsKept : (RunState → Type 0) → Type 0
IsKept P = (action : Action) (state : RunState) → P state → OnFlow P (performed action state)

abbrev IsKeptByTests : (RunState → Type 0) → TestAsking → Type 0
IsKeptByTests P asking = (state : RunState) (check : MailCheck) → P state → P (asking state check).so_far

pub then_kept : (P : RunState → Type 0) (flow : Flow) (next : RunState → Flow) → OnFlow P flow → ((state : RunState) → P state → OnFlow P (next state)) → OnFlow P (and_then flow next)
then_kept P (Going state) next so keeps = keeps state so
then_kept P (Stopped state) next so keeps = so
then_kept P (Failed failure) next so keeps = tt

either_kept : (P : RunState → Type 0) (first : Bool) (one two : Flow) → OnFlow P one → OnFlow P two → OnFlow P (cond first one two)
either_kept P true one two so other = so
either_kept P false one two so other = other

either_answer : (P : RunState → Type 0) (first : Bool) (one two : TestAnswer) → P one.so_far → P two.so_far → P (cond first one two).so_far
either_answer P true one two so other = so
either_answer P false one two so other = other

module _ (P : RunState → Type 0) (asking : TestAsking) (asks : IsKeptByTests P asking) where
  mutual
    kept_by_test : (tree : TestTree) (state : RunState) → P state → P (holds asking tree state).so_far
    kept_by_test yes state so = so
    kept_by_test no state so = so
    kept_by_test (looks check) state so = asks state check so
    kept_by_test (not_of inner) state so = kept_by_test inner state so
    kept_by_test (all_of inner) state so = kept_by_each inner state so
    kept_by_test (any_of inner) state so = kept_by_some inner state so

    kept_by_each : (tests : Tests) (state : RunState) → P state → P (all_hold asking tests state).so_far
    kept_by_each no_tests state so = so
    kept_by_each (test first more) state so =
        let answer = holds asking first state in
        let still = kept_by_test first state so in
        either_answer P answer.is_held (all_hold asking more answer.so_far) (answered false answer.so_far) (kept_by_each more answer.so_far still) still

    kept_by_some : (tests : Tests) (state : RunState) → P state → P (some_holds asking tests state).so_far
    kept_by_some no_tests state so = so
    kept_by_some (test first more) state so =
        let answer = holds asking first state in
        let still = kept_by_test first state so in
        either_answer P answer.is_held (answered true answer.so_far) (some_holds asking more answer.so_far) still (kept_by_some more answer.so_far still)

  module _ (keeps : IsKept P) where
    mutual
      kept_by : (tree : CommandTree) (state : RunState) → P state → OnFlow P (does asking tree state)
      kept_by (require names) state so = so
      kept_by (choose branches) state so = kept_by_branches branches state so
      kept_by stop state so = so
      kept_by (act action) state so = keeps action state so

      kept_by_branches : (branches : Branches) (state : RunState) → P state → OnFlow P (chooses asking branches state)
      kept_by_branches no_branches state so = so
      kept_by_branches (branch condition block more) state so =
          let answer = holds asking condition state in
          let still = kept_by_test condition state so in
          either_kept P answer.is_held (does_all asking block answer.so_far) (chooses asking more answer.so_far)
          (kept_by_all block answer.so_far still) (kept_by_branches more answer.so_far still)

      pub kept_by_all : (commands : Commands) (state : RunState) → P state → OnFlow P (does_all asking commands state)
      kept_by_all no_commands state so = so
      kept_by_all (command first more) state so =
          then_kept P (does asking first state) (does_all asking more) (kept_by first state so) (λ next still. kept_by_all more next still)

-- tests change neither the copies nor the addresses, nor whether a `keep` was executed, whatever else they change
abbrev pub LeavesDeeds : TestAsking → Type 0
LeavesDeeds asking =
    (state : RunState) (check : MailCheck)
    → ((asking state check).so_far.filed ≡ state.filed) × ((asking state check).so_far.sent ≡ state.sent) × ((asking state check).so_far.has_kept ≡ state.has_kept)

-- so it is where they only look
pub looking_leaves : (truth : RunState → MailCheck → Bool) → LeavesDeeds (asking_at truth)
looking_leaves truth state check = (refl, refl, refl)

-- ---- what was left stands, and each mailbox and each address is there once

abbrev pub mailboxes_of : List Placement → List (List ℕ)
mailboxes_of filed = map (λ (one : Placement). one.mailbox) filed

-- the copies and the addresses are apart, and not too many
pub record AreApart (filed : List Placement) (sent : List Addr) : Type 0 where
  pub mailboxes : IsDistinct (pointwise nat_eq) (mailboxes_of filed)
  pub addresses : IsDistinct same_target sent
  pub few_mailboxes : length filed ≤ max_mailboxes
  pub few_addresses : length sent ≤ max_targets

-- they are, and those that were left come first
pub record Extends (left : Handover) (filed : List Placement) (sent : List Addr) : Type 0 where
  pub apart : AreApart filed sent
  pub new_mailboxes : List (List ℕ)
  pub mailboxes : mailboxes_of filed ≡ mailboxes_of left.filed ++ new_mailboxes
  pub new_addresses : List Addr
  pub addresses : sent ≡ left.sent ++ new_addresses

abbrev pub Extended : Handover → RunState → Type 0
Extended left state = Extends left state.filed state.sent

both : (a b : Bool) → (a && b) ≡ true → (a ≡ true) × (b ≡ true)
both true b is = (refl, is)
both false b is = absurd cc

target_equiv : IsEquivalence same_target
target_equiv = record {
  refl = λ a i. nat_list_eq_equiv.refl a.local i && nat_list_eq_equiv.refl a.domain i;
  symm = λ a b i. nat_list_eq_equiv.symm a.local b.local i && nat_list_eq_equiv.symm a.domain b.domain i;
  congr = λ a b c same i.
      let parts = both (pointwise nat_eq a.local b.local) (pointwise nat_eq a.domain b.domain) same in
      nat_list_eq_equiv.congr a.local b.local c.local parts.0 i && nat_list_eq_equiv.congr a.domain b.domain c.domain parts.1 i;
}

-- whichever side is asked about
turned : {K : Type 0} {eq : K → K → Bool} → IsEquivalence eq → (y : K) (xs : List K) → list_any (eq y) xs ≡ list_any (λ there. eq there y) xs
turned laws y [] = refl
turned laws y (x ∷ xs) = λ i. laws.symm y x i || turned laws y xs i

pub any_mailbox : (p : List ℕ → Bool) (filed : List Placement) → list_any p (mailboxes_of filed) ≡ list_any (λ there. p there.mailbox) filed
any_mailbox p [] = refl
any_mailbox p (one ∷ more) = λ i. p one.mailbox || any_mailbox p more i

-- where a mailbox has a copy, one more adds no mailbox
pub filed_again : (filed : List Placement) (new : Placement) → is_filed filed new.mailbox ≡ true → mailboxes_of (with_filed filed new) ≡ mailboxes_of filed
filed_again [] new is = absurd (cc is)
filed_again (there ∷ more) new is = step (filed_again more new) (pointwise nat_eq there.mailbox new.mailbox) refl is
  where
    step : (is_filed more new.mailbox ≡ true → mailboxes_of (with_filed more new) ≡ mailboxes_of more) → (same : Bool) → pointwise nat_eq there.mailbox new.mailbox ≡ same
        → (same || is_filed more new.mailbox) ≡ true → mailboxes_of (cond same (new ∷ more) (there ∷ with_filed more new)) ≡ there.mailbox ∷ mailboxes_of more
    step later true same is = ap (λ (l : List ℕ). l ∷ mailboxes_of more) (sym ((bytes_eq-Decides there.mailbox new.mailbox).0 same))
    step later false same is = ap (λ l. there.mailbox ∷ l) (later is)

module _ (left : Handover) (filed : List Placement) (sent : List Addr) (so : Extends left filed sent) where
  extended_again : (new : Placement) → is_filed filed new.mailbox ≡ true → Extends left (with_filed filed new) sent
  extended_again new is =
      let same = filed_again filed new is in
      let long = length-map (with_filed filed new) (λ (one : Placement). one.mailbox) in
      let was = length-map filed (λ (one : Placement). one.mailbox) in
      record {
        apart = record {
          mailboxes = subst (IsDistinct (pointwise nat_eq)) (sym same) so.apart.mailboxes;
          addresses = so.apart.addresses;
          few_mailboxes = omega (arith, ap length same, long, was, so.apart.few_mailboxes);
          few_addresses = so.apart.few_addresses;
        };
        new_mailboxes = so.new_mailboxes;
        mailboxes = same ∙ so.mailboxes;
        new_addresses = so.new_addresses;
        addresses = so.addresses;
      }

  extended_anew : (new : Placement) → nat_lt (length filed) max_mailboxes ≡ true → is_filed filed new.mailbox ≡ false → Extends left (with_filed filed new) sent
  extended_anew new free is =
      let longer = filed_anew filed new is in
      let named = ap mailboxes_of longer ∙ map-append (λ (one : Placement). one.mailbox) filed (new ∷ []) in
      let long = length-append filed (new ∷ []) in
      let low = ltb-true (length filed) max_mailboxes free in
      record {
        apart = record {
          mailboxes =
              subst (IsDistinct (pointwise nat_eq)) (sym named)
              (IsDistinct-push nat_list_eq_equiv (mailboxes_of filed) new.mailbox so.apart.mailboxes
              (turned nat_list_eq_equiv new.mailbox (mailboxes_of filed) ∙ any_mailbox (λ there. pointwise nat_eq there new.mailbox) filed ∙ is));
          addresses = so.apart.addresses;
          few_mailboxes = omega (arith, ap length longer, long, low);
          few_addresses = so.apart.few_addresses;
        };
        new_mailboxes = so.new_mailboxes ++ new.mailbox ∷ [];
        mailboxes = named ∙ (ap (λ l. l ++ new.mailbox ∷ []) so.mailboxes ∙ append_assoc (mailboxes_of left.filed) so.new_mailboxes (new.mailbox ∷ []));
        new_addresses = so.new_addresses;
        addresses = so.addresses;
      }

  extended_sent : (target : Addr) → nat_lt (length sent) max_targets ≡ true → list_any (λ there. same_target there target) sent ≡ false → Extends left filed (sent ++ target ∷ [])
  extended_sent target free is =
      let long = length-append sent (target ∷ []) in
      let low = ltb-true (length sent) max_targets free in
      record {
        apart = record {
          mailboxes = so.apart.mailboxes;
          addresses = IsDistinct-push target_equiv sent target so.apart.addresses (turned target_equiv target sent ∙ is);
          few_mailboxes = so.apart.few_mailboxes;
          few_addresses = omega arith;
        };
        new_mailboxes = so.new_mailboxes;
        mailboxes = so.mailboxes;
        new_addresses = so.new_addresses ++ target ∷ [];
        addresses = ap (λ l. l ++ target ∷ []) so.addresses ∙ append_assoc left.sent so.new_addresses (target ∷ []);
      }

filed_extends : (left : Handover) (mailbox flags : List ℕ) (copy : Bool) (state : RunState) → Extended left state → OnFlow (Extended left) (filed_into mailbox flags copy state)
filed_extends left mailbox flags copy state so = step (nat_lt (length state.filed) max_mailboxes) (is_filed state.filed mailbox) refl refl
  where
    step : (room there : Bool) → nat_lt (length state.filed) max_mailboxes ≡ room → is_filed state.filed mailbox ≡ there
        → OnFlow (Extended left) (cond (room || there) (Going (record state { filed = with_filed state.filed (record { mailbox = mailbox; flags = flags }); cancelled = cancelled_after copy state })) (Failed TooManyMailboxes))
    step true true free is = extended_again left state.filed state.sent so (record { mailbox = mailbox; flags = flags }) is
    step false true free is = extended_again left state.filed state.sent so (record { mailbox = mailbox; flags = flags }) is
    step true false free is = extended_anew left state.filed state.sent so (record { mailbox = mailbox; flags = flags }) free is
    step false false free is = tt

sent_extends : (left : Handover) (target : Addr) (copy : Bool) (state : RunState) → Extended left state → OnFlow (Extended left) (sent_to target copy state)
sent_extends left target copy state so = step (list_any (λ there. same_target there target) state.sent) (nat_lt (length state.sent) max_targets) refl refl
  where
    step : (there room : Bool) → list_any (λ there. same_target there target) state.sent ≡ there → nat_lt (length state.sent) max_targets ≡ room
        → OnFlow (Extended left) (cond there (Going (record state { cancelled = cancelled_after copy state })) (cond room (Going (record state { sent = state.sent ++ target ∷ []; cancelled = cancelled_after copy state })) (Failed TooManyRedirects)))
    step true room is free = so
    step false false is free = tt
    step false true is free = extended_sent left state.filed state.sent so target free is

replied_extends : (left : Handover) (args : VacationArgs) (state : RunState) → Extended left state → OnFlow (Extended left) (replied_by args state)
replied_extends left args state so = step state.reply
  where
    step : (reply : Option VacationArgs) → OnFlow (Extended left) (elim reply [
      | None ↦ Going (record state { reply = Some args })
      | Some _ ↦ Failed TwoVacations
    ])
    step None = so
    step (Some _) = tt

pub extends : (left : Handover) (action : Action) (state : RunState) → Extended left state → OnFlow (Extended left) (performed action state)
extends left (Keep given) state so = filed_extends left inbox (flags_given given state) false (with_keep state) so
extends left Discard state so = so
extends left (FileInto filing) state so = filed_extends left (mailbox_named filing.mailbox) (flags_given filing.flags state) filing.copy (with_name filing.mailbox state) so
extends left (Redirect redirect) state so = sent_extends left redirect.target redirect.copy state so
extends left (Vacation args) state so = replied_extends left args state so
extends left (SetFlag texts) state so = so
extends left (AddFlag texts) state so = so
extends left (RemoveFlag texts) state so = so

-- ---- lists of copies

-- what is filed behind others goes into the mailboxes that the run filed into
pub same_mailboxes : (before filed : List Placement) (rest : List (List ℕ)) → mailboxes_of filed ≡ mailboxes_of before ++ rest → mailboxes_of (filed_behind before filed) ≡ mailboxes_of filed
same_mailboxes before filed rest is =
    let f : Placement → List ℕ = λ one. one.mailbox in
    let long = length-map before f in
    map-append f before (drop (length before) filed)
    ∙ ap (λ l. mailboxes_of before ++ l)
    (sym (drop-map f (length before) filed)
    ∙ (ap (drop (length before)) is ∙ (ap (λ n. drop n (mailboxes_of before ++ rest)) (sym long) ∙ drop-append_seam (mailboxes_of before) rest)))
    ∙ sym is

same_length : (before filed : List Placement) (rest : List (List ℕ)) → mailboxes_of filed ≡ mailboxes_of before ++ rest → length (filed_behind before filed) ≡ length filed
same_length before filed rest is =
    let f : Placement → List ℕ = λ one. one.mailbox in
    sym (length-map (filed_behind before filed) f) ∙ (ap length (same_mailboxes before filed rest is) ∙ length-map filed f)

-- without INBOX there are no more, and they are apart still
passed_all : (p : Placement → Bool) (P : List ℕ → Type 0) (filed : List Placement) → AllByRecursion P (mailboxes_of filed) → AllByRecursion P (mailboxes_of (filter p filed))
passed_all p P [] all = tt
passed_all p P (one ∷ more) (so, all) = step (p one) (passed_all p P more all)
  where
    step : (passes : Bool) → AllByRecursion P (mailboxes_of (filter p more)) → AllByRecursion P (mailboxes_of (cond passes (one ∷ filter p more) (filter p more)))
    step true rest = (so, rest)
    step false rest = rest

passed_apart : (p : Placement → Bool) (filed : List Placement) → IsDistinct (pointwise nat_eq) (mailboxes_of filed) → IsDistinct (pointwise nat_eq) (mailboxes_of (filter p filed))
unfolding IsDistinct
passed_apart p [] apart = tt
passed_apart p (one ∷ more) (new, apart) = step (p one) (passed_all p (λ other. pointwise nat_eq one.mailbox other ≡ false) more new) (passed_apart p more apart)
  where
    step : (passes : Bool) → AllByRecursion (λ other. pointwise nat_eq one.mailbox other ≡ false) (mailboxes_of (filter p more)) → IsDistinct (pointwise nat_eq) (mailboxes_of (filter p more))
        → IsDistinct (pointwise nat_eq) (mailboxes_of (cond passes (one ∷ filter p more) (filter p more)))
    step true others rest = (others, rest)
    step false others rest = rest

no_more : (p : Placement → Bool) (filed : List Placement) → length (filter p filed) ≤ length filed
no_more p [] = omega arith
no_more p (one ∷ more) = let rest = no_more p more in step (p one) rest
  where
    step : (passes : Bool) → length (filter p more) ≤ length more → length (cond passes (one ∷ filter p more) (filter p more)) ≤ length (one ∷ more)
    step true low = omega (arith, low)
    step false low = omega (arith, low)

-- where INBOX has no copy, none goes
all_others : (filed : List Placement) → is_filed filed inbox ≡ false → without_inbox filed ≡ filed
all_others [] is = refl
all_others (there ∷ more) is = step (pointwise nat_eq there.mailbox inbox) is (all_others more)
  where
    step : (same : Bool) → (same || is_filed more inbox) ≡ false → (is_filed more inbox ≡ false → without_inbox more ≡ more)
        → cond (not same) (there ∷ without_inbox more) (without_inbox more) ≡ there ∷ more
    step true is later = absurd (cc is)
    step false is later = ap (λ l. there ∷ l) (later is)

all_before : {X : Type 0} (before more : List X) → All (Contains (before ++ more)) before
all_before before more = λ k d below. Contains-append_left before more _ (All-contains_itself before k d below)

-- ---- a run that ends

pub none_new : (left : Handover) → AreApart left.filed left.sent → Extends left left.filed left.sent
none_new left apart = record { apart = apart; new_mailboxes = []; mailboxes = sym (append-nil (mailboxes_of left.filed)); new_addresses = []; addresses = sym (append-nil left.sent) }

reply_stands : (one later : Option VacationArgs) (args : VacationArgs) → one ≡ Some args → first_reply one later ≡ Some args
reply_stands None later args is = absurd (cc is)
reply_stands (Some first) later args is = is

either_false : (a b : Bool) → (a || b) ≡ false → a ≡ false
either_false true b is = is
either_false false b is = refl

module _ (left : Handover) (kept : RunState) (so : Extends left kept.filed kept.sent) where
  stands_behind : StandsAmong (for_good left) (done_behind left kept)
  stands_behind = record {
    filed = all_before left.filed (drop (length left.filed) kept.filed);
    sent = subst (λ l. All (Contains l) left.sent) (sym so.addresses) (all_before left.sent so.new_addresses);
    reply = reply_stands left.reply kept.reply;
  }

  once_behind : NamesWithoutRepeats (done_behind left kept)
  once_behind =
      let long = same_length left.filed kept.filed so.new_mailboxes so.mailboxes in
      record {
        mailboxes = subst (IsDistinct (pointwise nat_eq)) (sym (same_mailboxes left.filed kept.filed so.new_mailboxes so.mailboxes)) so.apart.mailboxes;
        addresses = so.apart.addresses;
        few_mailboxes = omega (arith, long, so.apart.few_mailboxes);
        few_addresses = so.apart.few_addresses;
      }

-- what is for good, given whether INBOX is among it: it is apart, it is done, and what was left is among it
for_good_apart : (named : Bool) (done : Actions) → NamesWithoutRepeats done → AreApart (filed_for_good named done.filed) done.sent
for_good_apart true done once = record { mailboxes = once.mailboxes; addresses = once.addresses; few_mailboxes = once.few_mailboxes; few_addresses = once.few_addresses }
for_good_apart false done once =
    let low = no_more (λ there. not (pointwise nat_eq there.mailbox inbox)) done.filed in
    record {
      mailboxes = passed_apart (λ there. not (pointwise nat_eq there.mailbox inbox)) done.filed once.mailboxes;
      addresses = once.addresses;
      few_mailboxes = omega (arith, low, once.few_mailboxes);
      few_addresses = once.few_addresses;
    }

for_good_done : (named : Bool) (filed : List Placement) → All (Contains filed) (filed_for_good named filed)
for_good_done true filed = All-contains_itself filed
for_good_done false filed = All-filter (λ there. not (pointwise nat_eq there.mailbox inbox)) (Contains filed) filed (All-contains_itself filed)

left_for_good : (before more : List Placement) (other : Bool) → All (Contains (filed_for_good (is_filed before inbox || other) (before ++ more))) before
left_for_good before more other = step (is_filed before inbox || other) refl
  where
    step : (named : Bool) → (is_filed before inbox || other) ≡ named → All (Contains (filed_for_good named (before ++ more))) before
    step true is = all_before before more
    step false is =
        let p : Placement → Bool = λ there. not (pointwise nat_eq there.mailbox inbox) in
        let same : without_inbox (before ++ more) ≡ before ++ without_inbox more = filter-append p before more ∙ ap (λ l. l ++ without_inbox more) (all_others before (either_false (is_filed before inbox) other is)) in
        subst (λ l. All (Contains l) before) (sym same) (all_before before (without_inbox more))

-- what is so of a run that ended: what was left stands in what is done, and in what is left; that is done too; each mailbox and each
-- address is there once
pub record IsGoodEnd (left : Handover) (done : Actions) (next : Handover) : Type 0 where
  pub stands : StandsAmong (for_good left) done
  pub stays : StandsAmong (for_good left) (for_good next)
  pub is_done : StandsAmong (for_good next) done
  pub once : NamesWithoutRepeats done
  pub apart : AreApart next.filed next.sent

abbrev pub OnEnded : (Actions → Handover → Type 0) → ScriptEnd → Type 0
OnEnded P (Ended done next) = P done next
OnEnded P (Broken failure) = Unit {0}

good_leaves : (left : Handover) (at_end kept : RunState) → Extended left kept → IsGoodEnd left (done_behind left kept) (leaves left at_end (done_behind left kept))
good_leaves left at_end kept so =
    let named = at_end.names_inbox in
    let stands = stands_behind left kept so in
    record {
      stands = stands;
      stays = record { filed = left_for_good left.filed (drop (length left.filed) kept.filed) named; sent = stands.sent; reply = stands.reply };
      is_done = record {
        filed = for_good_done (is_filed left.filed inbox || named) (filed_behind left.filed kept.filed);
        sent = All-contains_itself kept.sent;
        reply = λ args is. is;
      };
      once = once_behind left kept so;
      apart = for_good_apart (is_filed left.filed inbox || named) (done_behind left kept) (once_behind left kept so);
    }

good_with : (left : Handover) (at_end : RunState) (flow : Flow) → OnFlow (Extended left) flow → OnEnded (IsGoodEnd left) (ended_with left at_end flow)
good_with left at_end (Going kept) so = good_leaves left at_end kept so
good_with left at_end (Stopped kept) so = good_leaves left at_end kept so
good_with left at_end (Failed failure) so = tt

pub implicit_extends : (left : Handover) (at_end : RunState) → Extended left at_end → OnFlow (Extended left) (kept_with left.keep_flags at_end)
implicit_extends left at_end so = step at_end.cancelled (filed_extends left inbox (implicit_flags left.keep_flags at_end) true at_end so)
  where
    step : (cancelled : Bool) → OnFlow (Extended left) (filed_into inbox (implicit_flags left.keep_flags at_end) true at_end)
        → OnFlow (Extended left) (cond cancelled (Going at_end) (filed_into inbox (implicit_flags left.keep_flags at_end) true at_end))
    step true keeps = so
    step false keeps = keeps

good_by : (left : Handover) (flow : Flow) → OnFlow (Extended left) flow → OnEnded (IsGoodEnd left) (ended_by left flow)
good_by left (Going at_end) so = good_with left at_end (kept_with left.keep_flags at_end) (implicit_extends left at_end so)
good_by left (Stopped at_end) so = good_with left at_end (kept_with left.keep_flags at_end) (implicit_extends left at_end so)
good_by left (Failed failure) so = tt

module _ (asking : TestAsking) (leaves_deeds : LeavesDeeds asking) where
  pub tests_extend : (left : Handover) → IsKeptByTests (Extended left) asking
  tests_extend left state check so =
      let same = leaves_deeds state check in
      subst (Extends left (asking state check).so_far.filed) (sym same.1) (subst (λ filed. Extends left filed state.sent) (sym same.0) so)

  module _ (work : RunState → MailCheck → ℕ) (most : ℕ) (tree : Commands) (left : Handover) (apart : AreApart left.filed left.sent) where
    pub run_extends : OnFlow (Extended left) (does_all asking tree (begins_from left))
    run_extends = kept_by_all (Extended left) asking (tests_extend left) (extends left) tree (begins_from left) (none_new left apart)

    good_run : OnEnded (IsGoodEnd left) (end_of_run asking work most tree left)
    good_run = step (nat_lt most (all_take asking work tree (begins_from left)))
      where
        step : (much : Bool) → OnEnded (IsGoodEnd left) (cond much (Broken TooMuchWork) (ended_by left (does_all asking tree (begins_from left))))
        step true = tt
        step false = good_by left (does_all asking tree (begins_from left)) run_extends

    pub good_end : (done : Actions) (next : Handover) → end_of_run asking work most tree left ≡ Ended done next → IsGoodEnd left done next
    good_end done next is = subst (OnEnded (IsGoodEnd left)) is good_run
