-- Steps, by what comes first in the unread octets.
use Rattle.std.proofs.Common.{◌≡◌, ℕ, Bool, false, not, ◌&&◌, List, [], ◌++◌, Result, Ok, Err, MatchBool, refl, sym, ap, ◌∙◌, subst}
use Rattle.std.specs.Prelude.{OnErr}
use Rattle.std.proofs.lemmas.List.{append-nil}
use Rattle.managesieve_protocol.specs.declared.items.ClientItem.{ClientItem}
use Rattle.managesieve_protocol.specs.declared.items.ItemExtent.{ItemExtent}
use Rattle.managesieve_protocol.specs.declared.items.ItemExtent.TheVariants as reach
use Rattle.managesieve_protocol.specs.Replies.{reply_octets}
use Rattle.managesieve_protocol.specs.Values.{item_at}
use Rattle.store_accounts.specs.Account.{Accounts}
use Rattle.managesieve_sessions.specs.declared.progress.Progress.{Progress}
use Rattle.managesieve_sessions.specs.declared.progress.Progress.TheVariants.{Need, Done, Close}
use Rattle.managesieve_sessions.specs.Clients.{Client, reach_in, item_in, is_command, without_first, shut}
use Rattle.managesieve_sessions.specs.Replies.{syntax, too_big}
use Rattle.managesieve_sessions.specs.Steps.{StepAnswers, StepsAt, IsStep, StepsOver, has_command, asks_memory, may_lack}

pub on_err : {X E P : Type 0} (r : Result X E) → P → OnErr r P
on_err (Ok x) p = tt
on_err (Err e) p = p

-- a step of a session that hasn't ended, by its first item
pub step_at : (accounts : Accounts) (c : Client) (i : ClientItem) (progress : Progress) (octets : List ℕ) (d : Client) (later : Accounts) → c.closed ≡ false → item_in c ≡ i → StepsAt accounts c i progress octets d later → IsStep accounts c progress octets d later
step_at accounts c i progress octets d later live is h =
    subst (λ (b : Bool). MatchBool b (StepAnswers accounts Close [] c progress octets d later) (StepsAt accounts c (item_in c) progress octets d later)) (sym live)
    (subst (λ (j : ClientItem). StepsAt accounts c j progress octets d later) (sym is) h)

item_of_reach : (c : Client) (r : ItemExtent) → r ≡ reach_in c → item_in c ≡ item_at c.pending c.unread r
item_of_reach c r is = ap (item_at c.pending c.unread) (sym is)

pub need_over : (c : Client) (r : ItemExtent) (out : List ℕ) → c.closed ≡ false → r ≡ reach_in c → r ≡ reach.Need → StepsOver c c Need out out
need_over c r out live is need = record {
  octets = [];
  written = sym (append-nil out);
  step = λ accounts. step_at accounts c _ Need [] c accounts live (item_of_reach c reach.Need (sym need ∙ is)) (refl, refl, refl, refl);
}

pub bad_over : (c d : Client) (r : ItemExtent) (used : ℕ) (before later : List ℕ) → c.closed ≡ false → r ≡ reach_in c → r ≡ reach.Bad used
    → d ≡ without_first false (reach_in c) c → later ≡ before ++ reply_octets syntax → StepsOver c d Done before later
bad_over c d r used before later live is bad off written = record {
  octets = reply_octets syntax;
  written = written;
  step = λ accounts. step_at accounts c _ Done (reply_octets syntax) d accounts live (item_of_reach c (reach.Bad used) (sym bad ∙ is))
      (refl, refl, off ∙ ap (λ (q : ItemExtent). without_first false q c) (sym is ∙ bad), refl);
}

pub big_over : (c d : Client) (r : ItemExtent) (before later : List ℕ) → c.closed ≡ false → r ≡ reach_in c → r ≡ reach.TooBig
    → d ≡ shut c → later ≡ before ++ reply_octets too_big → StepsOver c d Close before later
big_over c d r before later live is big ends written = record {
  octets = reply_octets too_big;
  written = written;
  step = λ accounts. step_at accounts c _ Close (reply_octets too_big) d accounts live (item_of_reach c reach.TooBig (sym big ∙ is)) (refl, refl, ends, refl);
}

pub has_by : (c : Client) (r q : ItemExtent) → c.closed ≡ false → r ≡ reach_in c → r ≡ q → is_command q ≡ has_command c
has_by c r q live is at = ap is_command (sym at ∙ is) ∙ sym (ap (λ (b : Bool). not b && is_command (reach_in c)) live)

pub lacks_by : (c : Client) (r q : ItemExtent) → c.closed ≡ false → r ≡ reach_in c → r ≡ q → asks_memory (item_at c.pending c.unread q) ≡ may_lack c
lacks_by c r q live is at = ap asks_memory (ap (item_at c.pending c.unread) (sym at ∙ is)) ∙ sym (ap (λ (b : Bool). not b && asks_memory (item_in c)) live)
