-- What becomes of a session, by what comes first in its unread octets.
use Rattle.std.proofs.Common.{◌≡◌, ℕ, Bool, true, false, not, cond, ◌⊎◌, List, [], drop, refl, sym, ap, ◌∙◌, subst, inl, inr}
use Rattle.managesieve_protocol.specs.declared.items.ItemExtent.{ItemExtent}
use Rattle.managesieve_protocol.specs.declared.items.ItemExtent.TheVariants.{Need, Command, Bad, TooBig}
use Rattle.managesieve_protocol.specs.Replies.{reply_octets}
use Rattle.managesieve_protocol.specs.Scanning.{ItemEndsAt, is_reached}
use Rattle.managesieve_sessions.specs.Clients.{Client, reach_in, is_item, is_ready, without_first}
use Rattle.managesieve_sessions.specs.Counts.{SessionView, looked_in, scanned_past}
use Rattle.managesieve_sessions.specs.GivenUp.{text_by, client_by, text_given_up, client_given_up, progress_by, progress_given_up}
use Rattle.managesieve_sessions.specs.declared.progress.Progress.TheVariants as p
use Rattle.managesieve_sessions.specs.Replies.{try_later}

-- an item of that many octets was reached
abbrev pub IsItem : ℕ → ItemExtent → Type 0
IsItem used (Command count) = count ≡ used
IsItem used (Bad count) = count ≡ used
IsItem used _ = ⊥

pub item_either : (r : ItemExtent) (used count : ℕ) → (r ≡ Command count) ⊎ (r ≡ Bad count) → used ≡ count → IsItem used r
item_either r used count (inl is) same = subst (IsItem used) (sym is) (sym same)
item_either r used count (inr is) same = subst (IsItem used) (sym is) (sym same)

pub item_ends : (r : ItemExtent) (used looked : ℕ) → IsItem used r → ItemEndsAt r looked → used ≡ looked
item_ends Need used looked i e = absurd i
item_ends (Command count) used looked i e = sym i ∙ e
item_ends (Bad count) used looked i e = sym i ∙ e
item_ends TooBig used looked i e = absurd i

-- the first item is taken off
pub taken_off : (pending : Bool) (r : ItemExtent) (used : ℕ) (c v : Client) (rest : List ℕ) → c ≡ v → r ≡ reach_in c → IsItem used r → rest ≡ drop used c.unread
    → record c { unread = rest; pending = pending } ≡ without_first pending (reach_in v) v
taken_off pending r used c v rest same is item off =
    subst (λ (d : Client). record c { unread = rest; pending = pending } ≡ without_first pending (reach_in d) d) same
    (subst (λ (q : ItemExtent). record c { unread = rest; pending = pending } ≡ without_first pending q c) is (by r item))
  where
    by : (r : ItemExtent) → IsItem used r → record c { unread = rest; pending = pending } ≡ without_first pending r c
    by Need i = absurd i
    by (Command count) i = ap (λ (u : List ℕ). record c { unread = u; pending = pending }) (off ∙ ap (λ (n : ℕ). drop n c.unread) (sym i))
    by (Bad count) i = ap (λ (u : List ℕ). record c { unread = u; pending = pending }) (off ∙ ap (λ (n : ℕ). drop n c.unread) (sym i))
    by TooBig i = absurd i

pub none_off : (pending : Bool) (r : ItemExtent) (c : Client) → r ≡ reach_in c → ((count : ℕ) → r ≡ Command count → ⊥) → ((count : ℕ) → r ≡ Bad count → ⊥) → c ≡ without_first pending (reach_in c) c
none_off pending r c is command bad = subst (λ (q : ItemExtent). c ≡ without_first pending q c) is (by r command bad)
  where
    by : (r : ItemExtent) → ((count : ℕ) → r ≡ Command count → ⊥) → ((count : ℕ) → r ≡ Bad count → ⊥) → c ≡ without_first pending r c
    by Need f g = refl
    by (Command count) f g = absurd (f count refl)
    by (Bad count) f g = absurd (g count refl)
    by TooBig f g = refl

-- ---- the count of the scans before

pub no_item : (r : ItemExtent) → ((count : ℕ) → r ≡ Command count → ⊥) → ((count : ℕ) → r ≡ Bad count → ⊥) → is_item r ≡ false
no_item Need f g = refl
no_item (Command count) f g = absurd (f count refl)
no_item (Bad count) f g = absurd (g count refl)
no_item TooBig f g = refl

pub some_item : (r : ItemExtent) (used : ℕ) → IsItem used r → is_item r ≡ true
some_item Need used i = absurd i
some_item (Command count) used i = refl
some_item (Bad count) used i = refl
some_item TooBig used i = absurd i

pub scanned_same : (s : SessionView) (r : ItemExtent) → r ≡ reach_in s.client → is_item r ≡ false → s.scanned ≡ scanned_past s
scanned_same s r is none = sym (ap (λ (b : Bool). cond b (looked_in s) s.scanned) (ap is_item (sym is) ∙ none))

pub scanned_more : (s : SessionView) (r : ItemExtent) → r ≡ reach_in s.client → is_item r ≡ true → looked_in s ≡ scanned_past s
scanned_more s r is some = sym (ap (λ (b : Bool). cond b (looked_in s) s.scanned) (ap is_item (sym is) ∙ some))

-- ---- ready, and giving up

pub ready_by : (c : Client) (r : ItemExtent) (m : Bool) → c.closed ≡ false → r ≡ reach_in c → ((r ≡ Need) × (m ≡ true)) ⊎ ((r ≡ Need → ⊥) × (m ≡ false)) → not m ≡ is_ready c
ready_by c r m live is (inl need) =
    let none : is_reached (reach_in c) ≡ false = ap is_reached (sym is ∙ need.0) in
    rw (live, none, need.1) refl
ready_by c r m live is (inr some) =
    let whole : is_reached (reach_in c) ≡ true = ap is_reached (sym is) ∙ by r some.0 in
    rw (live, whole, some.1) refl
  where
    by : (r : ItemExtent) → (r ≡ Need → ⊥) → is_reached r ≡ true
    by Need f = absurd (f refl)
    by (Command count) f = refl
    by (Bad count) f = refl
    by TooBig f = refl

pub given_up_text : (c : Client) (r : ItemExtent) → c.closed ≡ false → r ≡ reach_in c → text_by r ≡ text_given_up c
given_up_text c r live is = ap text_by is ∙ sym (ap (λ (b : Bool). cond b [] (text_by (reach_in c))) live)

pub given_up_client : (c : Client) (r : ItemExtent) → c.closed ≡ false → r ≡ reach_in c → client_by r c ≡ client_given_up c
given_up_client c r live is = ap (λ (q : ItemExtent). client_by q c) is ∙ sym (ap (λ (b : Bool). cond b c (client_by (reach_in c) c)) live)

pub given_up_progress : (c : Client) (r : ItemExtent) → c.closed ≡ false → r ≡ reach_in c → progress_by r ≡ progress_given_up c
given_up_progress c r live is = ap progress_by is ∙ sym (ap (λ (b : Bool). cond b p.Close (progress_by (reach_in c))) live)

pub item_progress : (r : ItemExtent) → (r ≡ Need → ⊥) → (r ≡ TooBig → ⊥) → p.Done ≡ progress_by r
item_progress Need f g = absurd (f refl)
item_progress (Command count) f g = refl
item_progress (Bad count) f g = refl
item_progress TooBig f g = absurd (g refl)

pub item_text : (r : ItemExtent) → (r ≡ Need → ⊥) → (r ≡ TooBig → ⊥) → reply_octets try_later ≡ text_by r
item_text Need f g = absurd (f refl)
item_text (Command count) f g = refl
item_text (Bad count) f g = refl
item_text TooBig f g = absurd (g refl)

pub item_client : (r : ItemExtent) (c : Client) → (r ≡ Need → ⊥) → (r ≡ TooBig → ⊥) → without_first false r c ≡ client_by r c
item_client Need c f g = absurd (f refl)
item_client (Command count) c f g = refl
item_client (Bad count) c f g = refl
item_client TooBig c f g = absurd (g refl)
