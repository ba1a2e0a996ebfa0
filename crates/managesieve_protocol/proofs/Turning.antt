-- A scan, as the code turns it.
use Rattle.std.proofs.Common.{◌≡◌, ℕ, zero, suc, ◌+◌, ◌-◌, ◌<◌, ◌≤◌, Bool, true, false, ◌||◌, ◌&&◌, ◌==◌, cond, List, [], ◌∷◌, length, refl, sym, ap, ◌∙◌, subst, arith}
use Rattle.std.specs.Prelude.{nat_lt, fold}
use Rattle.std.proofs.lemmas.Bool.{ltb-false, le-ltb, or_parts}
use Rattle.std.proofs.lemmas.List.{nil_from_length}
use Rattle.managesieve_protocol.specs.declared.items.ItemExtent.{ItemExtent}
use Rattle.managesieve_protocol.specs.declared.items.ItemExtent.TheVariants.{Need, Command, Bad, TooBig}
use Rattle.managesieve_protocol.specs.declared.state.State as code
use Rattle.managesieve_protocol.specs.declared.state.State.TheVariants as code_state
use Rattle.managesieve_protocol.specs.declared.command_name.Params as code_params
use Rattle.managesieve_protocol.specs.Machine.{Params, LineState, Between, Body, literal_left, step, is_large, ends_command, is_dead, weight, quoted_room}
use Rattle.managesieve_protocol.specs.Scanning.{Scanned, Open, Found, scan_step, found, literal_rest, ItemEndsAt}
use Rattle.managesieve_protocol.specs.Shown.{shown_state, params_shown, scan_shown, ending}
use Rattle.managesieve_protocol.proofs.Runs.{left-suc}
use Rattle.managesieve_protocol.proofs.Rooms.{room-step}

-- ---- one octet

tests : (a b d : Bool) (k : ℕ) (o : Scanned) (r : ItemExtent) → r ≡ cond a TooBig (cond b (Command k) (cond d (Bad k) Need)) → (r ≡ Need → cond a (Found TooBig) (cond b (Found (Command k)) (cond d (Found (Bad k)) o)) ≡ o) × ((r ≡ Need → ⊥) → cond a (Found TooBig) (cond b (Found (Command k)) (cond d (Found (Bad k)) o)) ≡ Found r)
tests true b d k o r e = ((λ n. absurd (let both : Need ≡ TooBig = sym n ∙ e in cc)), (λ n. ap Found (sym e)))
tests false true d k o r e = ((λ n. absurd (let both : Need ≡ Command k = sym n ∙ e in cc)), (λ n. ap Found (sym e)))
tests false false true k o r e = ((λ n. absurd (let both : Need ≡ Bad k = sym n ∙ e in cc)), (λ n. ap Found (sym e)))
tests false false false k o r e = ((λ n. refl), (λ n. absurd (n e)))

turned_open : (s : LineState) (n k x : ℕ) (r : ItemExtent) → r ≡ ending s (n + weight s) (k + 1) x → (r ≡ Need → scan_step (Open s n k) x ≡ Open (step s x) (n + weight s) (k + 1)) × ((r ≡ Need → ⊥) → scan_step (Open s n k) x ≡ Found r)
turned_open s n k x r e =
    tests (nat_lt 8192 (n + weight s) || (is_large s && x == 10)) (ends_command (step s x)) (is_dead (step s x) && x == 10) (k + 1) (Open (step s x) (n + weight s) (k + 1)) r e

nothing_big : (a : Bool) (b d : Bool) (k : ℕ) → cond a TooBig (cond b (Command k) (cond d (Bad k) Need)) ≡ Need → a ≡ false
nothing_big true b d k e = absurd (let both : TooBig ≡ Need = e in cc)
nothing_big false b d k e = refl

-- what ends, ends with the octet
pub ends_here : (s : LineState) (n k x : ℕ) (r : ItemExtent) → r ≡ ending s n k x → ItemEndsAt r k
ends_here s n k x r e =
    subst (λ (q : ItemExtent). ItemEndsAt q k) (sym e)
    (one_of (nat_lt 8192 n || (is_large s && x == 10)) (ends_command (step s x)) (is_dead (step s x) && x == 10))
  where
    one_of : (a b d : Bool) → ItemEndsAt (cond a TooBig (cond b (Command k) (cond d (Bad k) Need))) k
    one_of true b d = tt
    one_of false true d = refl
    one_of false false true = refl
    one_of false false false = tt

-- where nothing came first, nothing ended
pub nothing_ends : (r : ItemExtent) (k : ℕ) → r ≡ Need → ItemEndsAt r k
nothing_ends r k e = subst (λ (q : ItemExtent). ItemEndsAt q k) (sym e) tt

-- where nothing ends, the bounds stay
pub bounds_stay : (s t : LineState) (n w m k x : ℕ) (r : ItemExtent) → w ≡ weight s → t ≡ step s x → r ≡ ending s (n + w) m x → r ≡ Need → k + quoted_room s ≤ n + 2097152 → (n + w ≤ 8192) × (k + 1 + quoted_room t ≤ n + w + 2097152)
bounds_stay s t n w m k x r weighs next e need bound =
    let none = nothing_big (nat_lt 8192 (n + w) || (is_large s && x == 10)) (ends_command (step s x)) (is_dead (step s x) && x == 10) m (sym e ∙ need) in
    let parts = or_parts (nat_lt 8192 (n + w)) (is_large s && x == 10) none in
    let less : quoted_room t + 1 ≤ quoted_room s + w = rw (next, weighs) (room-step s x parts.1) in
    (ltb-false 8192 (n + w) parts.0, omega arith)

open_need : (st : code.State) (o u : ℕ) (r : ItemExtent) → found (scan_shown st o u r) ≡ Need → r ≡ Need
open_need st o u Need e = refl
open_need st o u (Command k) e = e
open_need st o u (Bad k) e = e
open_need st o u TooBig e = e

pub shown_reach : (st : code.State) (o u : ℕ) (r : ItemExtent) (sc : Scanned) → scan_shown st o u r ≡ sc → r ≡ found sc
shown_reach st o u r sc is = kept r ∙ ap found is
  where
    kept : (r : ItemExtent) → r ≡ found (scan_shown st o u r)
    kept Need = refl
    kept (Command k) = refl
    kept (Bad k) = refl
    kept TooBig = refl

pub shown_found : (st : code.State) (o u : ℕ) (r : ItemExtent) → (r ≡ Need → ⊥) → scan_shown st o u r ≡ Found r
shown_found st o u Need some = absurd (some refl)
shown_found st o u (Command k) some = refl
shown_found st o u (Bad k) some = refl
shown_found st o u TooBig some = refl

pub is_open : (st : code.State) (o u : ℕ) (r : ItemExtent) (sc : Scanned) → scan_shown st o u r ≡ sc → found sc ≡ Need → (r ≡ Need) × (sc ≡ Open (shown_state st) o u)
is_open st o u r sc e need =
    let at : r ≡ Need = open_need st o u r (ap found e ∙ need) in
    (at, sym e ∙ ap (scan_shown st o u) at)

pub turn_needs : (st next : code.State) (o w u x : ℕ) (r e : ItemExtent) (sc : Scanned) → scan_shown st o u r ≡ sc → found sc ≡ Need → w ≡ weight (shown_state st) → shown_state next ≡ step (shown_state st) x → e ≡ ending (shown_state st) (o + w) (u + 1) x → e ≡ Need → scan_shown next (o + w) (u + 1) r ≡ scan_step sc x
turn_needs st next o w u x r e sc is need weighs steps ends nothing =
    let at = is_open st o u r sc is need in
    let ends2 : e ≡ ending (shown_state st) (o + weight (shown_state st)) (u + 1) x = ends ∙ ap (λ (v : ℕ). ending (shown_state st) (o + v) (u + 1) x) weighs in
    ap (scan_shown next (o + w) (u + 1)) at.0
    ∙ ap (λ (s : LineState). Open s (o + w) (u + 1)) steps
    ∙ ap (λ (v : ℕ). Open (step (shown_state st) x) (o + v) (u + 1)) weighs
    ∙ sym ((turned_open (shown_state st) o u x e ends2).0 nothing)
    ∙ ap (λ (s : Scanned). scan_step s x) (sym at.1)

pub turn_finds : (st : code.State) (o w u v x : ℕ) (r e : ItemExtent) (sc : Scanned) → scan_shown st o u r ≡ sc → found sc ≡ Need → w ≡ weight (shown_state st) → e ≡ ending (shown_state st) (o + w) (u + 1) x → (e ≡ Need → ⊥) → scan_shown st o v e ≡ scan_step sc x
turn_finds st o w u v x r e sc is need weighs ends some =
    let at = is_open st o u r sc is need in
    let ends2 : e ≡ ending (shown_state st) (o + weight (shown_state st)) (u + 1) x = ends ∙ ap (λ (v : ℕ). ending (shown_state st) (o + v) (u + 1) x) weighs in
    shown_found st o v e some ∙ sym ((turned_open (shown_state st) o u x e ends2).1 some) ∙ ap (λ (s : Scanned). scan_step s x) (sym at.1)

-- ---- the octets of a literal

left_goes_on : (left : ℕ) (params : Params) → (ends_command (literal_left left params) ≡ false) × (is_dead (literal_left left params) ≡ false)
left_goes_on left params = go (left == 0)
  where
    go : (b : Bool) → (ends_command (cond b (Between params) (Body (left - 1) params)) ≡ false) × (is_dead (cond b (Between params) (Body (left - 1) params)) ≡ false)
    go true = (refl, refl)
    go false = (refl, refl)

body_turned : (left n k x : ℕ) (params : Params) → n ≤ 8192 → scan_step (Open (Body left params) n k) x ≡ Open (literal_left left params) n (k + 1)
body_turned left n k x params low =
    let small : nat_lt 8192 (n + 0) ≡ false = le-ltb 8192 (n + 0) (omega arith) in
    let on = left_goes_on left params in
    let same : n + 0 ≡ n = omega arith in
    rw (small, on.0, on.1, same) refl

pub passed : (piece : List ℕ) (left n k : ℕ) (params : Params) → length piece ≤ left → n ≤ 8192 → fold scan_step (Open (literal_left left params) n k) piece ≡ Open (literal_left (left - length piece) params) n (k + length piece)
passed [] left n k params le low =
    let a : left - 0 ≡ left = omega arith in
    let b : k + 0 ≡ k = omega arith in
    rw (a, b) refl
passed (x ∷ piece) zero n k params le low = absurd (omega (arith, le))
passed (x ∷ piece) (suc left) n k params le low =
    let a : left - length piece ≡ suc left - suc (length piece) = omega arith in
    let b : k + 1 + length piece ≡ k + suc (length piece) = omega arith in
    ap (λ (s : LineState). fold scan_step (scan_step (Open s n k) x) piece) (left-suc left params)
    ∙ ap (λ (sc : Scanned). fold scan_step sc piece) (body_turned left n k x params low)
    ∙ passed piece left n (k + 1) params (omega (arith, le)) low
    ∙ ap (λ (m : ℕ). Open (literal_left m params) n (k + 1 + length piece)) a
    ∙ ap (λ (m : ℕ). Open (literal_left (suc left - suc (length piece)) params) n m) b

pub pass_end : (left count : ℕ) (params : Params) → left < count → Between params ≡ literal_left (left + 1 - count) params
pass_end left count params lt = let none : 0 ≡ left + 1 - count = omega arith in ap (λ (m : ℕ). literal_left m params) none

pub pass_within : (left count : ℕ) (params : Params) → count ≤ left → Body (left - count) params ≡ literal_left (left + 1 - count) params
pass_within left count params le =
    let more : suc (left - count) ≡ left + 1 - count = omega arith in
    sym (left-suc (left - count) params) ∙ ap (λ (m : ℕ). literal_left m params) more

settled_pass : (next : code.State) (o u : ℕ) (r : ItemExtent) (sc : Scanned) (piece : List ℕ) → sc ≡ Found r → (r ≡ Need → ⊥) → length piece ≡ 0 → scan_shown next o u r ≡ fold scan_step sc piece
settled_pass next o u r sc piece e some none =
    shown_found next o u r some ∙ sym e ∙ ap (fold scan_step sc) (sym (nil_from_length piece none))

pub body_is : (left : ℕ) (params : Params) → Body left params ≡ literal_left (left + 1) params
body_is left params = sym (left-suc left params) ∙ ap (λ (m : ℕ). literal_left m params) (omega arith)

pub pass_takes : (st next : code.State) (left o u count : ℕ) (params : code_params.Params) (r : ItemExtent) (sc : Scanned) (piece : List ℕ) → st ≡ code_state.Body left params → scan_shown st o u r ≡ sc → count ≤ literal_rest sc → o ≤ 8192 → length piece ≡ count → shown_state next ≡ literal_left (left + 1 - count) (params_shown params) → scan_shown next o (u + count) r ≡ fold scan_step sc piece
pass_takes st next left o u count params Need sc piece at is le low len to =
    let open_is : sc ≡ Open (Body left (params_shown params)) o u = sym is ∙ ap (λ (s : code.State). Open (shown_state s) o u) at in
    let fits : count ≤ left + 1 = subst (λ (c : Scanned). count ≤ literal_rest c) open_is le in
    let taken = passed piece (left + 1) o u (params_shown params) (omega (arith, len, fits)) low in
    ap (λ (s : LineState). Open s o (u + count)) to
    ∙ ap (λ (m : ℕ). Open (literal_left (left + 1 - m) (params_shown params)) o (u + m)) (sym len)
    ∙ sym taken
    ∙ ap (λ (s : LineState). fold scan_step (Open s o u) piece) (sym (body_is left (params_shown params)))
    ∙ ap (λ (c : Scanned). fold scan_step c piece) (sym open_is)
pass_takes st next left o u count params (Command k) sc piece at is le low len to = settled_pass next o (u + count) (Command k) sc piece (sym is) (λ i. cc) (omega (arith, len, subst (λ (c : Scanned). count ≤ literal_rest c) (sym is) le))
pass_takes st next left o u count params (Bad k) sc piece at is le low len to = settled_pass next o (u + count) (Bad k) sc piece (sym is) (λ i. cc) (omega (arith, len, subst (λ (c : Scanned). count ≤ literal_rest c) (sym is) le))
pass_takes st next left o u count params TooBig sc piece at is le low len to = settled_pass next o (u + count) TooBig sc piece (sym is) (λ i. cc) (omega (arith, len, subst (λ (c : Scanned). count ≤ literal_rest c) (sym is) le))

-- ---- a whole buffer

-- what was found stays
pub found_stays : (r : ItemExtent) (t : List ℕ) → fold scan_step (Found r) t ≡ Found r
found_stays r [] = refl
found_stays r (x ∷ t) = found_stays r t
