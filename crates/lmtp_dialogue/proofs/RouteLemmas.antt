-- Source routes.
use Rattle.std.proofs.Common.{◌≡◌, ℕ, true, List, [], ◌∷◌, ◌++◌, take, drop, inl, inr, refl, sym, ap, ◌∙◌, subst, append_assoc}
use Rattle.std.proofs.lemmas.List.{take-append-drop}
use Rattle.std.specs.List.{list_all, prefix_len}
use Rattle.lmtp_dialogue.specs.Paths.{is_hop, BeginsBare, FollowsRoute, IsPath, EndsAddress}
use Rattle.lmtp_dialogue.proofs.FrontLemmas.{all_front, behind_is}
use Rattle.lmtp_dialogue.proofs.TextLemmas.{same_others}

-- behind hops and a colon stands what stands there
colon_behind : (hops bare : List ℕ) → list_all is_hop hops ≡ true → drop (prefix_len is_hop (hops ++ 58 ∷ bare)) (hops ++ 58 ∷ bare) ≡ 58 ∷ bare
colon_behind hops bare each = behind_is is_hop hops (58 ∷ bare) each refl

-- ---- what follows a route

-- what stands behind a text that begins with `@` follows its route
behind_hops : (text hops bare : List ℕ) → text ≡ 64 ∷ hops → FollowsRoute text bare → drop (prefix_len is_hop hops) hops ≡ 58 ∷ bare
behind_hops text hops bare begins follows = elim follows.routed [
  | inl none ↦ absurd (follows.is hops (sym (follows.written ∙ ap (λ r. r ++ bare) none) ∙ begins))
  | inr route ↦
      let written : 64 ∷ hops ≡ 64 ∷ (route.hops ++ 58 ∷ bare) =
      sym begins ∙ (follows.written ∙ (ap (λ r. r ++ bare) route.written ∙ ap (λ t. 64 ∷ t) (append_assoc route.hops (58 ∷ []) bare))) in
      let same : hops ≡ route.hops ++ 58 ∷ bare = same_others 64 64 hops (route.hops ++ 58 ∷ bare) written in
      ap (λ t. drop (prefix_len is_hop t) t) same ∙ colon_behind route.hops bare route.each
]

pub no_colon : (text hops : List ℕ) → text ≡ 64 ∷ hops → ((rest : List ℕ) → drop (prefix_len is_hop hops) hops ≡ 58 ∷ rest → ⊥)
    → (bare : List ℕ) → FollowsRoute text bare → ⊥
no_colon text hops begins none bare follows = none bare (behind_hops text hops bare begins follows)

pub another_route : (text hops bare rest : List ℕ) → text ≡ 64 ∷ hops → drop (prefix_len is_hop hops) hops ≡ 58 ∷ bare → bare ≡ 64 ∷ rest
    → (other : List ℕ) → FollowsRoute text other → ⊥
another_route text hops bare rest begins there second other follows =
    let same : bare ≡ other = same_others 58 58 bare other (sym there ∙ behind_hops text hops other begins follows) in
    follows.is rest (sym same ∙ second)

pub follows_hops : (text hops bare : List ℕ) → text ≡ 64 ∷ hops → drop (prefix_len is_hop hops) hops ≡ 58 ∷ bare → BeginsBare bare → FollowsRoute text bare
follows_hops text hops bare begins there is =
    let front = take (prefix_len is_hop hops) hops in
    record {
      route = 64 ∷ (front ++ 58 ∷ []);
      routed = inr (record { hops = front; each = all_front is_hop hops; written = refl });
      written =
          begins ∙ ap (λ t. 64 ∷ t) (sym (take-append-drop (prefix_len is_hop hops) hops)
          ∙ (ap (λ t. front ++ t) there ∙ sym (append_assoc front (58 ∷ []) bare)));
      is = is;
    }

-- it is one
begins_none : (text : List ℕ) → BeginsBare text → (bare : List ℕ) → FollowsRoute text bare → bare ≡ text
begins_none text is bare follows = elim follows.routed [
  | inl none ↦ sym (follows.written ∙ ap (λ r. r ++ bare) none)
  | inr route ↦ absurd (is ((route.hops ++ 58 ∷ []) ++ bare) (follows.written ∙ ap (λ r. r ++ bare) route.written))
]

pub one_bare : (text bare other : List ℕ) → FollowsRoute text bare → FollowsRoute text other → bare ≡ other
one_bare text bare other first second = elim first.routed [
  | inl none ↦
      let same : text ≡ bare = first.written ∙ ap (λ r. r ++ bare) none in
      sym same ∙ sym (begins_none text (subst BeginsBare (sym same) first.is) other second)
  | inr route ↦
      let begins : text ≡ 64 ∷ ((route.hops ++ 58 ∷ []) ++ bare) = first.written ∙ ap (λ r. r ++ bare) route.written in
      let hops = (route.hops ++ 58 ∷ []) ++ bare in
      same_others 58 58 bare other (sym (behind_hops text hops bare begins first) ∙ behind_hops text hops other begins second)
]

-- ---- a path

-- no path where nothing follows a route, or no address does
pub no_route : (text inner : List ℕ) → text ≡ 60 ∷ inner → ((bare : List ℕ) → FollowsRoute inner bare → ⊥) → (address rest : List ℕ) → IsPath text address rest → ⊥
no_route text inner begins none address rest is =
    let same : inner ≡ is.inner = same_others 60 60 inner is.inner (sym begins ∙ is.opened) in
    none is.bare (subst (λ t. FollowsRoute t is.bare) (sym same) is.follows)

pub no_address : (text inner bare : List ℕ) → text ≡ 60 ∷ inner → FollowsRoute inner bare → ((address rest : List ℕ) → EndsAddress bare address rest → ⊥)
    → (address rest : List ℕ) → IsPath text address rest → ⊥
no_address text inner bare begins follows none address rest is =
    let same : inner ≡ is.inner = same_others 60 60 inner is.inner (sym begins ∙ is.opened) in
    let one : is.bare ≡ bare = one_bare inner is.bare bare (subst (λ t. FollowsRoute t is.bare) (sym same) is.follows) follows in
    none address rest (subst (λ t. EndsAddress t address rest) one is.ends)
