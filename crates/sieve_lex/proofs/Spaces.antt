-- White space, read from the left.
use Rattle.std.proofs.Common.{◌≡◌, ◌⊎◌, ℕ, ◌≤◌, suc, zero, Bool, true, false, not, ◌==◌, Some, List, [], ◌∷◌, ◌++◌, length, get_or, refl, ap, sym, ◌∙◌, subst, inl, inr, arith, append_assoc, append-nil, length-append}
use Rattle.std.specs.List.{list_all, flat_map}
use Rattle.std.proofs.lemmas.Bool.{eqb-true, eqb-false, not-true}
use Rattle.std.proofs.Math.Bool.{or-false}
use Rattle.std.proofs.lemmas.Bool.Decides.{nat_tests}
use Rattle.octets.proofs.Lists.{fork, some_is}
use Rattle.sieve_lex.specs.declared.space.SpaceState.{SpaceState}
use Rattle.sieve_lex.specs.declared.space.SpaceState.TheVariants.{Between, Comment, Opening, Inner, Star}
use Rattle.sieve_lex.specs.Class.{is_white}
use Rattle.sieve_lex.specs.Text.{is_line_feed}
use Rattle.sieve_lex.specs.Space.{Space, IsInLine, HasNoEnd, IsSpace, AreSpaces, space_of, IsLastComment}
use Rattle.sieve_lex.specs.Space.Space.{White, Hash, Bracketed}
use Rattle.sieve_lex.specs.Skip.{begins_space, space_state_after, space_from}
use Rattle.sieve_lex.proofs.Prefixes.{both}

-- a test is true or false
pub tests : (t : Bool) → (t ≡ true) ⊎ (t ≡ false)
tests true = inl refl
tests false = inr refl

-- the places after an octet
at_place : (p q : SpaceState) (s : List ℕ) → p ≡ q → space_from p s ≡ space_from q s
at_place p q s e = ap (λ x. space_from x s) e

inner_star : (b : ℕ) → (b == 42) ≡ true → space_state_after Inner b ≡ Star
inner_star b e = rw e refl

inner_on : (b : ℕ) → (b == 42) ≡ false → space_state_after Inner b ≡ Inner
inner_on b e = rw e refl

star_ends : (b : ℕ) → (b == 47) ≡ true → space_state_after Star b ≡ Between
star_ends b e = rw e refl

star_star : (b : ℕ) → (b == 47) ≡ false → (b == 42) ≡ true → space_state_after Star b ≡ Star
star_star b n e = rw (n, e) refl

star_on : (b : ℕ) → (b == 47) ≡ false → (b == 42) ≡ false → space_state_after Star b ≡ Inner
star_on b n e = rw (n, e) refl

comment_ends : (b : ℕ) → is_line_feed b ≡ true → space_state_after Comment b ≡ Between
comment_ends b e = rw e refl

comment_on : (b : ℕ) → is_line_feed b ≡ false → space_state_after Comment b ≡ Comment
comment_on b e = rw e refl

between_hash : (b : ℕ) → (b == 35) ≡ true → space_state_after Between b ≡ Comment
between_hash b e = rw e refl

between_slash : (b : ℕ) → (b == 35) ≡ false → (b == 47) ≡ true → space_state_after Between b ≡ Opening
between_slash b n e = rw (n, e) refl

between_on : (b : ℕ) → (b == 35) ≡ false → (b == 47) ≡ false → space_state_after Between b ≡ Between
between_on b n e = rw (n, e) refl

-- inside a comment in brackets, after a star or not
abbrev inner : Bool → SpaceState
inner true = Star
inner false = Inner

-- what stands before
abbrev starred : Bool → List ℕ
starred true = 42 ∷ []
starred false = []

-- a comment in brackets is read up to the first end
closed_again : (star : Bool) (body rest : List ℕ) → HasNoEnd (starred star ++ (body ++ 42 ∷ [])) → space_from (inner star) (body ++ (42 ∷ (47 ∷ rest))) ≡ space_from Between rest
closed_again false [] rest h = refl
closed_again true [] rest h = refl
closed_again false (b ∷ body) rest h = elim (tests (b == 42)) [
  | inl e ↦ (let P : ℕ → Type 0 = λ x. HasNoEnd (x ∷ (body ++ 42 ∷ [])) in at_place _ _ (body ++ (42 ∷ (47 ∷ rest))) (inner_star b e) ∙ closed_again true body rest (subst P (eqb-true b 42 e) h))
  | inr e ↦ at_place _ _ (body ++ (42 ∷ (47 ∷ rest))) (inner_on b e) ∙ closed_again false body rest h.1
]
closed_again true (b ∷ body) rest h = elim (tests (b == 47)) [
  | inl e ↦ absurd (h.0 refl (eqb-true b 47 e))
  | inr n ↦ elim (tests (b == 42)) [
    | inl e ↦ (let P : ℕ → Type 0 = λ x. HasNoEnd (x ∷ (body ++ 42 ∷ [])) in at_place _ _ (body ++ (42 ∷ (47 ∷ rest))) (star_star b n e) ∙ closed_again true body rest (subst P (eqb-true b 42 e) h.1))
    | inr e ↦ at_place _ _ (body ++ (42 ∷ (47 ∷ rest))) (star_on b n e) ∙ closed_again false body rest h.1.1
  ]
]

-- a comment after `#` is read up to the line's end
line_again : (body rest : List ℕ) → IsInLine body → space_from Comment (body ++ (10 ∷ rest)) ≡ space_from Between rest
line_again [] rest h = refl
line_again (b ∷ body) rest h =
    let parts : (not (is_line_feed b) ≡ true) × (list_all (λ c. not (is_line_feed c)) body ≡ true) = both _ _ h in
    let other : is_line_feed b ≡ false = not-true _ parts.0 in
    at_place _ _ (body ++ (10 ∷ rest)) (comment_on b other) ∙ line_again body rest parts.1

line_ends_text : (body : List ℕ) → IsInLine body → space_from Comment body ≡ Some []
line_ends_text [] h = refl
line_ends_text (b ∷ body) h =
    let parts : (not (is_line_feed b) ≡ true) × (list_all (λ c. not (is_line_feed c)) body ≡ true) = both _ _ h in
    let other : is_line_feed b ≡ false = not-true _ parts.0 in
    at_place _ _ body (comment_on b other) ∙ line_ends_text body parts.1

white_place : (b : ℕ) → is_white b ≡ true → space_state_after Between b ≡ Between
white_place b h =
    let p : (b == 35) ≡ false = grind (arith, nat_tests) in
    let q : (b == 47) ≡ false = grind (arith, nat_tests) in
    rw (p, q) refl

-- what follows pieces of white space is read as if it stood alone
pub spaces_again : (pieces : List Space) (rest : List ℕ) → AreSpaces pieces → space_from Between (flat_map space_of pieces ++ rest) ≡ space_from Between rest
spaces_again [] rest h = refl
spaces_again (White b ∷ more) rest h =
    let place : space_state_after Between b ≡ Between = white_place b h.0 in
    rw h.0 (at_place _ _ (flat_map space_of more ++ rest) place ∙ spaces_again more rest h.1)
spaces_again (Hash body ∷ more) rest h =
    let e : ((body ++ 10 ∷ []) ++ flat_map space_of more) ++ rest ≡ body ++ (10 ∷ (flat_map space_of more ++ rest)) = simp append_assoc in
    ap (space_from Comment) e ∙ line_again body (flat_map space_of more ++ rest) h.0 ∙ spaces_again more rest h.1
spaces_again (Bracketed body ∷ more) rest h =
    let e : ((body ++ 42 ∷ (47 ∷ [])) ++ flat_map space_of more) ++ rest ≡ body ++ (42 ∷ (47 ∷ (flat_map space_of more ++ rest))) = simp append_assoc in
    ap (space_from Inner) e ∙ closed_again false body (flat_map space_of more ++ rest) h.0 ∙ spaces_again more rest h.1

-- after the last piece nothing is left but an open comment
pub last_again : (last : List ℕ) → IsLastComment last → space_from Between last ≡ Some []
last_again [] h = refl
last_again (b ∷ body) h = let P : ℕ → Type 0 = λ x. space_from Between (x ∷ body) ≡ Some [] in subst P (sym h.0) (line_ends_text body h.1)

-- pieces of white space, perhaps an open comment, and what follows
pub record IsSpaced (s rest : List ℕ) : Type 0 where
  pub pieces : List Space
  pub last : List ℕ
  pub each : AreSpaces pieces
  pub comment : IsLastComment last
  pub alone : (last ≡ []) ⊎ (rest ≡ [])
  pub spelled : s ≡ flat_map space_of pieces ++ (last ++ rest)

nothing_spaced : (s rest : List ℕ) → s ≡ rest → IsSpaced s rest
nothing_spaced s rest e = record { pieces = []; last = []; each = tt; comment = tt; alone = inl refl; spelled = e }

more_spaced : (p : Space) (s t rest : List ℕ) → IsSpace p → s ≡ space_of p ++ t → IsSpaced t rest → IsSpaced s rest
more_spaced p s t rest good e h = record {
  pieces = p ∷ h.pieces;
  last = h.last;
  each = (good, h.each);
  comment = h.comment;
  alone = h.alone;
  spelled = e ∙ ap (λ x. space_of p ++ x) h.spelled ∙ sym (append_assoc (space_of p) (flat_map space_of h.pieces) (h.last ++ rest));
}

-- the end of a comment in brackets, and what follows
record IsClosed (s rest : List ℕ) : Type 0 where
  body : List ℕ
  after : List ℕ
  unended : HasNoEnd (body ++ 42 ∷ [])
  spelled : s ≡ body ++ (42 ∷ (47 ∷ after))
  more : space_from Between after ≡ Some rest

closed_at : (s t rest : List ℕ) → s ≡ t → IsClosed t rest → IsClosed s rest
closed_at s t rest e c = record { body = c.body; after = c.after; unended = c.unended; spelled = e ∙ c.spelled; more = c.more }

-- an octet more in front of it that begins no end
closed_more : (b : ℕ) (s rest : List ℕ) → (b ≡ 42 → ⊥) → IsClosed s rest → IsClosed (b ∷ s) rest
closed_more b s rest other c = record { body = b ∷ c.body; after = c.after; unended = (λ e. absurd (other e), c.unended); spelled = ap (λ x. b ∷ x) c.spelled; more = c.more }

first_octet : (body after : List ℕ) (x : ℕ) (s : List ℕ) → x ∷ s ≡ body ++ (42 ∷ (47 ∷ after)) → get_or (body ++ 42 ∷ []) 0 0 ≡ x
first_octet [] after x s e = cc
first_octet (c ∷ body) after x s e = cc

-- a star more in front of it, before an octet that is no slash
closed_star : (b : ℕ) (s rest : List ℕ) → (b ≡ 47 → ⊥) → IsClosed (b ∷ s) rest → IsClosed (42 ∷ (b ∷ s)) rest
closed_star b s rest other c = record {
  body = 42 ∷ c.body;
  after = c.after;
  unended = (λ _ e. other (sym (first_octet c.body c.after b s c.spelled) ∙ e), c.unended);
  spelled = ap (λ x. 42 ∷ x) c.spelled;
  more = c.more;
}

far : (a b : ℕ) → a ≡ 0 → b ≡ 47 → a ≡ b → ⊥
far a b p q e = omega arith

closed_here : (b : ℕ) (s rest : List ℕ) → b ≡ 47 → space_from Between s ≡ Some rest → IsClosed (42 ∷ (b ∷ s)) rest
closed_here b s rest e h = record { body = []; after = s; unended = (λ _ z. far _ _ refl refl z, tt); spelled = ap (λ x. 42 ∷ (x ∷ s)) e; more = h }

closed_is : (star : Bool) (s rest : List ℕ) → space_from (inner star) s ≡ Some rest → IsClosed (starred star ++ s) rest
closed_is false [] rest h = absurd (cc)
closed_is true [] rest h = absurd (cc)
closed_is false (b ∷ s) rest h = elim (tests (b == 42)) [
  | inl e ↦ closed_at _ _ _ (ap (λ x. x ∷ s) (eqb-true b 42 e)) (closed_is true s rest (sym (at_place _ _ s (inner_star b e)) ∙ h))
  | inr e ↦ closed_more b s rest (eqb-false b 42 e) (closed_is false s rest (sym (at_place _ _ s (inner_on b e)) ∙ h))
]
closed_is true (b ∷ s) rest h = elim (tests (b == 47)) [
  | inl e ↦ closed_here b s rest (eqb-true b 47 e) (sym (at_place _ _ s (star_ends b e)) ∙ h)
  | inr n ↦ elim (tests (b == 42)) [
    | inl e ↦ closed_star b s rest (eqb-false b 47 n) (closed_at _ _ _ (ap (λ x. x ∷ s) (eqb-true b 42 e)) (closed_is true s rest (sym (at_place _ _ s (star_star b n e)) ∙ h)))
    | inr e ↦ closed_star b s rest (eqb-false b 47 n) (closed_more b s rest (eqb-false b 42 e) (closed_is false s rest (sym (at_place _ _ s (star_on b n e)) ∙ h)))
  ]
]

-- the end of a line, and what follows
record IsLined (s rest : List ℕ) : Type 0 where
  body : List ℕ
  after : List ℕ
  in_line : IsInLine body
  spelled : s ≡ body ++ (10 ∷ after)
  more : space_from Between after ≡ Some rest

pub in_line_more : (b : ℕ) (s : List ℕ) → is_line_feed b ≡ false → IsInLine s → IsInLine (b ∷ s)
in_line_more b s e h = rw (e, h) refl

line_is : (s rest : List ℕ) → space_from Comment s ≡ Some rest → IsLined s rest ⊎ (IsInLine s × (rest ≡ []))
line_is [] rest h = inr (refl, sym (some_is [] rest h))
line_is (b ∷ s) rest h = elim (tests (is_line_feed b)) [
  | inl e ↦ inl (record { body = []; after = s; in_line = refl; spelled = ap (λ x. x ∷ s) (eqb-true b 10 e); more = sym (at_place _ _ s (comment_ends b e)) ∙ h })
  | inr e ↦ elim (line_is s rest (sym (at_place _ _ s (comment_on b e)) ∙ h)) [
    | inl l ↦ inl (record { body = b ∷ l.body; after = l.after; in_line = in_line_more b l.body e l.in_line; spelled = ap (λ x. b ∷ x) l.spelled; more = l.more })
    | inr l ↦ inr (in_line_more b s e l.0, l.1)
  ]
]

spaced_white : (b : ℕ) (s rest : List ℕ) → (b == 35) ≡ false → (b == 47) ≡ false → begins_space (b ∷ s) ≡ true → IsSpaced s rest → IsSpaced (b ∷ s) rest
spaced_white b s rest p q h t =
    let white : is_white b ≡ true = rw (p, q, or-false) at h in
    more_spaced (White b) (b ∷ s) s rest white refl t

spaced_line : (b : ℕ) (s rest : List ℕ) (l : IsLined s rest) → b ≡ 35 → IsSpaced l.after rest → IsSpaced (b ∷ s) rest
spaced_line b s rest l e t =
    more_spaced (Hash l.body) (b ∷ s) l.after rest l.in_line ((λ i. e i ∷ l.spelled i) ∙ ap (λ x. 35 ∷ x) (sym (append_assoc l.body (10 ∷ []) l.after))) t

spaced_last : (b : ℕ) (s rest : List ℕ) → b ≡ 35 → IsInLine s → rest ≡ [] → IsSpaced (b ∷ s) rest
spaced_last b s rest e in_line done = record {
  pieces = [];
  last = b ∷ s;
  each = tt;
  comment = (e, in_line);
  alone = inr done;
  spelled = sym (append-nil (b ∷ s)) ∙ ap (λ x. (b ∷ s) ++ x) (sym done);
}

spaced_closed : (b c : ℕ) (s rest : List ℕ) (d : IsClosed s rest) → b ≡ 47 → c ≡ 42 → IsSpaced d.after rest → IsSpaced (b ∷ (c ∷ s)) rest
spaced_closed b c s rest d be ce t =
    more_spaced (Bracketed d.body) (b ∷ (c ∷ s)) d.after rest d.unended
    ((λ i. be i ∷ (ce i ∷ d.spelled i)) ∙ ap (λ x. 47 ∷ (42 ∷ x)) (sym (append_assoc d.body (42 ∷ (47 ∷ [])) d.after))) t

-- a slash begins a comment only before a star
slash_star : (c : ℕ) (s : List ℕ) (b : ℕ) → b ≡ 47 → begins_space (b ∷ (c ∷ s)) ≡ true → c ≡ 42
slash_star c s b e h = let P : ℕ → Type 0 = λ x. begins_space (x ∷ (c ∷ s)) ≡ true in eqb-true c 42 (subst P e h)

slash_alone : (b : ℕ) → b ≡ 47 → begins_space (b ∷ []) ≡ true → ⊥
slash_alone b e h = let P : ℕ → Type 0 = λ x. begins_space (x ∷ []) ≡ true in let z : begins_space (47 ∷ []) ≡ true = subst P e h in cc

after_slash : (n : ℕ) (b : ℕ) (s rest : List ℕ) → length s ≤ n → b ≡ 47 → begins_space (b ∷ s) ≡ true → space_from Opening s ≡ Some rest
    → ((t : List ℕ) → length t ≤ n → space_from Between t ≡ Some rest → IsSpaced t rest) → IsSpaced (b ∷ s) rest
after_slash n b [] rest w e h o next = absurd (slash_alone b e h)
after_slash n b (c ∷ s) rest w e h o next =
    let d : IsClosed s rest = closed_is false s rest o in
    let parts : length s ≡ length (d.body ++ (42 ∷ (47 ∷ d.after))) = ap length d.spelled in
    spaced_closed b c s rest d e (slash_star c s b e h) (next d.after (omega (arith, length-append d.body (42 ∷ (47 ∷ d.after)))) d.more)

after_hash : (n : ℕ) (b : ℕ) (s rest : List ℕ) → length s ≤ n → b ≡ 35 → space_from Comment s ≡ Some rest
    → ((t : List ℕ) → length t ≤ n → space_from Between t ≡ Some rest → IsSpaced t rest) → IsSpaced (b ∷ s) rest
after_hash n b s rest w e o next = elim (line_is s rest o) [
  | inl l ↦ (let parts : length s ≡ length (l.body ++ (10 ∷ l.after)) = ap length l.spelled in
      spaced_line b s rest l e (next l.after (omega (arith, length-append l.body (10 ∷ l.after))) l.more))
  | inr l ↦ spaced_last b s rest e l.0 l.1
]

-- what is read so is spelled so
pub spaced : (n : ℕ) (s rest : List ℕ) → length s ≤ n → space_from Between s ≡ Some rest → IsSpaced s rest
spaced n [] rest w h = nothing_spaced [] rest (some_is [] rest h)
spaced zero (b ∷ s) rest w h = absurd (omega arith)
spaced (suc n) (b ∷ s) rest w h = elim (fork (begins_space (b ∷ s)) _ _ _ h) [
  | inr q ↦ nothing_spaced (b ∷ s) rest (some_is (b ∷ s) rest q.1)
  | inl q ↦ elim (tests (b == 35)) [
    | inl e ↦ after_hash n b s rest (omega arith) (eqb-true b 35 e) (sym (at_place _ _ s (between_hash b e)) ∙ q.1) (λ t. spaced n t rest)
    | inr p ↦ elim (tests (b == 47)) [
      | inl e ↦ after_slash n b s rest (omega arith) (eqb-true b 47 e) q.0 (sym (at_place _ _ s (between_slash b p e)) ∙ q.1) (λ t. spaced n t rest)
      | inr e ↦ spaced_white b s rest p e q.0 (spaced n s rest (omega arith) (sym (at_place _ _ s (between_on b p e)) ∙ q.1))
    ]
  ]
]
