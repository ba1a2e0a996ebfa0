-- A text that comes in pieces.
use Rattle.std.proofs.Common.{◌≡◌, ℕ, zero, suc, ◌+◌, ◌<◌, ◌≤◌, ◌==◌, Bool, true, false, if◌then◌else◌, List, [], ◌∷◌, ◌++◌, length, take, drop, get_or, Some, None, Err, refl, sym, ap, ◌∙◌, subst, append_assoc, append-nil, arith}
use Rattle.std.proofs.Math.Seq.{take-add}
use Rattle.std.proofs.lemmas.Bool.{false_from_ne_true}
use Rattle.lmtp_dialogue.specs.Texts.{IsSentText, after, gained, text_state_after, text_after, TextEndsAt, RunsFrom, TextKeeps, TextStandsFor, Feeds, TextFinishes}
use Rattle.lmtp_dialogue.specs.declared.message_text.TextState.{TextState}
use Rattle.lmtp_dialogue.specs.declared.message_text.TextState.TheVariants.{Start, DotReturn, Inside, Ended}
use Rattle.lmtp_dialogue.specs.declared.message_text.Text.{Text}
use Rattle.lmtp_dialogue.specs.declared.message_text.TextFault.{TextFault}
use Rattle.lmtp_dialogue.specs.declared.message_text.TextFault.TheVariants.{TooLarge, Memory}
use Rattle.lmtp_dialogue.proofs.TextLemmas.{text_found}

-- ---- octets behind others

place_more : (from : TextState) (xs ys : List ℕ) → text_state_after from (xs ++ ys) ≡ text_state_after (text_state_after from xs) ys
place_more from [] ys = refl
place_more from (x ∷ xs) ys = place_more (after from x) xs ys

text_more : (from : TextState) (xs ys : List ℕ) → text_after from (xs ++ ys) ≡ text_after from xs ++ text_after (text_state_after from xs) ys
text_more from [] ys = refl
text_more from (x ∷ xs) ys =
    ap (λ t. gained from x ++ t) (text_more (after from x) xs ys)
    ∙ sym (append_assoc (gained from x) (text_after (after from x) xs) (text_after (text_state_after (after from x) xs) ys))

runs_more : (from : TextState) (xs ys : List ℕ) → RunsFrom from xs → RunsFrom (text_state_after from xs) ys → RunsFrom from (xs ++ ys)
runs_more from [] ys runs more = more
runs_more from (x ∷ xs) ys runs more = (runs.0, runs_more (after from x) xs ys runs.1 more)

-- octets were taken from a place on
pub feeds_many : (t u : Text) (octets : List ℕ) → RunsFrom t.place octets → u.place ≡ text_state_after t.place octets
    → ((text : List ℕ) → TextKeeps t text t.fault → TextKeeps u (text ++ text_after t.place octets) u.fault) → Feeds t octets u
feeds_many t u octets runs place keeps = λ sent stands. record {
  runs = runs_more Start sent octets stands.runs (subst (λ p. RunsFrom p octets) stands.place runs);
  place = place ∙ (ap (λ p. text_state_after p octets) stands.place ∙ sym (place_more Start sent octets));
  keeps =
      let same = ap (λ p. text_after Start sent ++ text_after p octets) stands.place ∙ sym (text_more Start sent octets) in
      subst (λ text. TextKeeps u text u.fault) same (keeps (text_after Start sent) stands.keeps);
}

-- one was
pub feeds_one : (t u : Text) (octet : ℕ) → (t.place ≡ Ended → ⊥) → u.place ≡ after t.place octet
    → ((text : List ℕ) → TextKeeps t text t.fault → TextKeeps u (text ++ gained t.place octet) u.fault) → Feeds t (octet ∷ []) u
feeds_one t u octet runs place keeps =
    feeds_many t u (octet ∷ []) (runs, tt) place
    (λ text kept. subst (λ more. TextKeeps u (text ++ more) u.fault) (sym (append-nil (gained t.place octet))) (keeps text kept))

-- none was
pub feeds_none : (t : Text) → Feeds t [] t
feeds_none t = λ sent stands. subst (TextStandsFor t) (sym (append-nil sent)) stands

-- the same where it keeps less
pub feeds_nothing : (t u : Text) → u.place ≡ t.place → ((text : List ℕ) → TextKeeps t text t.fault → TextKeeps u text u.fault) → Feeds t [] u
feeds_nothing t u place keeps = λ sent stands.
    subst (TextStandsFor u) (sym (append-nil sent)) (record { runs = stands.runs; place = place ∙ stands.place; keeps = keeps (text_after Start sent) stands.keeps })

-- some, and then others
pub feeds_on : (t u v : Text) (xs ys : List ℕ) → Feeds t xs u → Feeds u ys v → Feeds t (xs ++ ys) v
feeds_on t u v xs ys one two = λ sent stands. subst (TextStandsFor v) (append_assoc sent xs ys) (two (sent ++ xs) (one sent stands))

-- those in front, and some of the others
pub feeds_up_to : (t u v : Text) (piece : List ℕ) (n m : ℕ) → Feeds t (take n piece) u → Feeds u (take m (drop n piece)) v → Feeds t (take (n + m) piece) v
feeds_up_to t u v piece n m one two = subst (λ octets. Feeds t octets v) (sym (take-add n m piece)) (feeds_on t u v (take n piece) (take m (drop n piece)) one two)

-- ---- what joins the text

-- it keeps what it had and these
abbrev pub KeepsMore : Text → List ℕ → Text → Type 0
KeepsMore t more u = (text : List ℕ) → TextKeeps t text t.fault → TextKeeps u (text ++ more) u.fault

pub keeps_same : (t u : Text) (more other : List ℕ) → more ≡ other → KeepsMore t more u → KeepsMore t other u
keeps_same t u more other same keeps = subst (λ m. KeepsMore t m u) same keeps

pub gained_at : (t u : Text) (from : TextState) (octet : ℕ) → t.place ≡ from → KeepsMore t (gained from octet) u → KeepsMore t (gained t.place octet) u
gained_at t u from octet is keeps = keeps_same t u (gained from octet) (gained t.place octet) (ap (λ p. gained p octet) (sym is)) keeps

pub not_but : (octet but : ℕ) → (octet ≡ but → ⊥) → octet ∷ [] ≡ if◌then◌else◌ {A = List ℕ} (octet == but) [] (octet ∷ [])
not_but octet but other = rw (false_from_ne_true (octet == but) (λ same. other (eq_of octet but same))) refl
  where
    eq_of : (octet but : ℕ) → (octet == but) ≡ true → octet ≡ but
    eq_of octet but same = grind (arith)

pub dot_return_gains : (octet : ℕ) → (octet ≡ 10 → ⊥) → 13 ∷ octet ∷ [] ≡ gained DotReturn octet
dot_return_gains octet other = rw (false_from_ne_true (octet == 10) (λ same. other (eq_of octet same))) refl
  where
    eq_of : (octet : ℕ) → (octet == 10) ≡ true → octet ≡ 10
    eq_of octet same = grind (arith)

-- ---- octets inside a line, up to the next CR

record RunsInside (octets : List ℕ) : Type 0 where
  runs : RunsFrom Inside octets
  place : text_state_after Inside octets ≡ Inside
  text : text_after Inside octets ≡ octets

abbrev is_inside : TextState → Bool
is_inside Inside = true
is_inside place = false

open_inside : Inside ≡ Ended → ⊥
open_inside same = absurd (cc (sym (ap is_inside same)))

stays_inside : (octet : ℕ) → (octet == 13) ≡ false → after Inside octet ≡ Inside
stays_inside octet other = rw other refl

inside_run : (octets : List ℕ) (count : ℕ) → count ≤ length octets → ((j : ℕ) → j < count → (get_or octets j 0 == 13) ≡ true → ⊥) → RunsInside (take count octets)
inside_run octets zero short other = record { runs = tt; place = refl; text = refl }
inside_run [] (suc count) short other = absurd (omega arith)
inside_run (octet ∷ octets) (suc count) short other =
    let here : (octet == 13) ≡ false = false_from_ne_true (octet == 13) (other 0 (omega arith)) in
    let later = inside_run octets count (omega arith) (λ j less. other (suc j) (omega arith)) in
    record {
      runs = (open_inside, subst (λ p. RunsFrom p (take count octets)) (sym (stays_inside octet here)) later.runs);
      place = ap (λ p. text_state_after p (take count octets)) (stays_inside octet here) ∙ later.place;
      text = ap (λ p. octet ∷ text_after p (take count octets)) (stays_inside octet here) ∙ ap (λ t. octet ∷ t) later.text;
    }

-- so many octets inside a line joined the text
pub feeds_inside : (t u : Text) (octets : List ℕ) (count : ℕ) → t.place ≡ Inside → u.place ≡ t.place → count ≤ length octets
    → ((j : ℕ) → j < count → (get_or octets j 0 == 13) ≡ true → ⊥)
    → ((text : List ℕ) → TextKeeps t text t.fault → TextKeeps u (text ++ take count octets) u.fault) → Feeds t (take count octets) u
feeds_inside t u octets count is same short other keeps =
    let run = inside_run octets count short other in
    feeds_many t u (take count octets) (subst (λ p. RunsFrom p (take count octets)) (sym is) run.runs)
    (same ∙ (is ∙ (sym run.place ∙ ap (λ p. text_state_after p (take count octets)) (sym is))))
    (λ text kept. subst (λ more. TextKeeps u (text ++ more) u.fault) (sym run.text ∙ ap (λ p. text_after p (take count octets)) (sym is)) (keeps text kept))

-- ---- a text that has ended

ends_at : (from : TextState) (sent : List ℕ) → RunsFrom from sent → text_state_after from sent ≡ Ended → TextEndsAt from sent
ends_at from [] runs ended = ended
ends_at from (octet ∷ sent) runs ended = (runs.0, ends_at (after from octet) sent runs.1 ended)

pub is_text : (t : Text) (sent : List ℕ) → t.place ≡ Ended → TextStandsFor t sent → IsSentText sent (text_after Start sent)
is_text t sent ended stands = text_found sent (ends_at Start sent stands.runs (sym stands.place ∙ ended))

-- what is kept of one that has ended is the text
pub finished : (t : Text) (sent : List ℕ) → t.place ≡ Ended → t.fault ≡ None → TextStandsFor t sent → IsSentText sent t.kept × (length t.kept ≤ t.limit)
finished t sent ended none stands =
    let kept : (t.kept ≡ text_after Start sent) × (length (text_after Start sent) ≤ t.limit) = subst (TextKeeps t (text_after Start sent)) none stands.keeps in
    (subst (IsSentText sent) (sym kept.0) (is_text t sent ended stands), subst (λ x. length x ≤ t.limit) (sym kept.0) kept.1)

-- else why it isn't
pub not_kept : (t : Text) (sent : List ℕ) (why : TextFault) → t.place ≡ Ended → t.fault ≡ Some why → TextStandsFor t sent → TextFinishes t.limit sent (Err why)
not_kept t sent TooLarge ended some stands =
    let keeps : (t.kept ≡ []) × (t.limit < length (text_after Start sent)) = subst (TextKeeps t (text_after Start sent)) some stands.keeps in
    (text_after Start sent, is_text t sent ended stands, keeps.1)
not_kept t sent Memory ended some stands = tt
