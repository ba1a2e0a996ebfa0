-- The names of the commands, and what stands after them.
use Rattle.std.proofs.Common.{◌≡◌, ℕ, ◌⊎◌, inl, inr, Bool, true, false, not, ◌&&◌, ◌==◌, cond, List, [], ◌∷◌, ◌++◌, Option, Some, None, refl, sym, ap, ◌∙◌, subst, append_assoc}
use Rattle.std.specs.Prelude.{map, codes}
use Rattle.std.specs.Char.{to_ascii_uppercase}
use Rattle.std.proofs.lemmas.Bool.{eqb-true, eq-eqb, or_cases, or_from, or_left, or_right, and_parts, and_from, and_left, and_right, not-true}
use Rattle.std.proofs.lemmas.List.{append-nil}
use Rattle.managesieve_protocol.specs.Arguments.{LineArgument, Text, Figure, AreLineArguments}
use Rattle.managesieve_protocol.specs.Machine.{Params, LineEnd, MaybeText, ThenText, ThenNumber, rows, begins, begins_row, same_word, params_in, LineState, Word, Between, leave, step, run}
use Rattle.managesieve_protocol.proofs.Left.{IsAfter}
use Rattle.managesieve_protocol.specs.declared.commands.ClientCommand.{ClientCommand}
use Rattle.managesieve_protocol.specs.declared.commands.ClientCommand.TheVariants.{Capability, Noop, Logout, Authenticate, Unauthenticate, HaveSpace, PutScript, CheckScript, ListScripts, SetActive, GetScript, DeleteScript, RenameScript, Response}
use Rattle.managesieve_protocol.specs.Commands.{Form, Named, Alone, form_of}

abbrev pub Rows : Type 0
Rows = List (List ℕ × Params)

-- ---- words

eq_self : (x : ℕ) → (x == x) ≡ true
eq_self x = eq-eqb x x refl

pub begins-append : (p q : List ℕ) → begins p (p ++ q) ≡ true
begins-append [] q = refl
begins-append (x ∷ p) q = and_from (x == x) (begins p (p ++ q)) (eq_self x) (begins-append p q)

pub begins_split : (p w : List ℕ) → begins p w ≡ true → (q : List ℕ) × (w ≡ p ++ q)
begins_split [] w e = (w, refl)
begins_split (x ∷ p) [] e = absurd cc
begins_split (x ∷ p) (y ∷ w) e =
    let parts = and_parts (x == y) (begins p w) e in
    let rest = begins_split p w parts.1 in
    (rest.0, ap (λ (z : ℕ). z ∷ w) (sym (eqb-true x y parts.0)) ∙ ap (λ (u : List ℕ). x ∷ u) rest.1)

same-self : (w : List ℕ) → same_word w w ≡ true
same-self [] = refl
same-self (x ∷ w) = and_from (x == x) (same_word w w) (eq_self x) (same-self w)

pub same_is : (a b : List ℕ) → same_word a b ≡ true → a ≡ b
same_is [] [] e = refl
same_is [] (y ∷ b) e = absurd cc
same_is (x ∷ a) [] e = absurd cc
same_is (x ∷ a) (y ∷ b) e =
    let parts = and_parts (x == y) (same_word a b) e in
    rw (eqb-true x y parts.0, same_is a b parts.1) refl

-- ---- rows

pub params_step : (o : Option Params) (word w : List ℕ) (s t : Params) → cond (same_word word w) (Some t) o ≡ Some s → ((word ≡ w) × (t ≡ s)) ⊎ (o ≡ Some s)
params_step o word w s t e = go (same_word word w) (same_is word w) e
  where
    go : (b : Bool) → (b ≡ true → word ≡ w) → cond b (Some t) o ≡ Some s → ((word ≡ w) × (t ≡ s)) ⊎ (o ≡ Some s)
    go true f e = inl (f refl, cc)
    go false f e = inr e

params_begins : (rs : Rows) (p q : List ℕ) (s : Params) → params_in rs (p ++ q) ≡ Some s → begins_row rs p ≡ true
params_begins [] p q s e = absurd cc
params_begins (row ∷ rs) p q s e =
    elim (params_step (params_in rs (p ++ q)) row.0 (p ++ q) s row.1 e) [
      | inl h ↦ or_left (begins p row.0) (begins_row rs p) (rw h.0 (begins-append p q))
      | inr h ↦ or_right (begins p row.0) (begins_row rs p) (params_begins rs p q s h)
    ]

-- letters in upper case
abbrev all_upper : List ℕ → Bool
all_upper [] = true
all_upper (x ∷ w) = (to_ascii_uppercase x == x) && all_upper w

all_upper-append : (p q : List ℕ) → all_upper (p ++ q) ≡ true → all_upper q ≡ true
all_upper-append [] q e = e
all_upper-append (x ∷ p) q e = all_upper-append p q (and_parts (to_ascii_uppercase x == x) (all_upper (p ++ q)) e).1

map_upper : (q : List ℕ) → all_upper q ≡ true → map to_ascii_uppercase q ≡ q
map_upper [] e = refl
map_upper (x ∷ q) e =
    let parts = and_parts (to_ascii_uppercase x == x) (all_upper q) e in
    rw (eqb-true (to_ascii_uppercase x) x parts.0, map_upper q parts.1) refl

abbrev rows_upper : Rows → Bool
rows_upper [] = true
rows_upper (row ∷ rs) = all_upper row.0 && rows_upper rs

params_first : (word w : List ℕ) (t : Params) (o : Option Params) → word ≡ w → cond (same_word word w) (Some t) o ≡ Some t
params_first word w t o e =
    let same : same_word word w ≡ true = rw (← e) (same-self word) in
    rw same refl

some_params : (word w : List ℕ) (t : Params) (o : Option Params) (s : Params) → o ≡ Some s → (u : Params) × (cond (same_word word w) (Some t) o ≡ Some u)
some_params word w t o s e = go (same_word word w)
  where
    go : (b : Bool) → (u : Params) × (cond b (Some t) o ≡ Some u)
    go true = (t, refl)
    go false = (s, e)

-- a front of a name goes on to a name
begins_params : (rs : Rows) (p : List ℕ) → rows_upper rs ≡ true → begins_row rs p ≡ true → (q : List ℕ) × (s : Params) × (params_in rs (p ++ q) ≡ Some s) × (map to_ascii_uppercase q ≡ q)
begins_params [] p up e = absurd cc
begins_params (row ∷ rs) p up e =
    let ups = and_parts (all_upper row.0) (rows_upper rs) up in
    elim (or_cases (begins p row.0) (begins_row rs p) e) [
      | inl h ↦ (let split = begins_split p row.0 h in (
        split.0,
        row.1,
        params_first row.0 (p ++ split.0) row.1 (params_in rs (p ++ split.0)) split.1,
        map_upper split.0 (all_upper-append p split.0 (rw (← split.1) ups.0)),
      ))
      | inr h ↦ (let found = begins_params rs p ups.1 h in
          let more = some_params row.0 (p ++ found.0) row.1 (params_in rs (p ++ found.0)) found.1 found.2 in
          (found.0, more.0, more.1, found.3))
    ]

pub name_goes_on : (p : List ℕ) → begins_row rows p ≡ true → (q : List ℕ) × (s : Params) × (params_in rows (p ++ q) ≡ Some s) × (map to_ascii_uppercase q ≡ q)
unfolding rows
name_goes_on p e = begins_params rows p refl e

-- the octet stands nowhere in the word
abbrev pub lacks : ℕ → List ℕ → Bool
lacks x [] = true
lacks x (y ∷ w) = not (x == y) && lacks x w

begins_other : (x : ℕ) (w word : List ℕ) → lacks x word ≡ true → begins (w ++ x ∷ []) word ≡ false
begins_other x [] [] e = refl
begins_other x [] (y ∷ word) e = and_left (x == y) true (not-true (x == y) (and_parts (not (x == y)) (lacks x word) e).0)
begins_other x (a ∷ w) [] e = refl
begins_other x (a ∷ w) (y ∷ word) e =
    and_right (a == y) (begins (w ++ x ∷ []) word) (begins_other x w word (and_parts (not (x == y)) (lacks x word) e).1)

abbrev pub rows_lack : ℕ → Rows → Bool
rows_lack x [] = true
rows_lack x (row ∷ rs) = lacks x row.0 && rows_lack x rs

begins_row_other : (x : ℕ) (w : List ℕ) (rs : Rows) → rows_lack x rs ≡ true → begins_row rs (w ++ x ∷ []) ≡ false
begins_row_other x w [] e = refl
begins_row_other x w (row ∷ rs) e =
    let parts = and_parts (lacks x row.0) (rows_lack x rs) e in
    or_from (begins (w ++ x ∷ []) row.0) (begins_row rs (w ++ x ∷ [])) (begins_other x w row.0 parts.0) (begins_row_other x w rs parts.1)

pub no_space : (w : List ℕ) → begins_row rows (w ++ 32 ∷ []) ≡ false
unfolding rows
no_space w = begins_row_other 32 w rows refl

pub no_nul : (w : List ℕ) → begins_row rows (w ++ 0 ∷ []) ≡ false
unfolding rows
no_nul w = begins_row_other 0 w rows refl

pub no_brace : (w : List ℕ) → begins_row rows (w ++ 123 ∷ []) ≡ false
unfolding rows
no_brace w = begins_row_other 123 w rows refl

pub no_return : (w : List ℕ) → begins_row rows (w ++ 13 ∷ []) ≡ false
unfolding rows
no_return w = begins_row_other 13 w rows refl

-- ---- a name is read

space-step : (w : List ℕ) (s : Params) → params_in rows w ≡ Some s → step (Word w) 32 ≡ leave s 32
space-step w s e = let none = no_space w in rw (none, e) refl

return-step : (w : List ℕ) (s : Params) → params_in rows w ≡ Some s → step (Word w) 13 ≡ leave s 13
return-step w s e = let none = no_return w in rw (none, e) refl

name_end : (w : List ℕ) (s : Params) (x : ℕ) (t : List ℕ) → step (Word w) x ≡ leave s x → run (Word w) (x ∷ t) ≡ run (Between s) (x ∷ t)
name_end w s x t e = ap (λ (u : LineState). run u t) e

named-run : (w : List ℕ) (s : Params) (t : List ℕ) → params_in rows w ≡ Some s → IsAfter s t → run (Word w) t ≡ run (Between s) t
named-run w LineEnd t e h = rw h (name_end w LineEnd 13 (10 ∷ []) (return-step w LineEnd e))
named-run w MaybeText t e (inl h) = rw h (name_end w MaybeText 13 (10 ∷ []) (return-step w MaybeText e))
named-run w MaybeText t e (inr h) = rw h.5 (name_end w MaybeText 32 (h.1 ++ h.2) (space-step w MaybeText e))
named-run w (ThenText more) t e h = rw h.5 (name_end w (ThenText more) 32 (h.1 ++ h.2) (space-step w (ThenText more) e))
named-run w ThenNumber t e h = rw h.4 (name_end w ThenNumber 32 (h.1 ++ 13 ∷ 10 ∷ []) (space-step w ThenNumber e))

pub word-run : (name p : List ℕ) (s : Params) (t : List ℕ) → params_in rows (p ++ map to_ascii_uppercase name) ≡ Some s → IsAfter s t → run (Word p) (name ++ t) ≡ run (Between s) t
word-run [] p s t e h = named-run p s t (ap (params_in rows) (sym (append-nil p)) ∙ e) h
word-run (x ∷ name) p s t e h =
    let next = p ++ to_ascii_uppercase x ∷ [] in
    let again : params_in rows (next ++ map to_ascii_uppercase name) ≡ Some s = ap (params_in rows) (append_assoc p (to_ascii_uppercase x ∷ []) (map to_ascii_uppercase name)) ∙ e in
    let on : begins_row rows next ≡ true = params_begins rows next (map to_ascii_uppercase name) s again in
    let once : step (Word p) x ≡ Word next = rw on refl in
    ap (λ (u : LineState). run u (name ++ t)) once ∙ word-run name next s t again h

-- ---- arguments fill what a row asks

pub data Fill : Params → List LineArgument → Type 0 where
  at_end : Fill LineEnd []
  without : Fill MaybeText []
  with_one : (v : List ℕ) → Fill MaybeText (Text v ∷ [])
  then_text : (v : List ℕ) {s : Params} {more : List LineArgument} → Fill s more → Fill (ThenText s) (Text v ∷ more)
  then_figure : (n : ℕ) → Fill ThenNumber (Figure n ∷ [])

pub fill_after : {s : Params} {arguments : List LineArgument} (f : Fill s arguments) (t : List ℕ) → AreLineArguments arguments t → IsAfter s t
fill_after at_end t h = h
fill_after without t h = inl h
fill_after (with_one v) t h = inr (v, h.0, h.1, h.2, h.3, h.4)
fill_after (then_text v f) t h = (v, h.0, h.1, h.2, fill_after f h.1 h.3, h.4)
fill_after (then_figure n) t h = (n, h.0, h.2.0, h.2.1, h.4 ∙ ap (λ (u : List ℕ). 32 ∷ (h.0 ++ u)) h.3)

pub after_fill : (s : Params) (t : List ℕ) → IsAfter s t → (arguments : List LineArgument) × Fill s arguments × AreLineArguments arguments t
after_fill LineEnd t h = ([], at_end, h)
after_fill MaybeText t (inl h) = ([], without, h)
after_fill MaybeText t (inr h) = (Text h.0 ∷ [], with_one h.0, (h.1, h.2, h.3, h.4, h.5))
after_fill (ThenText s) t h = let more = after_fill s h.2 h.4 in (Text h.0 ∷ more.0, then_text h.0 more.1, (h.1, h.2, h.3, more.2, h.5))
after_fill ThenNumber t h = (Figure h.0 ∷ [], then_figure h.0, (h.1, 13 ∷ 10 ∷ [], (h.2, h.3), refl, h.4))

-- ---- the rows are the commands

-- a command's arguments fill the row of its name
abbrev pub IsFilled : Form → Type 0
IsFilled (Named word arguments) = (s : Params) × (params_in rows word ≡ Some s) × Fill s arguments
IsFilled (Alone value) = Unit {0}

pub filled : (c : ClientCommand) → IsFilled (form_of c)
unfolding rows
filled Capability = (LineEnd, refl, at_end)
filled (Noop None) = (MaybeText, refl, without)
filled (Noop (Some tag)) = (MaybeText, refl, with_one tag)
filled Logout = (LineEnd, refl, at_end)
filled (Authenticate mechanism None) = (ThenText MaybeText, refl, then_text mechanism without)
filled (Authenticate mechanism (Some response)) = (ThenText MaybeText, refl, then_text mechanism (with_one response))
filled Unauthenticate = (LineEnd, refl, at_end)
filled (HaveSpace name size) = (ThenText ThenNumber, refl, then_text name (then_figure size))
filled (PutScript name script) = (ThenText (ThenText LineEnd), refl, then_text name (then_text script at_end))
filled (CheckScript script) = (ThenText LineEnd, refl, then_text script at_end)
filled ListScripts = (LineEnd, refl, at_end)
filled (SetActive name) = (ThenText LineEnd, refl, then_text name at_end)
filled (GetScript name) = (ThenText LineEnd, refl, then_text name at_end)
filled (DeleteScript name) = (ThenText LineEnd, refl, then_text name at_end)
filled (RenameScript old new) = (ThenText (ThenText LineEnd), refl, then_text old (then_text new at_end))
filled (Response text) = tt

-- the command of a name with these arguments
abbrev Has : List ℕ → List LineArgument → Type 0
Has word arguments = (c : ClientCommand) × (form_of c ≡ Named word arguments)

abbrev Handles : Rows → Type 0
Handles [] = Unit {0}
Handles (row ∷ rs) = ((arguments : List LineArgument) → Fill row.1 arguments → Has row.0 arguments) × Handles rs

handled : (rs : Rows) → Handles rs → (w : List ℕ) (s : Params) (arguments : List LineArgument) → params_in rs w ≡ Some s → Fill s arguments → Has w arguments
handled [] hs w s arguments e f = absurd cc
handled (row ∷ rs) hs w s arguments e f =
    elim (params_step (params_in rs w) row.0 w s row.1 e) [
      | inl h ↦ subst (λ (u : List ℕ). Has u arguments) h.0 (hs.0 arguments (rw h.1 f))
      | inr h ↦ handled rs hs.1 w s arguments h f
    ]

of_end : (word : List ℕ) (c : ClientCommand) → form_of c ≡ Named word [] → (arguments : List LineArgument) → Fill LineEnd arguments → Has word arguments
of_end word c e arguments at_end = (c, e)

of_text : (word : List ℕ) (c : List ℕ → ClientCommand) → ((v : List ℕ) → form_of (c v) ≡ Named word (Text v ∷ [])) → (arguments : List LineArgument) → Fill (ThenText LineEnd) arguments → Has word arguments
of_text word c e arguments (then_text v at_end) = (c v, e v)

of_texts : (word : List ℕ) (c : List ℕ → List ℕ → ClientCommand) → ((v u : List ℕ) → form_of (c v u) ≡ Named word (Text v ∷ Text u ∷ [])) → (arguments : List LineArgument) → Fill (ThenText (ThenText LineEnd)) arguments → Has word arguments
of_texts word c e arguments (then_text v (then_text u at_end)) = (c v u, e v u)

of_authenticate : (arguments : List LineArgument) → Fill (ThenText MaybeText) arguments → Has (codes "AUTHENTICATE") arguments
of_authenticate arguments (then_text v without) = (Authenticate v None, refl)
of_authenticate arguments (then_text v (with_one u)) = (Authenticate v (Some u), refl)

of_noop : (arguments : List LineArgument) → Fill MaybeText arguments → Has (codes "NOOP") arguments
of_noop arguments without = (Noop None, refl)
of_noop arguments (with_one v) = (Noop (Some v), refl)

of_space : (arguments : List LineArgument) → Fill (ThenText ThenNumber) arguments → Has (codes "HAVESPACE") arguments
of_space arguments (then_text v (then_figure n)) = (HaveSpace v n, refl)

pub named_command : (w : List ℕ) (s : Params) (arguments : List LineArgument) → params_in rows w ≡ Some s → Fill s arguments → Has w arguments
unfolding rows
named_command = handled rows (
  of_authenticate,
  (
    of_end _ Capability refl,
    (
      of_text _ CheckScript (λ v. refl),
      (
        of_text _ DeleteScript (λ v. refl),
        (
          of_text _ GetScript (λ v. refl),
          (
            of_space,
            (
              of_end _ ListScripts refl,
              (
                of_end _ Logout refl,
                (
                  of_noop,
                  (
                    of_texts _ PutScript (λ v u. refl),
                    (
                      of_texts _ RenameScript (λ v u. refl),
                      (
                        of_text _ SetActive (λ v. refl),
                        (of_end _ Unauthenticate refl, tt),
                      ),
                    ),
                  ),
                ),
              ),
            ),
          ),
        ),
      ),
    ),
  ),
)
