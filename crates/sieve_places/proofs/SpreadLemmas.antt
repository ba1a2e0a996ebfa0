-- Tokens of a text are within it.
use Rattle.std.proofs.Common.{◌≡◌, ◌∙◌, ◌+◌, ◌<◌, ◌≤◌, ◌^◌, ◌==◌, ℕ, true, false, cond, not, List, [], ◌∷◌, ◌++◌, codes, length, map, take, drop, Option, Some, None, Result, Ok, Err, refl, sym, ap, arith}
use Rattle.std.specs.Prelude.{IfOk, option_and_then, slice_get}
use Rattle.std.specs.List.{All, AllByRecursion}
use Rattle.std.proofs.lemmas.Bool.{le-ltb}
use Rattle.std.proofs.lemmas.List.{append-nil, take_all}
use Rattle.std.proofs.lemmas.List.Elements.{All-from_recursion}
use Rattle.std.proofs.lemmas.List.Sums.{count_by-le-length}
use Rattle.sieve_lex.specs.Faults.{fault_number}
use Rattle.sieve_lex.specs.Spelling.{IsPlaced, SpellsFrom, SpellsTokens}
use Rattle.sieve_lex.specs.Text.{is_line_feed, line_ends}
use Rattle.sieve_lex.specs.declared.fault.FaultKind.{FaultKind}
use Rattle.sieve_lex.specs.declared.fault.ScriptFault.{ScriptFault}
use Rattle.sieve_lex.specs.declared.token.Token.{Token}
use Rattle.sieve_lex.proofs.Next.{next_placed}
use Rattle.sieve_places.specs.Picks.{pick_at}
use Rattle.sieve_places.specs.Places.{IsCheckedAs, IsSpreadPlace, place_after, place_of_pick, place_of_token, shown_octet, shown_word}
use Rattle.sieve_places.specs.Spread.{spread_text, token_on}
use Rattle.sieve_places.specs.declared.find.FaultPlace.{FaultPlace}
use Rattle.sieve_places.specs.declared.pick.PickedToken.{PickedToken}

placed_each : (text : List ℕ) (from : ℕ) (ts : List Token) → SpellsFrom text from ts → AllByRecursion (IsPlaced text) ts
placed_each text from [] h = tt
placed_each text from (t ∷ ts) h = ((next_placed text from t h.0).1, placed_each text t.end ts h.1)

pub placed_all : (text : List ℕ) (ts : List Token) → SpellsFrom text 0 ts → All (IsPlaced text) ts
placed_all text ts h = All-from_recursion (IsPlaced text) ts (placed_each text 0 ts h)

-- ---- the place that the check of the spread text tells

module _ (text : List ℕ) (kind : FaultKind) (ts : List Token) (written : SpellsTokens text ts) where
  pub place_if_valid : IsCheckedAs (spread_text text ts) None → IsSpreadPlace text kind None
  place_if_valid checked = record { tokens = ts; written = written; verdict = None; checked = checked; found = refl }

  module _ (fault : ScriptFault) (checked : IsCheckedAs (spread_text text ts) (Some fault)) where
    abbrev placing : Option ℕ → Option FaultPlace
    placing index = option_and_then (place_after text ts kind) index

    pub place_if_other : (fault_number fault.kind == fault_number kind) ≡ false → IsSpreadPlace text kind None
    place_if_other other = record { tokens = ts; written = written; verdict = Some fault; checked = checked; found = sym (ap (λ b. cond b (placing (token_on text fault.line ts)) None) other) }

    pub place_if_none : (fault_number fault.kind == fault_number kind) ≡ true → None ≡ token_on text fault.line ts → IsSpreadPlace text kind None
    place_if_none same none = record {
      tokens = ts;
      written = written;
      verdict = Some fault;
      checked = checked;
      found = ap placing none ∙ sym (ap (λ b. cond b (placing (token_on text fault.line ts)) None) same);
    }

    pub place_if_found : {E : Type 0} → (fault_number fault.kind == fault_number kind) ≡ true → (index : ℕ) → Some index ≡ token_on text fault.line ts
        → (r : Result (Option FaultPlace) E) → IfOk r (λ place. place ≡ place_after text ts kind index) → IfOk r (IsSpreadPlace text kind)
    place_if_found same index at (Err e) h = tt
    place_if_found same index at (Ok place) h = record {
      tokens = ts;
      written = written;
      verdict = Some fault;
      checked = checked;
      found = h ∙ (ap placing at ∙ sym (ap (λ b. cond b (placing (token_on text fault.line ts)) None) same));
    }

-- a line is no later than the text is long
pub line_small : (text : List ℕ) (line : ℕ) → line ≤ 1 + line_ends text → length text < 2 ^ 63 → line ≤ 2 ^ 63
line_small text line within short = omega (arith, count_by-le-length is_line_feed text)

-- ---- one token

pub placed_so : (text : List ℕ) (ts : List Token) (kind : FaultKind) (index : ℕ) (pick : PickedToken) (t : Token) (place : FaultPlace)
    → Some pick ≡ pick_at kind (take (index + 1) ts) (not (length (drop (index + 1) ts) == 0)) → Some t ≡ slice_get ts pick.index → place ≡ place_of_token text pick.is_exact t
    → Some place ≡ place_after text ts kind index
placed_so text ts kind index pick t place picked there is =
    ap Some is ∙ (ap (option_and_then (λ u. Some (place_of_token text pick.is_exact u))) there ∙ ap (option_and_then (place_of_pick text ts)) picked)

-- ---- a word that is shown

pub short_word : (word : List ℕ) → length word ≤ 64 → shown_word word ≡ map shown_octet word
unfolding shown_word
short_word word short =
    ap (λ b. map shown_octet (take 64 word) ++ cond b (codes "..") []) (le-ltb 64 (length word) short) ∙ (append-nil (map shown_octet (take 64 word)) ∙ ap (map shown_octet) (take_all 64 word short))
