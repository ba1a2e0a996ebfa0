-- Lemmas on lines one after the other.
use Rattle.std.proofs.Common.{◌≡◌, ℕ, List, [], ◌∷◌, ◌++◌, Option, Some, None, refl, sym, ap, ◌∙◌, subst, append-nil, append_assoc}
use Rattle.std.specs.Option.{option_to_list}
use Rattle.dovecot_userdb.specs.Lines.{HasNone, CutsAt, userdb_line_end, lines_written, AreUserdbLines}
use Rattle.dovecot_userdb.specs.Talks.{HearsUserdbLine, HearsEach, HearsUserdbLines}
use Rattle.dovecot_userdb.specs.declared.answer.UserdbReply.{UserdbReply}
use Rattle.dovecot_userdb.specs.declared.talk.UserdbTalk.{UserdbTalk}

-- so far: these lines are heard, and this is left
pub record HearsSome (octets : List ℕ) (t : UserdbTalk) (told : List UserdbReply) (left : List ℕ) (u : UserdbTalk) : Type 0 where
  pub lines : List (List ℕ)
  pub each : AreUserdbLines lines
  pub written : octets ≡ lines_written lines ++ left
  pub hears : HearsEach lines t told u

pub some_none : (octets : List ℕ) (t : UserdbTalk) → HearsSome octets t [] octets t
some_none octets t = record { lines = []; each = tt; written = refl; hears = (refl, refl) }

pub lines-append : (a b : List (List ℕ)) → lines_written (a ++ b) ≡ lines_written a ++ lines_written b
lines-append [] b = refl
lines-append (line ∷ a) b =
    ap (λ (l : List ℕ). line ++ (userdb_line_end ∷ l)) (lines-append a b) ∙ sym (append_assoc line (userdb_line_end ∷ lines_written a) (lines_written b))

pub are-append : (a b : List (List ℕ)) → AreUserdbLines a → AreUserdbLines b → AreUserdbLines (a ++ b)
are-append [] b one two = two
are-append (line ∷ a) b one two = (one.0, are-append a b one.1 two)

pub each-append : (a b : List (List ℕ)) (t u v : UserdbTalk) (x y : List UserdbReply) → HearsEach a t x u → HearsEach b u y v → HearsEach (a ++ b) t (x ++ y) v
each-append [] b t u v x y one two =
    subst (λ (w : UserdbTalk). HearsEach b w (x ++ y) v) (one.1) (subst (λ (z : List UserdbReply). HearsEach b u (z ++ y) v) (sym one.0) two)
each-append (line ∷ a) b t u v x y (first, (next, (more, (line_is, rest, told)))) two =
    (first, (next, (more ++ y, (line_is, each-append a b next u v more y rest two, ap (λ (z : List UserdbReply). z ++ y) told ∙ append_assoc (option_to_list first) more y))))

one_line : (line : List ℕ) (t u : UserdbTalk) (told : Option UserdbReply) → HearsUserdbLine line t told u → HearsEach (line ∷ []) t (option_to_list told) u
one_line line t u told hears = (told, (u, ([], (hears, (refl, refl), sym (append-nil (option_to_list told))))))

-- one line more
pub some_more : (octets : List ℕ) (t u v : UserdbTalk) (told : List UserdbReply) (left line rest : List ℕ) (first : Option UserdbReply) → HearsSome octets t told left u → CutsAt userdb_line_end left line (Some rest)
    → HearsUserdbLine line u first v → HearsSome octets t (told ++ option_to_list first) rest v
some_more octets t u v told left line rest first some cut hears = record {
  lines = some.lines ++ line ∷ [];
  each = are-append some.lines (line ∷ []) some.each (cut.none, tt);
  written =
      some.written ∙ (ap (λ (l : List ℕ). lines_written some.lines ++ l) (cut.written ∙ sym (append_assoc line (userdb_line_end ∷ []) rest))
      ∙ (sym (append_assoc (lines_written some.lines) (line ++ userdb_line_end ∷ []) rest) ∙ ap (λ (l : List ℕ). l ++ rest) (sym (lines-append some.lines (line ∷ [])))));
  hears = each-append some.lines (line ∷ []) t u v told (option_to_list first) some.hears (one_line line u v first hears);
}

-- no line is left
pub some_all : (octets : List ℕ) (t u : UserdbTalk) (told : List UserdbReply) (left line : List ℕ) → HearsSome octets t told left u → CutsAt userdb_line_end left line None → HearsUserdbLines octets t told left u
some_all octets t u told left line some cut =
    let same : left ≡ line = cut.written ∙ append-nil line in
    record {
      lines = some.lines;
      cut = record { each = some.each; part = subst (λ (l : List ℕ). HasNone userdb_line_end l) (sym same) cut.none; written = some.written };
      hears = some.hears;
    }
