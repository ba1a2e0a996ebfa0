-- A gap is passed over, and what is passed over is a gap.
use Rattle.std.proofs.Common.{◌≡◌, ℕ, zero, suc, ◌+◌, ◌-◌, ◌<◌, ◌==◌, ◌⊎◌, ◌&&◌, ◌||◌, not, Bool, true, false, cond, Option, Some, None, List, [], ◌∷◌, drop, get_or, length, take, ◌≤◌, refl, ap, sym, ◌∙◌, subst, inl, inr, add-one, arith}
use Rattle.std.proofs.lemmas.List.{drop_more, drop_all, take_rest}
use Rattle.std.proofs.lemmas.Bool.{eqb-true, ne_eqb}
use Rattle.octets.proofs.Lists.{some_is}
use Rattle.mail_address.specs.Pieces.{Plain, Pair, CommentContent, End, Note, Nested, comment_before, IsCommentContent}
use Rattle.mail_dates.specs.Gaps.{Gap, Nothing, Space, Remark, gap_before, IsDateGap, is_space, opens_gap}
use Rattle.mail_dates.specs.Reading.{after_gap, next_state}

-- nothing but a gap's end stands here
abbrev pub IsStart : List ℕ → Type 0
IsStart [] = Unit {0}
IsStart (octet ∷ _) = opens_gap octet ≡ false

-- one step of the scan
pub gap_step : (text : List ℕ) (i depth : ℕ) (escaped : Bool) → i < length text → (depth == 0 && not (opens_gap (get_or text i 0))) ≡ false
    → after_gap (next_state depth escaped (get_or text i 0)).0 (next_state depth escaped (get_or text i 0)).1 (drop (i + 1) text) ≡ after_gap depth escaped (drop i text)
unfolding after_gap
gap_step text i depth escaped inside stays = sym (ap (after_gap depth escaped) (drop_more text i 0 inside) ∙ rw stays refl)

-- the end of the scan
pub gap_stop : (text : List ℕ) (i depth : ℕ) (escaped : Bool) → i < length text → (depth == 0 && not (opens_gap (get_or text i 0))) ≡ true
    → after_gap depth escaped (drop i text) ≡ Some (drop i text)
unfolding after_gap
gap_stop text i depth escaped inside stops = ap (after_gap depth escaped) (drop_more text i 0 inside) ∙ (rw stops refl ∙ ap Some (sym (drop_more text i 0 inside)))

at_start : (rest : List ℕ) → IsStart rest → after_gap 0 false rest ≡ Some rest
unfolding after_gap
at_start [] start = refl
at_start (octet ∷ more) start = rw start refl

space_cases : (octet : ℕ) → is_space octet ≡ true → (octet ≡ 32) ⊎ ((octet ≡ 9) ⊎ ((octet ≡ 13) ⊎ (octet ≡ 10)))
space_cases octet is = grind arith

at_space : (octet : ℕ) (more : List ℕ) → is_space octet ≡ true → after_gap 0 false (octet ∷ more) ≡ after_gap 0 false more
unfolding after_gap next_state
at_space octet more is =
    elim (space_cases octet is) [
      | inl e ↦ rw e refl
      | inr (inl e) ↦ rw e refl
      | inr (inr (inl e)) ↦ rw e refl
      | inr (inr (inr e)) ↦ rw e refl
    ]

deep : (depth : ℕ) → (suc depth == 0) ≡ false
deep depth = ne_eqb (suc depth) 0 (λ e. absurd (omega arith))

at_opening : (depth : ℕ) (more : List ℕ) → after_gap depth false (40 ∷ more) ≡ after_gap (suc depth) false more
unfolding after_gap next_state
at_opening zero more = refl
at_opening (suc depth) more = rw (deep depth, add-one (suc depth)) refl

down : (depth : ℕ) → suc depth - 1 ≡ depth
down depth = omega arith

at_closing : (depth : ℕ) (more : List ℕ) → after_gap (suc depth) false (41 ∷ more) ≡ after_gap depth false more
unfolding after_gap next_state
at_closing depth more = rw (deep depth, down depth) refl

at_pair : (depth octet : ℕ) (more : List ℕ) → after_gap (suc depth) false (92 ∷ (octet ∷ more)) ≡ after_gap (suc depth) false more
unfolding after_gap next_state
at_pair depth octet more = rw (deep depth) refl

at_plain : (depth octet : ℕ) (more : List ℕ) → (octet == 92) ≡ false → (octet == 40) ≡ false → (octet == 41) ≡ false → after_gap (suc depth) false (octet ∷ more) ≡ after_gap (suc depth) false more
unfolding after_gap next_state
at_plain depth octet more slash opens closes = rw (deep depth, slash, opens, closes) refl

notes_passed : (depth : ℕ) (notes : CommentContent) (rest : List ℕ) → IsCommentContent notes → after_gap (suc depth) false (comment_before notes rest) ≡ after_gap (suc depth) false rest
notes_passed depth End rest plain = refl
notes_passed depth (Note (Plain octet) more) rest plain = at_plain depth octet (comment_before more rest) plain.0 plain.1.0 plain.1.1.0 ∙ notes_passed depth more rest plain.1.1.1
notes_passed depth (Note (Pair octet) more) rest plain = at_pair depth octet (comment_before more rest) ∙ notes_passed depth more rest plain
notes_passed depth (Nested inner more) rest plain = at_opening (suc depth) (comment_before inner (41 ∷ comment_before more rest)) ∙ notes_passed (suc depth) inner (41 ∷ comment_before more rest) plain.0 ∙ at_closing (suc depth) (comment_before more rest) ∙ notes_passed depth more rest plain.1

gap_passed : (gap : Gap) (rest : List ℕ) → IsDateGap gap → after_gap 0 false (gap_before gap rest) ≡ after_gap 0 false rest
gap_passed Nothing rest is = refl
gap_passed (Space octet more) rest is = at_space octet (gap_before more rest) is.0 ∙ gap_passed more rest is.1
gap_passed (Remark notes more) rest is = at_opening 0 (comment_before notes (41 ∷ gap_before more rest)) ∙ notes_passed 0 notes (41 ∷ gap_before more rest) is.0 ∙ at_closing 0 (gap_before more rest) ∙ gap_passed more rest is.1

-- a gap is passed over
pub gap_again : (gap : Gap) (rest : List ℕ) → IsDateGap gap → IsStart rest → after_gap 0 false (gap_before gap rest) ≡ Some rest
gap_again gap rest is start = gap_passed gap rest is ∙ at_start rest start

-- a gap, and what follows it
pub record IsLed (text rest : List ℕ) : Type 0 where
  pub gap : Gap
  pub is_gap : IsDateGap gap
  pub starts : IsStart rest
  pub spelled : text ≡ gap_before gap rest

-- the ends of that many comments, and then a gap
abbrev Leads : ℕ → List ℕ → List ℕ → Type 0
Leads zero text rest = IsLed text rest
Leads (suc depth) text rest = (notes : CommentContent) × ((after : List ℕ) × (IsCommentContent notes × ((text ≡ comment_before notes (41 ∷ after)) × Leads depth after rest)))

led_end : (rest : List ℕ) → IsStart rest → IsLed rest rest
led_end rest start = record { gap = Nothing; is_gap = tt; starts = start; spelled = refl }

led_space : (octet : ℕ) (more rest : List ℕ) → is_space octet ≡ true → IsLed more rest → IsLed (octet ∷ more) rest
led_space octet more rest is led = record { gap = Space octet led.gap; is_gap = (is, led.is_gap); starts = led.starts; spelled = ap (λ s. octet ∷ s) led.spelled }

led_remark : (more rest : List ℕ) → Leads 1 more rest → IsLed (40 ∷ more) rest
led_remark more rest (notes, (after, (plain, (is, led)))) =
    record { gap = Remark notes led.gap; is_gap = (plain, led.is_gap); starts = led.starts; spelled = ap (λ s. 40 ∷ s) (is ∙ ap (λ s. comment_before notes (41 ∷ s)) led.spelled) }

leads_plain : (depth octet : ℕ) (more rest : List ℕ) → (octet == 92) ≡ false → (octet == 40) ≡ false → (octet == 41) ≡ false → Leads (suc depth) more rest → Leads (suc depth) (octet ∷ more) rest
leads_plain depth octet more rest a b d (notes, (after, (plain, (is, led)))) = (Note (Plain octet) notes, (after, ((a, (b, (d, plain))), (ap (λ s. octet ∷ s) is, led))))

leads_pair : (depth octet : ℕ) (more rest : List ℕ) → Leads (suc depth) more rest → Leads (suc depth) (92 ∷ (octet ∷ more)) rest
leads_pair depth octet more rest (notes, (after, (plain, (is, led)))) = (Note (Pair octet) notes, (after, (plain, (ap (λ s. 92 ∷ (octet ∷ s)) is, led))))

leads_open : (depth : ℕ) (more rest : List ℕ) → Leads (suc (suc depth)) more rest → Leads (suc depth) (40 ∷ more) rest
leads_open depth more rest (notes, (after, (plain, (is, (others, (end, (plains, (same, led)))))))) =
    (Nested notes others, (end, ((plain, plains), (ap (λ s. 40 ∷ s) (is ∙ ap (λ s. comment_before notes (41 ∷ s)) same), led))))

leads_close : (depth : ℕ) (more rest : List ℕ) → Leads depth more rest → Leads (suc depth) (41 ∷ more) rest
leads_close depth more rest led = (End, (more, (tt, (refl, led))))

or_cases : (a b : Bool) → (a || b) ≡ true → (a ≡ true) ⊎ (b ≡ true)
or_cases true b is = inl refl
or_cases false b is = inr is

opens_cases : (octet : ℕ) → opens_gap octet ≡ true → (is_space octet ≡ true) ⊎ ((octet == 40) ≡ true)
opens_cases octet is = or_cases (is_space octet) (octet == 40) is

either : (b : Bool) → (b ≡ true) ⊎ (b ≡ false)
either true = inl refl
either false = inr refl

-- a closing parenthesis, or another octet
leads_on : (depth octet : ℕ) (more rest : List ℕ) → (octet == 92) ≡ false → after_gap (suc depth) false (octet ∷ more) ≡ Some rest
    → (after_gap (suc (suc depth)) false more ≡ Some rest → Leads (suc (suc depth)) more rest)
    → (after_gap depth false more ≡ Some rest → Leads depth more rest)
    → (after_gap (suc depth) false more ≡ Some rest → Leads (suc depth) more rest)
    → Leads (suc depth) (octet ∷ more) rest
leads_on depth octet more rest plain found deeper higher same =
    elim (either (octet == 40)) [
      | inl opens ↦
          let e : octet ≡ 40 = eqb-true octet 40 opens in
          let there : after_gap (suc depth) false (40 ∷ more) ≡ Some rest = subst (λ (o : ℕ). after_gap (suc depth) false (o ∷ more) ≡ Some rest) e found in
          subst (λ (o : ℕ). Leads (suc depth) (o ∷ more) rest) (sym e) (leads_open depth more rest (deeper (sym (at_opening (suc depth) more) ∙ there)))
      | inr within ↦ elim (either (octet == 41)) [
        | inl closes ↦
            let e : octet ≡ 41 = eqb-true octet 41 closes in
            let there : after_gap (suc depth) false (41 ∷ more) ≡ Some rest = subst (λ (o : ℕ). after_gap (suc depth) false (o ∷ more) ≡ Some rest) e found in
            subst (λ (o : ℕ). Leads (suc depth) (o ∷ more) rest) (sym e) (leads_close depth more rest (higher (sym (at_closing depth more) ∙ there)))
        | inr other ↦ leads_plain depth octet more rest plain within other (same (sym (at_plain depth octet more plain within other) ∙ found))
      ]
    ]

leads_out : (octet : ℕ) (more rest : List ℕ) → after_gap 0 false (octet ∷ more) ≡ Some rest
    → (after_gap 0 false more ≡ Some rest → IsLed more rest)
    → (after_gap 1 false more ≡ Some rest → Leads 1 more rest)
    → IsLed (octet ∷ more) rest
leads_out octet more rest found same deeper =
    elim (either (opens_gap octet)) [
      | inl opens ↦ elim (opens_cases octet opens) [
        | inl is ↦ led_space octet more rest is (same (sym (at_space octet more is) ∙ found))
        | inr is ↦
            let e : octet ≡ 40 = eqb-true octet 40 is in
            let there : after_gap 0 false (40 ∷ more) ≡ Some rest = subst (λ (o : ℕ). after_gap 0 false (o ∷ more) ≡ Some rest) e found in
            subst (λ (o : ℕ). IsLed (o ∷ more) rest) (sym e) (led_remark more rest (deeper (sym (at_opening 0 more) ∙ there)))
      ]
      | inr closed ↦
          let there : octet ∷ more ≡ rest = some_is (octet ∷ more) rest (sym (at_start (octet ∷ more) closed) ∙ found) in
          subst (λ (r : List ℕ). IsLed (octet ∷ more) r) there (led_end (octet ∷ more) closed)
    ]

lost : (depth : ℕ) (rest : List ℕ) → after_gap (suc depth) true [] ≡ Some rest → ⊥
unfolding after_gap
lost depth rest found = let none : None ≡ Some rest = rw (deep depth) at found in absurd (cc)

at_slash : (depth octet : ℕ) (more : List ℕ) → (octet == 92) ≡ true → after_gap (suc depth) false (octet ∷ more) ≡ after_gap (suc depth) true more
unfolding after_gap next_state
at_slash depth octet more is = rw (deep depth, is) refl

after_pair : (depth octet : ℕ) (more : List ℕ) → after_gap (suc depth) true (octet ∷ more) ≡ after_gap (suc depth) false more
unfolding after_gap next_state
after_pair depth octet more = rw (deep depth) refl

-- what is passed over is gaps
leads : (text : List ℕ) (depth : ℕ) (rest : List ℕ) → after_gap depth false text ≡ Some rest → Leads depth text rest
unfolding after_gap
leads [] zero rest found = subst (λ (r : List ℕ). IsLed [] r) (some_is [] rest found) (led_end [] tt)
leads [] (suc depth) rest found = let none : None ≡ Some rest = rw (deep depth) at found in absurd (cc)
leads (octet ∷ more) zero rest found = leads_out octet more rest found (leads more 0 rest) (leads more 1 rest)
leads (octet ∷ []) (suc depth) rest found =
    elim (either (octet == 92)) [
      | inl slash ↦ absurd (lost depth rest (sym (at_slash depth octet [] slash) ∙ found))
      | inr plain ↦ leads_on depth octet [] rest plain found (leads [] (suc (suc depth)) rest) (leads [] depth rest) (leads [] (suc depth) rest)
    ]
leads (octet ∷ (next ∷ more)) (suc depth) rest found =
    elim (either (octet == 92)) [
      | inl slash ↦
          let e : octet ≡ 92 = eqb-true octet 92 slash in
          let there = sym (after_pair depth next more) ∙ (sym (at_slash depth octet (next ∷ more) slash) ∙ found) in
          subst (λ (o : ℕ). Leads (suc depth) (o ∷ (next ∷ more)) rest) (sym e) (leads_pair depth next more rest (leads more (suc depth) rest there))
      | inr plain ↦ leads_on depth octet (next ∷ more) rest plain found (leads (next ∷ more) (suc (suc depth)) rest) (leads (next ∷ more) depth rest) (leads (next ∷ more) (suc depth) rest)
    ]

-- what is passed over is a gap
pub gap_is : (text rest : List ℕ) → after_gap 0 false text ≡ Some rest → IsLed text rest
gap_is text rest found = leads text 0 rest found

-- the scan's test
pub stops_at : (depth octet : ℕ) (opens : Bool) → depth ≡ 0 → opens ≡ opens_gap octet → opens ≡ false → (depth == 0 && not (opens_gap octet)) ≡ true
stops_at depth octet opens outside is closed = rw (outside, sym is, closed) refl

pub stays_open : (depth octet : ℕ) (opens : Bool) → depth ≡ 0 → opens ≡ opens_gap octet → opens ≡ true → (depth == 0 && not (opens_gap octet)) ≡ false
stays_open depth octet opens outside is opened = rw (outside, sym is, opened) refl

pub stays_inside : (depth octet : ℕ) → (depth ≡ 0 → ⊥) → (depth == 0 && not (opens_gap octet)) ≡ false
stays_inside depth octet inside = rw (ne_eqb depth 0 inside) refl

-- the rest of a text as the code cuts it
pub rest_of : (text : List ℕ) (i : ℕ) → take (length text - i) (drop i text) ≡ drop i text
rest_of text i = take_rest text i

pub at_end : (text : List ℕ) (i depth : ℕ) (escaped : Bool) → length text ≤ i → after_gap depth escaped (drop i text) ≡ cond (depth == 0) (Some []) None
unfolding after_gap
at_end text i depth escaped past = rw (drop_all i text past) refl

-- one step of the loop
pub loop_kept : (text : List ℕ) (i depth : ℕ) (escaped : Bool) (state : ℕ × Bool) (whole : Option (List ℕ)) → i < length text
    → (depth == 0 && not (opens_gap (get_or text i 0))) ≡ false → state ≡ next_state depth escaped (get_or text i 0)
    → after_gap depth escaped (drop i text) ≡ whole → after_gap state.0 state.1 (drop (i + 1) text) ≡ whole
loop_kept text i depth escaped state whole inside stays is before = rw is (gap_step text i depth escaped inside stays ∙ before)

pub loop_done : (text : List ℕ) (i depth : ℕ) (escaped : Bool) (whole : Option (List ℕ)) → length text ≤ i → depth ≡ 0
    → after_gap depth escaped (drop i text) ≡ whole → whole ≡ Some (take (length text - length text) (drop (length text) text))
loop_done text i depth escaped whole past out before =
    sym before ∙ (at_end text i depth escaped past ∙ (rw out refl ∙ ap Some (sym (rest_of text (length text) ∙ drop_all (length text) text (omega arith)))))

pub loop_lost : (text : List ℕ) (i depth : ℕ) (escaped : Bool) (whole : Option (List ℕ)) → length text ≤ i → (depth ≡ 0 → ⊥)
    → after_gap depth escaped (drop i text) ≡ whole → whole ≡ None
loop_lost text i depth escaped whole past inside before = sym before ∙ (at_end text i depth escaped past ∙ rw (ne_eqb depth 0 inside) refl)
