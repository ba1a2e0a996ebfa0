-- The least of what is there: of the row that a query shows, and of two parts of which one comes first.
use Rattle.std.proofs.Common.{◌≡◌, ◌⊎◌, Bool, true, false, List, [], ◌∷◌, map, slice_get, Option, Some, None, option_map, Result, Ok, Err, IfOk, refl, sym, ap, ◌∙◌, subst, inl, inr, Ordering, Less, Equal, Greater, is_gt, true≢false}
use Rattle.std.specs.Cmp.{IsTotalOrder}
use Rattle.std.specs.Ordering.{ordering_reverse}
use Rattle.sqlite_value.specs.Order.{Row}
use Rattle.sqlite_rules.specs.Lists.{Has}
use Rattle.sqlite_sql.specs.Query.{Output}
use Rattle.store_tables.proofs.AnswerLemmas.{has_map, has_unmap}
use Rattle.store_tables.proofs.FirstRowLemmas.{ShowsFirst}
use Rattle.store_accounts.specs.Next.{IsLeast, ShowLeast}

-- ---- of a row that is shown

-- the tests of the query say what holds, and its keys the order
module _ {X : Type 0} (shows : X → Row) (cut : Row → Row) (twice : (c : Row) → cut (cut c) ≡ cut c) (cmp : X → X → Ordering) (total : IsTotalOrder cmp) (Holds : X → Type 0) (table : List Row) (by : Output → Output → Ordering) (p : Row → Bool)
    (whole : (c : Row) → p c ≡ p (cut c)) (tells : (x : X) → p (shows x) ≡ true → Holds x) (told : (x : X) → Holds x → p (shows x) ≡ true) (orders : (x y : X) → by (shows x, shows x) (shows y, shows y) ≡ cmp x y) where
  abbrev There : X → Type 0
  There x = Has (map cut table) (shows x)

  abbrev both : Row → Output
  both c = (cut c, cut c)

  lower : (x y : X) → is_gt (cmp x y) ≡ false → ¬ (cmp y x ≡ Less)
  lower x y up low = true≢false (sym (ap is_gt (total.antisymm x y ∙ ap ordering_reverse low)) ∙ up)

  pub row_least : (rows : List Row) → ShowsFirst by p both table rows → ShowLeast shows cut cmp There Holds rows
  row_least [] none None shown = λ x there holds.
      let at = has_unmap cut table (shows x) there in
      none at.0 at.1 (whole at.0 ∙ ap p (sym at.2) ∙ told x holds)
  row_least [] none (Some least) shown = absurd (let no = shown in cc)
  row_least (r ∷ more) first None shown = absurd (let no = shown in cc)
  row_least (r ∷ more) first (Some least) shown =
      let c = first.0 in
      let row : shows least ≡ cut r = cc in
      let same : shows least ≡ cut c = row ∙ ap cut first.3 ∙ twice c in (
        subst (Has (map cut table)) (sym same) (has_map cut table c first.1),
        tells least (ap p same ∙ sym (whole c) ∙ first.2),
        λ x there holds.
            let at = has_unmap cut table (shows x) there in
            let up : is_gt (by (cut c, cut c) (cut at.0, cut at.0)) ≡ false = first.4 at.0 at.1 (whole at.0 ∙ ap p (sym at.2) ∙ told x holds) in
            lower least x (sym (ap is_gt (orders least x)) ∙ ap (λ l. is_gt (by (l, l) (shows x, shows x))) same ∙ ap (λ l. is_gt (by (cut c, cut c) (l, l))) at.2 ∙ up),
      )

-- ---- of two parts

module _ {X : Type 0} (cmp : X → X → Ordering) (There A B : X → Type 0) where
  -- where the first one has none
  pub second_least : (o : Option X) → IsLeast cmp There A None → IsLeast cmp There B o → IsLeast cmp There (λ x. A x ⊎ B x) o
  second_least None none other = λ x there h. elim h [ inl a ↦ none x there a | inr b ↦ other x there b ]
  second_least (Some least) none other = (other.0, inr other.1, λ x there h. elim h [ inl a ↦ absurd (none x there a) | inr b ↦ other.2 x there b ])

  -- where it has one, and comes before the second
  pub first_least : ((x y : X) → A x → B y → cmp y x ≡ Less → ⊥) → (least : X) → IsLeast cmp There A (Some least) → IsLeast cmp There (λ x. A x ⊎ B x) (Some least)
  first_least before least first = (first.0, inl first.1, λ x there h. elim h [ inl a ↦ first.2 x there a | inr b ↦ before least x first.1 b ])

  -- told otherwise
  pub least_told : ((x : X) → A x → B x) → ((x : X) → B x → A x) → (o : Option X) → IsLeast cmp There A o → IsLeast cmp There B o
  least_told to back None none = λ x there b. none x there (back x b)
  least_told to back (Some least) first = (first.0, to least first.1, λ x there b. first.2 x there (back x b))

-- ---- what was read of the row

pub shown_least : {X E : Type 0} (shows : X → Row) (cut : Row → Row) (cmp : X → X → Ordering) (There Holds : X → Type 0) (r : Result (Option X) E) (rows items : List Row) → rows ≡ items → ShowLeast shows cut cmp There Holds items
    → IfOk r (λ first. option_map shows first ≡ option_map cut (slice_get rows 0)) → IfOk r (λ first. IsLeast cmp There Holds first)
shown_least shows cut cmp There Holds (Err e) rows items same least h = tt
shown_least shows cut cmp There Holds (Ok first) rows items same least h = least first (h ∙ ap (λ l. option_map cut (slice_get l 0)) same)
