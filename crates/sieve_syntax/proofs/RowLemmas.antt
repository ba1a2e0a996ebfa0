-- A row of a table says one thing at most.
use Rattle.std.proofs.Common.{◌≡◌, ℕ, List, [], ◌∷◌, refl, sym, ap, ◌∙◌, subst}
use Rattle.octets.proofs.Lists.{some_is}
use Rattle.sieve_syntax.specs.declared.parser.argument.Argument.{Argument}
use Rattle.sieve_syntax.specs.declared.table.tag_group.TagValue.{TagValue}
use Rattle.sieve_syntax.specs.declared.table.tag_group.TagGroup.{TagGroup}
use Rattle.sieve_syntax.specs.Chains.{Chain}
use Rattle.sieve_syntax.specs.Rows.{IsList, IsTableRow}
use Rattle.sieve_syntax.specs.Tags.{IsAllowed, BeginsUntagged as IsPositional, IsSplit, IsCall}
use Rattle.sieve_syntax.proofs.TagLemmas.{tag_value_only, plain_none}

-- things one after another, up to where they are done, are one list
module _ {X L : Type 0} (one : X → List L → List L → Type 0) (done : List L → Type 0)
    (each : (x y : X) (from to end : List L) → one x from to → one y from end → (x ≡ y) × (to ≡ end))
    (stops : (x : X) (from to : List L) → done from → one x from to → ⊥) where
  pub chain_same : (xs ys : List X) (from to end : List L) → Chain one xs from to → done to → Chain one ys from end → done end → (xs ≡ ys) × (to ≡ end)
  chain_same [] [] from to end a p b q = (refl, sym a ∙ b)
  chain_same [] (y ∷ ys) from to end a p b q = absurd (stops y from b.0 (subst done (sym a) p) b.1.0)
  chain_same (x ∷ xs) [] from to end a p b q = absurd (stops x from a.0 (subst done (sym b) q) a.1.0)
  chain_same (x ∷ xs) (y ∷ ys) from to end a p b q =
      let same = each x y from a.0 b.0 a.1.0 b.1.0 in
      let later = chain_same xs ys b.0 to end (subst (λ l. Chain one xs l to) same.1 a.1.1) p b.1.1 q in
      (ap (λ z. z ∷ xs) same.0 ∙ ap (λ zs. y ∷ zs) later.0, later.1)

-- tagged arguments and positional ones
pub split_same : (allowed : List TagGroup) (args : List Argument) (s t : List TagValue) (p q : List Argument) → IsSplit allowed args s p → IsSplit allowed args t q → (s ≡ t) × (p ≡ q)
split_same allowed args s t p q a b =
    chain_same (IsAllowed allowed) IsPositional (λ x y l m n c d. let same = tag_value_only x y l m n c.0 d.0 in (sym same.0, sym same.1)) (λ x l m c d. plain_none x l m d.0 c)
    s t args p q a.written a.plain b.written b.plain

pub call_same : {X : Type 0} (allowed : List TagGroup) (Says : List TagValue → List Argument → X → Type 0) → ((tag_values : List TagValue) (positional : List Argument) (x y : X) → Says tag_values positional x → Says tag_values positional y → x ≡ y)
    → (args : List Argument) (x y : X) → IsCall allowed Says args x → IsCall allowed Says args y → x ≡ y
call_same allowed Says one args x y a b =
    let same = split_same allowed args a.tag_values b.tag_values a.positional b.positional a.split_tags b.split_tags in
    one b.tag_values b.positional x y (subst (λ p. Says b.tag_values p x) same.1 (subst (λ s. Says s a.positional x) same.0 a.says)) b.says

pub list_same : (args : List Argument) (x y : List (List ℕ)) → IsList args x → IsList args y → x ≡ y
list_same = call_same _ _ (λ tag_values positional x y a b. some_is x y (sym a ∙ b))

pub row_same : {X T : Type 0} (Is : List Argument → X → Type 0) (make : X → T) (args : List Argument) → ((x y : X) → Is args x → Is args y → x ≡ y) → (t u : T) → IsTableRow Is make args t → IsTableRow Is make args u → t ≡ u
row_same Is make args one t u a b = a.tree_is ∙ (ap make (one a.value b.value a.is b.is) ∙ sym b.tree_is)
