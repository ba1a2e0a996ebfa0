-- Lemmas on the rows of the table.
use Rattle.std.proofs.Common.{◌≡◌, ℕ, List, [], Option, Result, Ok, Err, refl, sym, ap, ◌∙◌, subst}
use Rattle.octets.proofs.Lists.{some_is, some_pair}
use Rattle.sieve_syntax.specs.declared.error.ParseError.{ParseError}
use Rattle.sieve_syntax.specs.declared.tree.checks.Size.{Size}
use Rattle.sieve_syntax.specs.declared.tree.checks.Header.{Header}
use Rattle.sieve_syntax.specs.declared.tree.checks.Address.{Address}
use Rattle.sieve_syntax.specs.declared.parser.argument.Argument.{Argument}
use Rattle.sieve_syntax.specs.declared.table.tag_group.TagValue.{TagValue}
use Rattle.sieve_syntax.specs.declared.table.tag_group.TagGroup.{TagGroup}
use Rattle.sieve_syntax.specs.Parsing.{FindsValue, OnParseFault}
use Rattle.sieve_syntax.specs.Tags.{IsSplit, IsSplitAlone, IsCall}
use Rattle.sieve_syntax.specs.Table.{SaysSize, SaysHeader, SaysAddress, SaysKeep}
use Rattle.sieve_syntax.specs.Rows.{IsTableRow, IsBareWord}
use Rattle.sieve_syntax.proofs.FaultLemmas.{fault_on}

-- the rows of words with arguments
module _ {X T : Type 0} (Is : List Argument → X → Type 0) (make : X → T) (args : List Argument) (May : T → Type 0) where
  -- where the arguments say one thing, the row stands for one tree
  pub row_only : (x : X) → ((y : X) → Is args y → y ≡ x) → (tree : T) → IsTableRow Is make args tree → tree ≡ make x
  row_only x only tree row = row.tree_is ∙ ap make (only row.value row.is)

  -- where they say one thing that fits, it stands for one tree that does
  pub row_fits : (x : X) → Is args x × May (make x) × ((y : X) → Is args y → y ≡ x) → IsTableRow Is make args (make x) × May (make x) × ((tree : T) → IsTableRow Is make args tree → tree ≡ make x)
  row_fits x fits = (record { value = x; is = fits.0; tree_is = refl }, fits.1, row_only x fits.2)

  -- a fault in the arguments
  pub row_fault : (e : ParseError) → OnParseFault e ((x : X) → Is args x → ⊥) → OnParseFault e ((tree : T) → IsTableRow Is make args tree → May tree → ⊥)
  row_fault e h = fault_on e _ _ (λ none tree row may. none row.value row.is) h

  -- a fault in the arguments, or arguments that don't fit where they have to
  pub fit_fault : (Fit : X → Type 0) → ((x : X) → May (make x) → Fit x) → (e : ParseError) → OnParseFault e ((x : X) → Is args x → Fit x → ⊥) → OnParseFault e ((tree : T) → IsTableRow Is make args tree → May tree → ⊥)
  fit_fault Fit asks e h = fault_on e _ _ (λ none tree row may. none row.value row.is (asks row.value (subst May row.tree_is may))) h

-- the rows of words without
module _ {T : Type 0} (bare : T) (args : List Argument) (May : T → Type 0) where
  pub bare_fault : (e : ParseError) → OnParseFault e (args ≡ [] → ⊥) → OnParseFault e ((tree : T) → IsBareWord bare args tree → May tree → ⊥)
  bare_fault e h = fault_on e _ _ (λ some tree row may. some row.none) h

-- the arguments say what their tags and positional arguments say
module _ {X : Type 0} (allowed : List TagGroup) (Says : List TagValue → List Argument → X → Type 0) (args : List Argument) (tag_values : List TagValue) (positional : List Argument)
    (only : IsSplitAlone allowed args tag_values positional) where
  says_split : (x : X) → IsCall allowed Says args x → Says tag_values positional x
  says_split x call =
      let same = only call.tag_values call.positional call.split_tags in
      subst (λ p. Says tag_values p x) same.1 (subst (λ s. Says s call.positional x) same.0 call.says)

  pub call_finds : IsSplit allowed args tag_values positional → (found : Result X ParseError) → FindsValue (Says tag_values positional) found → FindsValue (IsCall allowed Says args) found
  call_finds split_tags (Ok x) found = (record { tag_values = tag_values; positional = positional; split_tags = split_tags; says = found.0 }, λ y call. found.1 y (says_split y call))
  call_finds split_tags (Err e) none = fault_on e _ _ (λ nothing x call. nothing x (says_split x call)) none

-- what is there, and one at most
pub finds_one : {X : Type 0} (P : X → Type 0) → ((x y : X) → P x → P y → x ≡ y) → (x : X) → P x → P x × ((y : X) → P y → y ≡ x)
finds_one P same x here = (here, λ y also. same y x also here)

-- tags and positional arguments say one thing at most
module _ (tag_values : List TagValue) (positional : List Argument) where
  pub size_same : (x y : Size) → SaysSize tag_values positional x → SaysSize tag_values positional y → x ≡ y
  size_same x y a b =
      let bound = some_is x.bound y.bound (sym a.bound ∙ b.bound) in
      let limit = some_is x.limit y.limit (sym a.limit ∙ b.limit) in
      λ i. record { bound = bound i; limit = limit i }

  pub header_same : (x y : Header) → SaysHeader tag_values positional x → SaysHeader tag_values positional y → x ≡ y
  header_same x y a b =
      let comparator : x.comparator ≡ y.comparator = a.comparator ∙ sym b.comparator in
      let matching : x.matching ≡ y.matching = a.matching ∙ sym b.matching in
      let lists = some_pair (x.fields, x.keys) (y.fields, y.keys) (sym a.lists ∙ b.lists) in
      λ i. record { comparator = comparator i; matching = matching i; fields = lists.0 i; keys = lists.1 i }

  pub address_same : (x y : Address) → SaysAddress tag_values positional x → SaysAddress tag_values positional y → x ≡ y
  address_same x y a b =
      let comparator : x.comparator ≡ y.comparator = a.comparator ∙ sym b.comparator in
      let part : x.part ≡ y.part = a.part ∙ sym b.part in
      let matching : x.matching ≡ y.matching = a.matching ∙ sym b.matching in
      let lists = some_pair (x.fields, x.keys) (y.fields, y.keys) (sym a.lists ∙ b.lists) in
      λ i. record { comparator = comparator i; part = part i; matching = matching i; fields = lists.0 i; keys = lists.1 i }

  pub keep_same : (x y : Option (List (List ℕ))) → SaysKeep tag_values positional x → SaysKeep tag_values positional y → x ≡ y
  keep_same x y a b = a.flags ∙ sym b.flags

  pub keep_extra : (positional ≡ [] → ⊥) → (x : Option (List (List ℕ))) → SaysKeep tag_values positional x → ⊥
  keep_extra some x says = some says.none
