-- Which rows pass a test after a row joined, went or changed, and keys of blobs.
use Rattle.std.proofs.Common.{◌≡◌, ◌≢◌, ℕ, Bool, true, false, not, cond, List, [], ◌∷◌, ◌++◌, map, filter, refl, sym, ap, ◌∙◌, true≢false, append-nil, arith}
use Rattle.std.proofs.lemmas.Bool.{and_parts, and_from, false_from_ne_true}
use Rattle.std.proofs.lemmas.List.Elements.{filter-append}
use Rattle.sqlite_value.specs.declared.value.Value.{Value}
use Rattle.sqlite_value.specs.declared.value.Value.TheVariants.{Null, Int, Real, Text, Blob}
use Rattle.sqlite_value.specs.declared.keys.Collation.TheVariants.{Binary}
use Rattle.sqlite_value.specs.Order.{Row, column}
use Rattle.sqlite_value.proofs.OrderLemmas.{value_cmp-apart}
use Rattle.sqlite_sql.specs.Ops.{binary}
use Rattle.sqlite_sql.specs.declared.ops.CompareOp.TheVariants.{Eq}
use Rattle.sqlite_schema.specs.Rules.{equal}
use Rattle.sqlite_keyed.specs.Lists.{update_where, delete_where}
use Rattle.sqlite_typed.proofs.TestLemmas.{at_blobs, same_bytes, bytes_eq_refl}
use Rattle.store_tables.specs.Rows.{has_key}

module _ {X : Type 0} (p : X → Bool) where
  pub filter_pushed : (xs : List X) (y : X) → p y ≡ true → filter p (xs ++ y ∷ []) ≡ filter p xs ++ y ∷ []
  filter_pushed xs y is = rw (filter-append, is)

  pub filter_beside : (xs : List X) (y : X) → p y ≡ false → filter p (xs ++ y ∷ []) ≡ filter p xs
  filter_beside xs y other = rw (filter-append, other, append-nil)

  pub filter_removed : (xs : List X) → filter p (delete_where p xs) ≡ []
  filter_removed [] = refl
  filter_removed (x ∷ xs) = go (p x) refl (filter_removed xs)
    where
      go : (b : Bool) → p x ≡ b → filter p (delete_where p xs) ≡ [] → filter p (cond (not b) (x ∷ delete_where p xs) (delete_where p xs)) ≡ []
      go true is more = more
      go false is more = rw is more

  pub filter_set : (f : X → X) → ((x : X) → p x ≡ true → p (f x) ≡ true) → (xs : List X) → filter p (update_where p f xs) ≡ map f (filter p xs)
  filter_set f stays [] = refl
  filter_set f stays (x ∷ xs) = go (p x) refl (filter_set f stays xs)
    where
      go : (b : Bool) → p x ≡ b → filter p (update_where p f xs) ≡ map f (filter p xs) → filter p (cond b (f x) x ∷ update_where p f xs) ≡ map f (cond b (x ∷ filter p xs) (filter p xs))
      go true is more = rw (stays x is) (ap (λ l. f x ∷ l) more)
      go false is more = rw is more

  module _ (q : X → Bool) (apart : (x : X) → q x ≡ true → p x ≡ false) where
    pub filter_kept : (xs : List X) → filter p (delete_where q xs) ≡ filter p xs
    filter_kept [] = refl
    filter_kept (x ∷ xs) = go (q x) refl (filter_kept xs)
      where
        go : (b : Bool) → q x ≡ b → filter p (delete_where q xs) ≡ filter p xs → filter p (cond (not b) (x ∷ delete_where q xs) (delete_where q xs)) ≡ filter p (x ∷ xs)
        go true is more = rw (apart x is) more
        go false is more = elim (p x) as (λ b. cond b (x ∷ filter p (delete_where q xs)) (filter p (delete_where q xs)) ≡ cond b (x ∷ filter p xs) (filter p xs)) [ true ↦ ap (λ l. x ∷ l) more | false ↦ more ]

    pub filter_unset : (f : X → X) → ((x : X) → q x ≡ true → p (f x) ≡ false) → (xs : List X) → filter p (update_where q f xs) ≡ filter p xs
    filter_unset f stays [] = refl
    filter_unset f stays (x ∷ xs) = go (q x) refl (filter_unset f stays xs)
      where
        go : (b : Bool) → q x ≡ b → filter p (update_where q f xs) ≡ filter p xs → filter p (cond b (f x) x ∷ update_where q f xs) ≡ filter p (x ∷ xs)
        go true is more = rw (stays x is, apart x is) more
        go false is more = elim (p x) as (λ b. cond b (x ∷ filter p (update_where q f xs)) (filter p (update_where q f xs)) ≡ cond b (x ∷ filter p xs) (filter p xs)) [ true ↦ ap (λ l. x ∷ l) more | false ↦ more ]

pub equal_blob : (v : Value) (a : List ℕ) → equal Binary v (Blob a) ≡ true → v ≡ Blob a
unfolding binary
equal_blob Null a h = absurd (true≢false (sym h))
equal_blob (Int n) a h = absurd (let e = rw (value_cmp-apart (Int n) (Blob a) (λ same. absurd (omega (arith, same)))) at h in true≢false (sym e))
equal_blob (Real x) a h = absurd (let e = rw (value_cmp-apart (Real x) (Blob a) (λ same. absurd (omega (arith, same)))) at h in true≢false (sym e))
equal_blob (Text t) a h = absurd (let e = rw (value_cmp-apart (Text t) (Blob a) (λ same. absurd (omega (arith, same)))) at h in true≢false (sym e))
equal_blob (Blob b) a h = ap Blob (same_bytes b a (sym (at_blobs false Eq b a) ∙ h))

pub equal_itself : (a : List ℕ) → equal Binary (Blob a) (Blob a) ≡ true
equal_itself a = at_blobs false Eq a a ∙ bytes_eq_refl a

abbrev pub owner_key : List ℕ → Row
owner_key a = Blob a ∷ []

abbrev pub pair_key : List ℕ → List ℕ → Row
pair_key a b = Blob a ∷ Blob b ∷ []

-- a row with the key of an owner begins with the owner
pub owned_as : (a : List ℕ) (cells : Row) → has_key (owner_key a) cells ≡ true → column cells 0 ≡ Blob a
owned_as a cells h = equal_blob (column cells 0) a (and_parts _ _ h).0

pub owned_by : (a : List ℕ) (rest : Row) → has_key (owner_key a) (Blob a ∷ rest) ≡ true
owned_by a rest = and_from _ _ (equal_itself a) refl

same_blob : (a b : List ℕ) → Blob a ≡ Blob b → a ≡ b
same_blob a b e = cc

-- rows of other owners
pub owners_apart : (a b : List ℕ) → a ≢ b → (cells : Row) → has_key (owner_key b) cells ≡ true → has_key (owner_key a) cells ≡ false
owners_apart a b differ cells h = false_from_ne_true _ (λ k. differ (same_blob a b (sym (owned_as a cells k) ∙ owned_as b cells h)))

-- a row with both keys is its owner's
pub pair_owned : (a b : List ℕ) (cells : Row) → has_key (pair_key a b) cells ≡ true → has_key (owner_key a) cells ≡ true
pair_owned a b cells h = and_from _ _ (and_parts _ _ h).0 refl

pub pair_apart : (a b c : List ℕ) → a ≢ c → (cells : Row) → has_key (pair_key c b) cells ≡ true → has_key (owner_key a) cells ≡ false
pair_apart a b c differ cells h = owners_apart a c differ cells (pair_owned c b cells h)
