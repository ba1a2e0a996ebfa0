-- Entries that have numbers of their own.
use Rattle.std.specs.Prelude.{ℕ, ◌<◌, ◌≤◌, List, map, IsPermutation}
use Rattle.std.specs.List.{AllByRecursion}
use Rattle.sqlite_value.specs.Order.{Row}
use Rattle.sqlite_trees.specs.Tree.{IsAscending}

-- in any order the rows are those of the entries, which are in the order of their numbers: no number comes twice, and each is at least 1 and below the counter
pub record AreNumbered {X : Type 0} (number : X → ℕ) (row : X → Row) (rows : List Row) (entries : List X) (next : ℕ) : Type 0 where
  pub rows_are : IsPermutation (map row entries) rows
  pub rise : IsAscending (λ x y. number x < number y) entries
  pub from_one : AllByRecursion (λ x. 1 ≤ number x) entries
  pub below : AllByRecursion (λ x. number x < next) entries
  pub counter : 1 ≤ next
