-- What a line is read as.
use Rattle.std.specs.Prelude.{Bool, true, ◌&&◌, ◌==◌, ◌≡◌, length, ◌<◌, ◌^◌, ◌++◌, ℕ, List, Option, Some, None, option_map, Result, IfOk, IfErr}
use Rattle.std.specs.Borrow.{Bor}
use Rattle.store_text.specs.Netstring.{line, AreFields}
use Rattle.store_text.specs.Fields.{part_fields, sum_fields, part_at, sum_at}
use Rattle.store_text.specs.Order.{fits, follows, has_active}
use Rattle.store_text.specs.Text.{has_sum}
use Rattle.store_text.specs.declared.head.AccountHead.{AccountHead}
use Rattle.store_text.specs.declared.account_file.AccountReadError.{AccountReadError}
use Rattle.store_text.specs.declared.account_file.AccountReadError.TheVariants.{NotAnAccount}
use Rattle.store_text.specs.declared.entry.Entry.{Entry}
use Rattle.store_text.specs.declared.entry.Entry.TheVariants as entry
use Rattle.store_text.specs.declared.head.Numbers.{Numbers}
use Rattle.store_text.specs.declared.part.Part.{Part}
use Rattle.store_text.specs.declared.part.Part.TheVariants.{Script, Reply, Mail, Copy, Letter, Notice}

-- each number of the part is below 2^63
abbrev pub HasNumbers : Part → Type 0
HasNumbers (Script name text) = Unit {0}
HasNumbers (Reply handle sender moment) = moment < 2 ^ 63
HasNumbers (Mail number folder message flags) = number < 2 ^ 63
HasNumbers (Copy number folder first flags) = (number < 2 ^ 63) × (first < 2 ^ 63)
HasNumbers (Letter id kind sender target message) = id < 2 ^ 63
HasNumbers (Notice number moment text) = (number < 2 ^ 63) × (moment < 2 ^ 63)

-- each number is below its limit
pub record AreSmall (n : Numbers) : Type 0 where
  pub rounds : n.rounds < 2 ^ 32
  pub copy : n.next_copy < 2 ^ 63
  pub out : n.next_out < 2 ^ 63
  pub notice : n.next_notice < 2 ^ 63

abbrev pub entry_fields : Entry → List (List ℕ)
entry_fields (entry.Part part) = part_fields part
entry_fields (entry.Sum sum) = sum_fields sum

abbrev pub IsEntry : Entry → Type 0
IsEntry (entry.Part part) = HasNumbers part
IsEntry (entry.Sum sum) = Unit {0}

abbrev pub entry_by : Option (List ℕ) → Option Part → Option Entry
entry_by (Some sum) part = Some (entry.Sum sum)
entry_by None part = option_map entry.Part part

-- the last line, or that of a part
abbrev pub entry_at : List (List ℕ) → Option Entry
entry_at fields = entry_by (sum_at fields) (part_at fields)

-- whether the contents of a line may come after the last part
abbrev pub stands : Numbers → Option Part → Entry → Bool
stands numbers last (entry.Part part) = fits numbers part && follows last part
stands numbers last (entry.Sum sum) = true

pub record MayStand (numbers : Numbers) (last : Option Part) (e : Entry) : Type 0 where
  pub is : IsEntry e
  pub there : stands numbers last e ≡ true

-- whether the parts end: nothing comes after the sum, which is that of the body, and the active script is one of them
abbrev pub ends : AccountHead → List Part → List ℕ → List ℕ → List ℕ → Bool
ends head parts body sum behind = length behind == 0 && (has_active head.owner.active parts && has_sum sum body)

-- such a line is at the start; or none is
pub record ReadsAccountLine {X : Type 0} (fields_of : X → List (List ℕ)) (Fits : X → Type 0) (octets : List ℕ) (result : Result (X × Bor (List ℕ)) AccountReadError) : Type 0 where
  pub found : IfOk result (λ taken. octets ≡ line (fields_of taken.0) ++ taken.1.now)
  pub fits : IfOk result (λ taken. Fits taken.0)
  pub small : IfOk result (λ taken. AreFields (fields_of taken.0))
  pub none : IfErr result (λ e. e ≡ NotAnAccount → (x : X) (more : List ℕ) → Fits x → AreFields (fields_of x) → octets ≡ line (fields_of x) ++ more → ⊥)
