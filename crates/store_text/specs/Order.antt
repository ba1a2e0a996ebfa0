-- The order of the parts of an account, and which part may follow which.
use Rattle.std.specs.Prelude.{ℕ, ◌==◌, ◌&&◌, ◌^◌, Bool, true, false, List, [], ◌∷◌, nat_lt, nat_le, Option, Some, None}
use Rattle.std.specs.List.{list_any}
use Rattle.std.specs.declared.cmp.Ordering.{Ordering}
use Rattle.std.specs.Ordering.{nat_cmp, on, then_cmp, is_lt}
use Rattle.std.specs.Cmp.Lexicographic.{slice_cmp}
use Rattle.store_text.specs.Netstring.{same_text}
use Rattle.store_text.specs.declared.head.Numbers.{Numbers}
use Rattle.store_text.specs.declared.part.Part.{Part}
use Rattle.store_text.specs.declared.part.Part.TheVariants.{Script, Reply, Mail, Copy, Letter, Notice}

-- scripts come first, then moments, messages in folders, messages on their way out, notices
abbrev pub part_rank : Part → ℕ
part_rank (Script name text) = 0
part_rank (Reply handle sender moment) = 1
part_rank (Mail number folder message flags) = 2
part_rank (Copy number folder first flags) = 2
part_rank (Letter id kind sender target message) = 3
part_rank (Notice number moment text) = 4

abbrev pub part_number : Part → ℕ
part_number (Script name text) = 0
part_number (Reply handle sender moment) = 0
part_number (Mail number folder message flags) = number
part_number (Copy number folder first flags) = number
part_number (Letter id kind sender target message) = id
part_number (Notice number moment text) = number

abbrev pub part_key : Part → List ℕ
part_key (Script name text) = name
part_key (Reply handle sender moment) = handle
part_key part = []

abbrev pub part_second : Part → List ℕ
part_second (Reply handle sender moment) = sender
part_second part = []

-- by rank, by number, by the octets of the name or the handle, and by those of the sender
abbrev pub part_cmp : Part → Part → Ordering
part_cmp = then_cmp (on part_rank nat_cmp) (then_cmp (on part_number nat_cmp) (then_cmp (on part_key (slice_cmp nat_cmp)) (on part_second (slice_cmp nat_cmp))))

-- the part before is a copy of the same message
abbrev pub has_come : ℕ → Option Part → Bool
has_come first (Some (Mail number folder message flags)) = number == first
has_come first (Some (Copy number folder other flags)) = other == first
has_come first part = false

-- a copy comes after its message or another copy of it
abbrev pub joins : Option Part → Part → Bool
joins last (Copy number folder first flags) = has_come first last
joins last part = true

abbrev pub comes_after : Option Part → Part → Bool
comes_after None part = true
comes_after (Some last) part = is_lt (part_cmp last part)

abbrev pub follows : Option Part → Part → Bool
follows last part = comes_after last part && joins last part

-- the parts come in this order after the last one
abbrev pub are_chained : Option Part → List Part → Bool
are_chained last [] = true
are_chained last (part ∷ parts) = follows last part && are_chained (Some part) parts

-- a number that was given
abbrev pub is_given : ℕ → ℕ → Bool
is_given next number = nat_le 1 number && nat_lt number next

-- the account gave the part's numbers, and a database can hold its moment
abbrev pub fits : Numbers → Part → Bool
fits n (Script name text) = true
fits n (Reply handle sender moment) = nat_lt moment (2 ^ 63)
fits n (Mail number folder message flags) = is_given n.next_copy number
fits n (Copy number folder first flags) = is_given n.next_copy number && is_given n.next_copy first
fits n (Letter id kind sender target message) = is_given n.next_out id
fits n (Notice number moment text) = is_given n.next_notice number && nat_lt moment (2 ^ 63)

abbrev pub is_counter : ℕ → Bool
is_counter next = nat_le 1 next && nat_lt next (2 ^ 63)

abbrev pub are_numbers : Numbers → Bool
are_numbers n = is_counter n.next_copy && (is_counter n.next_out && is_counter n.next_notice)

-- the part is the script with the name
abbrev pub is_script : List ℕ → Part → Bool
is_script name (Script other text) = same_text name other
is_script name part = false

-- the active script is one of the scripts
abbrev pub has_active : Option (List ℕ) → List Part → Bool
has_active None parts = true
has_active (Some name) parts = list_any (is_script name) parts
