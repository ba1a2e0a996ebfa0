-- The texts that were appended in turn are the line.
use Rattle.std.proofs.Common.{◌≡◌, ℕ, List, [], ◌∷◌, ◌++◌, codes, append_assoc, decimal, rules}
use Rattle.std.proofs.lemmas.Result.{on_ok_weaker}
use Rattle.cli_reports.specs.Listings.{kind_word}
use Rattle.cli_reports.specs.Addresses.{shown_address}
use Rattle.cli_reports.proofs.listing.add_queue_line.Goals as goal

line_written : (old id a b kind c d sender e f target g h count i new : List ℕ)
    → a ≡ old ++ id → b ≡ a ++ codes " " → c ≡ b ++ kind → d ≡ c ++ codes " <" → e ≡ d ++ sender → f ≡ e ++ codes "> <" → g ≡ f ++ target → h ≡ g ++ codes "> " → i ≡ h ++ count → new ≡ i ++ 10 ∷ []
    → new ≡ old ++ ((id ++ (codes " " ++ (kind ++ (codes " <" ++ (sender ++ (codes "> <" ++ (target ++ (codes "> " ++ count)))))))) ++ 10 ∷ [])
line_written old id a b kind c d sender e f target g h count i new one two three four five six seven eight nine ten =
    rw (ten, nine, eight, seven, six, five, four, three, two, one) (simp append_assoc)

pub returns : goal.returns
returns c =
    let row = c.args.row.now in
    on_ok_weaker c.push.result
    (λ last. line_written c.args.text.now (decimal row.id) c.write_decimal.new.out c.extend_from_slice.new.self (kind_word row.kind) c.extend_from_slice-2.new.self c.extend_from_slice-3.new.self (shown_address row.sender)
    c.add_address.new.text c.extend_from_slice-4.new.self (shown_address row.target) c.add_address-2.new.text c.extend_from_slice-5.new.self (decimal row.len) c.write_decimal-2.new.out c.push.new.self
    (search rules) (search rules) (search rules) (search rules) (search rules) (search rules) (search rules) (search rules) (search rules) last)
    c.push.ensures.ok
