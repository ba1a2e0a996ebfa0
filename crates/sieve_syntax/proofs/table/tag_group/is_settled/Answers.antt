use Rattle.std.proofs.Common.{rules, arith, true, false, ◌≡◌, ℕ, ◌<◌, ◌≤◌, length, get_or}
use Rattle.sieve_syntax.specs.declared.table.tag_group.TagValue.{TagValue}
use Rattle.sieve_syntax.specs.Tags.{group_of}
use Rattle.sieve_syntax.proofs.TagLemmas.{group_absent}
use Rattle.sieve_syntax.proofs.table.tag_group.is_settled.Goals as goal

pub returns : goal.returns
returns c =
    let tags = c.args.tag_values.now in
    let all_seen : length tags ≤ c.loop-tag_value.tag_value-index = search rules in
    let absent : (k : ℕ) (d : TagValue) → k < length tags → group_of (get_or tags k d) ≡ c.args.group → ⊥ = λ k d short is. c.loop-tag_value.invariant k d (omega (arith, short, all_seen)) is in
    (λ holds. (let e : false ≡ true = holds in cc), λ among. absurd (group_absent tags c.args.group absent among))
