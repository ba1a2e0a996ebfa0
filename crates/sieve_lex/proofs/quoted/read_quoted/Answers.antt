use Rattle.std.proofs.Common.{◌≡◌, ℕ, List, ◌+◌, length, drop, take, Some, ◌∷◌, ◌∙◌, sym, ap, arith}
use Rattle.std.specs.List.{prefix_len}
use Rattle.std.proofs.lemmas.List.Sums.{prefix_len-le-length}
use Rattle.sieve_lex.specs.Inside.{is_plain_octet}
use Rattle.sieve_lex.proofs.Strings.{plain_string, rest_after}
use Rattle.sieve_lex.proofs.quoted.read_quoted.Goals as goal

pub split_at-requires : goal.split_at-requires
split_at-requires c = omega (arith, prefix_len-le-length is_plain_octet c.args.octets.now, c.plain_len.ensures)

pub returns-in-Some-eq34-default-clause-within : goal.returns-in-Some-eq34-default-clause-within
returns-in-Some-eq34-default-clause-within c =
    let first = c.in-Some-eq34-default in
    let behind : drop c.plain_len.result c.args.octets.now ≡ 34 ∷ first.field-0-1.now = sym c.split_at.ensures.back ∙ first.ensures.cases.0 ∙ ap (λ b. b ∷ first.field-0-1.now) first.field-0-0-test in
    omega (arith, (rest_after c.args.octets.now first.field-0-1.now c.plain_len.result 34 behind).0, c.split_at.ensures.front_len)

pub returns-in-Some-eq34-default-clause-found : goal.returns-in-Some-eq34-default-clause-found
returns-in-Some-eq34-default-clause-found c =
    let octets : List ℕ = c.args.octets.now in
    let first = c.in-Some-eq34-default in
    let behind : drop c.plain_len.result octets ≡ 34 ∷ first.field-0-1.now = sym c.split_at.ensures.back ∙ first.ensures.cases.0 ∙ ap (λ b. b ∷ first.field-0-1.now) first.field-0-0-test in
    let read = plain_string octets first.field-0-1.now (ap (λ n. drop n octets) (sym c.plain_len.ensures) ∙ behind) in
    let value : take (prefix_len is_plain_octet octets) octets ≡ c.in_text.result = ap (λ n. take n octets) (sym c.plain_len.ensures) ∙ sym c.split_at.ensures.front ∙ sym c.in_text.ensures in
    let after : first.field-0-1.now ≡ drop (length c.split_at.result.0.now + 1) octets = (rest_after octets first.field-0-1.now c.plain_len.result 34 behind).1 ∙ ap (λ n. drop (n + 1) octets) (sym c.split_at.ensures.front_len) in
    read ∙ (λ k. Some (value k, after k))
