use Rattle.std.proofs.Common.{◌∙◌, sym, arith}
use Rattle.std.proofs.lemmas.List.Sums.{prefix_len-le-length}
use Rattle.sieve_lex.specs.Class.{is_name_octet}
use Rattle.sieve_lex.proofs.Named.{tag_found, tag_none}
use Rattle.sieve_lex.proofs.front.read_tag.Goals as goal

pub returns-then-not-begins_name-clause-found : goal.returns-then-not-begins_name-clause-found
returns-then-not-begins_name-clause-found c = λ g t. tag_none _ (sym c.begins_name.ensures ∙ c.if-not-begins_name.true) _ _ _ t.shape

pub split_at-requires : goal.split_at-requires
split_at-requires c = omega (arith, prefix_len-le-length is_name_octet c.args.octets.now)

pub returns-clause-found : goal.returns-clause-found
returns-clause-found c = tag_found _ _ _ _ (sym c.begins_name.ensures ∙ c.if-not-begins_name.false) c.name_len.ensures c.split_at.ensures.front c.split_at.ensures.front_len c.in_text.ensures
