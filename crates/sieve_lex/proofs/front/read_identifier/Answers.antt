use Rattle.std.proofs.Common.{◌≡◌, true, arith}
use Rattle.std.proofs.lemmas.List.Sums.{prefix_len-le-length}
use Rattle.sieve_lex.specs.Class.{is_name_octet}
use Rattle.sieve_lex.proofs.Named.{identifier_found}
use Rattle.sieve_lex.proofs.Several.{word_found}
use Rattle.sieve_lex.proofs.front.read_identifier.Goals as goal

pub split_at-requires : goal.split_at-requires
split_at-requires c = omega (arith, prefix_len-le-length is_name_octet c.args.octets.now)

pub read_multiline-requires : goal.read_multiline-requires
read_multiline-requires c = word_found _ _ _ _ c.split_at.ensures.front c.split_at.ensures.back c.split_at.ensures.front_len (c.opens_text.ensures.0 c.if-opens_text.true)

pub returns-clause-found : goal.returns-clause-found
returns-clause-found c = identifier_found _ _ _ _ _ c.requires c.name_len.ensures c.split_at.ensures.front c.split_at.ensures.back c.split_at.ensures.front_len c.in_text.ensures (λ t. let h : c.opens_text.result ≡ true = c.opens_text.ensures.1 t in cc)
