use Rattle.std.proofs.Common.{◌≡◌, ◌≤◌, ℕ, Some, List, [], length, drop}
use Rattle.sieve_lex.specs.Encoded.{hex_number, joined_texts, words_value, words_from}
use Rattle.sieve_lex.proofs.encoded.values.Given as goal

abbrev pub invariant-loop-octet : goal.invariant-loop-octet
invariant-loop-octet l =
    (word : List ℕ) × ((l.digits ≡ length word) × ((l.digits ≤ l.octet-index) × ((l.number ≡ hex_number word) × ((l.number ≤ 1114112)
    × (joined_texts (Some l.value) (words_value l.coding (words_from word (drop l.octet-index l.body))) ≡ words_value l.coding (words_from [] l.body))))))
