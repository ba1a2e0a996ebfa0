-- The fault's line tells the token.
use Rattle.std.proofs.Common.{◌≡◌, ◌∙◌, ◌==◌, true, false, sym, rules}
use Rattle.sieve_lex.specs.Faults.{fault_number}
use Rattle.sieve_places.proofs.SpreadLemmas.{placed_all, place_if_none, place_if_found, place_if_other}
use Rattle.sieve_places.proofs.find.place_by_fault.Goals as goal

pub index_on-requires-clause-placed : goal.index_on-requires-clause-placed
index_on-requires-clause-placed c = placed_all c.args.text.now c.args.tokens.now c.requires.written.spelled

pub place_at-requires-clause-placed : goal.place_at-requires-clause-placed
place_at-requires-clause-placed c = placed_all c.args.text.now c.args.tokens.now c.requires.written.spelled

pub returns-in-Some : goal.returns-in-Some
returns-in-Some c =
    let same : (fault_number c.args.fault.kind == fault_number c.args.kind) ≡ true = search rules in
    place_if_found c.args.text.now c.args.kind c.args.tokens.now c.requires.written c.args.fault c.requires.checked same c.in-Some.index (sym c.in-Some.is ∙ c.index_on.ensures.value) c.place_at.result c.place_at.ensures

pub returns-in-None : goal.returns-in-None
returns-in-None c =
    let same : (fault_number c.args.fault.kind == fault_number c.args.kind) ≡ true = search rules in
    place_if_none c.args.text.now c.args.kind c.args.tokens.now c.requires.written c.args.fault c.requires.checked same (sym c.in-None.is ∙ c.index_on.ensures.value)

pub returns-then-number : goal.returns-then-number
returns-then-number c =
    let other : (fault_number c.args.fault.kind == fault_number c.args.kind) ≡ false = search rules in
    place_if_other c.args.text.now c.args.kind c.args.tokens.now c.requires.written c.args.fault c.requires.checked other
