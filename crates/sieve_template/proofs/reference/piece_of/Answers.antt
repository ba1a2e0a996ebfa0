use Rattle.std.proofs.Common.{subst}
use Rattle.sieve_template.specs.Reading.{RefersBy}
use Rattle.sieve_template.proofs.PathLemmas.{braces_name, braces_number, braces_path}
use Rattle.sieve_template.proofs.reference.piece_of.Goals as goal

pub returns-in_ok-from_slice-in-ByName : goal.returns-in_ok-from_slice-in-ByName
returns-in_ok-from_slice-in-ByName c =
    braces_name c.args.reference.now.inside.now c.in_ok-from_slice-in-ByName.field-0 c.in_ok-from_slice-in-ByName.ensures
    (subst (λ kind. RefersBy kind c.args.reference.now.inside.now) c.in-ByName.is c.requires)

pub returns-in-ByNumber : goal.returns-in-ByNumber
returns-in-ByNumber c =
    braces_number c.args.reference.now.inside.now c.match_number.result c.match_number.ensures
    (subst (λ kind. RefersBy kind c.args.reference.now.inside.now) c.in-ByNumber.is c.requires)

pub returns-in_ok-from_slice-in-ByPath : goal.returns-in_ok-from_slice-in-ByPath
returns-in_ok-from_slice-in-ByPath c =
    braces_path c.args.reference.now.inside.now c.in_ok-from_slice-in-ByPath.field-0 c.in_ok-from_slice-in-ByPath.ensures
    (subst (λ kind. RefersBy kind c.args.reference.now.inside.now) c.in-ByPath.is c.requires)
