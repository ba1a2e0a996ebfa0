use Rattle.std.proofs.Common.{rules, ◌≡◌, ◌++◌, ◌∷◌, [], take, drop, subst, Some}
use Rattle.std.proofs.lemmas.Result.{IfOk-weaker}
use Rattle.memchr.specs.Find.{IsFirstByte, is_byte}
use Rattle.maildir_homes.proofs.TemplateLemmas.{no_slash_before, nothing_before, plain_path, slash_before}
use Rattle.maildir_homes.specs.Templates as templates
use Rattle.maildir_homes.proofs.template.read_homes.Goals as goal

pub returns-in_default : goal.returns-in_default
returns-in_default c = plain_path c.args.text.now c.args.domain c.in_ok-in_directory.field-0 (search rules) (search rules)

pub returns-in_default-split_last : goal.returns-in_default-split_last
returns-in_default-split_last c = nothing_before c.args.text.now c.args.domain c.in-Some.at (search rules) (search rules)

pub returns-then-last-ne47 : goal.returns-then-last-ne47
returns-then-last-ne47 c = no_slash_before c.args.text.now c.in-Some-split_last.dir.now c.args.domain c.in-Some.at c.in-Some-split_last.last.now (search rules) (search rules) (search rules)

pub returns : goal.returns
returns c =
    let found : IsFirstByte (is_byte 37) c.args.text.now (Some c.in-Some.at) = search rules in
    let before : take c.in-Some.at c.args.text.now ≡ c.in-Some-split_last.dir.now ++ c.in-Some-split_last.last.now ∷ [] = search rules in
    let behind : c.split_at.result.1.now ≡ drop c.in-Some.at c.args.text.now = search rules in
    IfOk-weaker c.read_in.result _ _ (λ read it. slash_before c.args.text.now c.in-Some-split_last.dir.now c.args.domain c.in-Some.at c.in-Some-split_last.last.now read found before c.if-last-ne47.false (subst (λ t. templates.IsReadIn c.in-Some-split_last.dir.now t c.args.domain read) behind it)) c.read_in.ensures
