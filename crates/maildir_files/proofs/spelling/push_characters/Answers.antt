use Rattle.std.proofs.Common.{◌≡◌, ◌==◌, ◌++◌, string_bytes, sym, ◌∙◌, ap, map-id, true}
use Rattle.std.proofs.lemmas.Iterator.{YieldsList-from_chars}
use Rattle.std.proofs.lemmas.Iterator.Consumers.{YieldsList-end}
use Rattle.std.specs.Str.{chars}
use Rattle.maildir_files.specs.Spelling.{pieces_of, piece_spellings}
use Rattle.maildir_files.proofs.PieceLemmas.{way_begins, way_ends, way_printable, way_units}
use Rattle.maildir_files.proofs.spelling.push_characters.Goals as goal

pub loop-character-init : goal.loop-character-init
loop-character-init c = way_begins _ _ _ c.new-run.ensures.items

pub loop-character-preserved-then-is_printable : goal.loop-character-preserved-then-is_printable
loop-character-preserved-then-is_printable c =
    way_printable _ _ _ _ _ _ _ _ _ _ _ (sym c.is_printable.ensures ∙ c.if-is_printable.true) c.in_ok-push_run.ensures.written c.in_ok-push_run.ensures.empty c.in_ok-push_printable.ensures
    (ap (λ octet. c.in-Some.character == octet) (c.from.ensures ∙ c.octet.ensures)) c.loop-character.invariant

pub loop-character-preserved : goal.loop-character-preserved
loop-character-preserved c =
    way_units _ _ _ _ _ _ _ _ (sym c.is_printable.ensures ∙ c.if-is_printable.false) c.in_ok-push_units.ensures c.loop-character.invariant

pub returns : goal.returns
returns c =
    let end = YieldsList-end (YieldsList-from_chars c.args.text.now c.utf8.text cc) c.loop-character.yielded _ c.loop-character.yielded_by _ _ c.in-None.is c.next.ensures.steps in
    let all : c.loop-character.yielded ≡ chars c.args.text.now = sym (map-id c.loop-character.yielded) ∙ end.0 in
    let told = way_ends c.args.separator (string_bytes c.args.directory.now) _ _ _ c.loop-character.yielded _ c.in_ok-push_run-2.ensures.written c.loop-character.invariant in
    told ∙ ap (λ read. string_bytes c.args.directory.now ++ piece_spellings c.args.separator true (pieces_of read)) all
