use Rattle.std.proofs.Common.{◌≡◌, [], take, arith, append-nil, ⊎_elim}
use Rattle.std.proofs.lemmas.Bool.{cases_Bool}
use Rattle.std.proofs.lemmas.Map.Text.{is_eq-slice_cmp}
use Rattle.std.proofs.lemmas.Slice.Eq.{bytes_eq-Decides}
use Rattle.std.specs.Str.{bytes_eq}
use Rattle.mail_head.specs.Fields.{field_texts_of}
use Rattle.sieve_exec.specs.Indexes.{raws_keyed}
use Rattle.sieve_exec.proofs.IndexLemmas.{raws_more}
use Rattle.sieve_exec.proofs.index.index_of.Goals as goal

pub loop-field-preserved : goal.loop-field-preserved
loop-field-preserved c = λ key.
    let name = c.in_ok-name.name in
    let more = raws_more c.args.fields.now c.loop-field.field-index
    (record { name = record { ref_ptr = (0, 0); now = [] }; raw = record { ref_ptr = (0, 0); now = [] } }) key c.loop-field-test.true in
    let same = is_eq-slice_cmp name key in
    let before = c.loop-field.invariant key in
    ⊎_elim
    (λ yes. let equal : name ≡ key = (bytes_eq-Decides name key).0 yes in grind (arith, more, same, before, equal, yes))
    (λ no. let none = append-nil (raws_keyed (field_texts_of (take c.loop-field.field-index c.args.fields.now)) key) in grind (arith, more, same, before, none, no))
    (cases_Bool (bytes_eq name key))
