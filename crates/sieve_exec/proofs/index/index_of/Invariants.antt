-- Each name has the raw values of the fields so far that have it.
use Rattle.std.proofs.Common.{◌≡◌, ℕ, List, [], take, unwrap_or}
use Rattle.std.specs.Ordering.{nat_cmp}
use Rattle.std.specs.Cmp.Lexicographic.{slice_cmp}
use Rattle.std.specs.BTreeMap.{get}
use Rattle.mail_head.specs.Fields.{field_texts_of}
use Rattle.sieve_exec.specs.Indexes.{raws_keyed}
use Rattle.sieve_exec.proofs.index.index_of.Given as goal

abbrev pub invariant-loop-field : goal.invariant-loop-field
invariant-loop-field l = (key : List ℕ) → unwrap_or (get (slice_cmp nat_cmp) l.index key) [] ≡ raws_keyed (field_texts_of (take l.field-index l.fields)) key
