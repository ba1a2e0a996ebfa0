-- What is known of rows, row by row.
use Rattle.std.proofs.Common.{◌≡◌, ℕ, false, Option, Result, Ok, Err, refl, sym, ◌∙◌}
use Rattle.std.specs.Prelude.{OnOk}
use Rattle.std.specs.BTreeMap.{UpdatesBy}
use Rattle.std.specs.Cmp.Lexicographic.{slice_cmp}
use Rattle.std.specs.Ordering.{is_eq, nat_cmp}
use Rattle.std.specs.declared.cmp.Ordering.{Ordering}
use Rattle.std.specs.declared.cmp.Ordering.TheVariants.{Less, Equal, Greater}
use Rattle.std.proofs.lemmas.Map.Lookups.{exact_bytes, exact_pairs, exact_unsigned}
use Rattle.smtp_dialogue.specs.declared.dialogue.Ending.{Ending}
use Rattle.smtp_queue.specs.Waits.{row_key_cmp, wait_of, wait_after, tries_in, NotesEnding}
use Rattle.smtp_queue.specs.declared.row_key.RowKey.{RowKey}
use Rattle.smtp_queue.specs.declared.wait.Wait.{Wait}
use Rattle.smtp_queue.specs.declared.waits.RowWaits.{RowWaits}

-- places that tie are the same
place_exact : (x y : RowKey) → row_key_cmp x y ≡ Equal → x ≡ y
place_exact x y same =
    let pair = exact_pairs (slice_cmp nat_cmp) nat_cmp exact_bytes exact_unsigned (x.user, x.id) (y.user, y.id) same in
    λ i. record { user = (pair i).0; id = (pair i).1 }

apart_by : (at other : RowKey) (order : Ordering) → row_key_cmp at other ≡ order → (other ≡ at → ⊥) → is_eq order ≡ false
apart_by at other Less is differs = refl
apart_by at other Equal is differs = absurd (differs (sym (place_exact at other is)))
apart_by at other Greater is differs = refl

-- a wait was put there, or taken away
pub noted : (at : RowKey) (ending : Ending) (moment : ℕ) (old new : RowWaits) (w : Option Wait) → UpdatesBy row_key_cmp (row_key_cmp at) old.map new.map w
    → w ≡ wait_after (tries_in (wait_of old at)) ending moment → NotesEnding at ending moment old new
noted at ending moment old new w updates is = record {
  own = updates.1 ∙ is;
  others = λ other differs. updates.2 other (apart_by at other (row_key_cmp at other) refl differs);
}

pub on_ok : {X E A B : Type 0} (r : Result X E) → OnOk r A → (A → B) → OnOk r B
on_ok (Ok x) it then = then it
on_ok (Err e) it then = tt
