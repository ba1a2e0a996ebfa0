-- Lemmas on what is kept by name.
use Rattle.std.proofs.Common.{◌≡◌, ◌<◌, ◌+◌, ℕ, Bool, true, false, cond, List, [], ◌∷◌, ◌++◌, length, take, map, get_or, Some, refl, sym, ap, ◌∙◌, nat_eq}
use Rattle.std.specs.List.{filter}
use Rattle.std.specs.Ordering.{nat_cmp}
use Rattle.std.specs.Str.{bytes_eq}
use Rattle.std.specs.Cmp.Lexicographic.{slice_cmp, pointwise}
use Rattle.std.specs.BTreeMap.{BTreeMap, get, Updates}
use Rattle.std.proofs.lemmas.Map.Text.{is_eq-slice_cmp}
use Rattle.std.proofs.lemmas.Grind.{take_at_read}
use Rattle.std.proofs.lemmas.Slice.Eq.{bytes_eq-Decides}
use Rattle.octets.specs.Ascii.{lowered}
use Rattle.mail_head.specs.Fields.{field_text_of, field_texts_of}
use Rattle.mail_head.specs.declared.header.Field.{Field}
use Rattle.mail_head.specs.Heads.{unfold_of}
use Rattle.sieve_exec.specs.Mails.{MailSpec, field_values}
use Rattle.sieve_exec.specs.Indexes.{raws_keyed, AreKnown}
use Rattle.sieve_exec.specs.Truth.{is_some_there}

-- what is kept stays what it should be where one key gets what it should
pub known_more : {X : Type 0} (wanted : List ℕ → X) (old new : BTreeMap (List ℕ) X) (name : List ℕ) (more : X)
    → AreKnown wanted old → more ≡ wanted name → Updates (slice_cmp nat_cmp) old new name (Some more) → AreKnown wanted new
known_more {X} wanted old new name more known right updates key kept found =
    split (bytes_eq name key) refl
    (sym (ap (λ same. cond same (Some more) (get (slice_cmp nat_cmp) old key)) (is_eq-slice_cmp name key)) ∙ sym (updates.0 key) ∙ found)
  where
    split : (same : Bool) → bytes_eq name key ≡ same → cond same (Some more) (get (slice_cmp nat_cmp) old key) ≡ Some kept → kept ≡ wanted key
    split true same here = let it : more ≡ kept = cc in sym it ∙ right ∙ ap wanted ((bytes_eq-Decides name key).0 same)
    split false other there = known key kept there

-- the raw values of one field more
raws_last : (fields : List Field) (last : Field) (key : List ℕ)
    → raws_keyed (field_texts_of (fields ++ last ∷ [])) key ≡ raws_keyed (field_texts_of fields) key ++ cond (pointwise nat_eq (lowered last.name.now) key) (last.raw.now ∷ []) []
raws_last [] last key = split (pointwise nat_eq (lowered last.name.now) key)
  where
    split : (has : Bool) → map (λ field. field.raw) (cond has (field_text_of last ∷ []) []) ≡ cond has (last.raw.now ∷ []) []
    split true = refl
    split false = refl
raws_last (first ∷ more) last key = split (raws_last more last key) (pointwise nat_eq (lowered first.name.now) key)
  where
    split : raws_keyed (field_texts_of (more ++ last ∷ [])) key ≡ raws_keyed (field_texts_of more) key ++ cond (pointwise nat_eq (lowered last.name.now) key) (last.raw.now ∷ []) []
        → (has : Bool) → map (λ field. field.raw) (cond has (field_text_of first ∷ filter (λ field. pointwise nat_eq (lowered field.name) key) (field_texts_of (more ++ last ∷ []))) (filter (λ field. pointwise nat_eq (lowered field.name) key) (field_texts_of (more ++ last ∷ []))))
        ≡ map (λ field. field.raw) (cond has (field_text_of first ∷ filter (λ field. pointwise nat_eq (lowered field.name) key) (field_texts_of more)) (filter (λ field. pointwise nat_eq (lowered field.name) key) (field_texts_of more))) ++ cond (pointwise nat_eq (lowered last.name.now) key) (last.raw.now ∷ []) []
    split rest true = ap (λ l. first.raw.now ∷ l) rest
    split rest false = rest

pub raws_more : (fields : List Field) (i : ℕ) (d : Field) (key : List ℕ) → i < length fields
    → raws_keyed (field_texts_of (take (i + 1) fields)) key ≡ raws_keyed (field_texts_of (take i fields)) key ++ cond (pointwise nat_eq (lowered (get_or fields i d).name.now) key) ((get_or fields i d).raw.now ∷ []) []
raws_more fields i d key below = ap (λ l. raws_keyed (field_texts_of l) key) (take_at_read fields i d below).1 ∙ raws_last (take i fields) (get_or fields i d) key

-- the fields of a name are there where they are under its key
pub there_keyed : (mail : MailSpec) (name key : List ℕ) → key ≡ lowered name → is_some_there (field_values mail name) ≡ is_some_there (raws_keyed mail.fields key)
there_keyed mail name key same = some_mapped (raws_keyed mail.fields (lowered name)) ∙ ap (λ k. is_some_there (raws_keyed mail.fields k)) (sym same)
  where
    some_mapped : (raws : List (List ℕ)) → is_some_there (map unfold_of raws) ≡ is_some_there raws
    some_mapped [] = refl
    some_mapped (raw ∷ more) = refl
