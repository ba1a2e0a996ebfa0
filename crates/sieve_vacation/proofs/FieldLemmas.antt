-- A pass over the fields as they were read is one over their texts.
use Rattle.std.proofs.Common.{◌≡◌, ℕ, Bool, List, [], ◌∷◌, ◌||◌, ◌++◌, refl, ap, ◌∙◌}
use Rattle.std.specs.List.{list_any, flat_map}
use Rattle.mail_head.specs.declared.header.Field.{Field}
use Rattle.mail_head.specs.Fields.{FieldText, field_text_of, field_texts_of}

any_text : (p : FieldText → Bool) (fields : List Field) → list_any (λ field. p (field_text_of field)) fields ≡ list_any p (field_texts_of fields)
any_text p [] = refl
any_text p (field ∷ more) = ap (λ b. p (field_text_of field) || b) (any_text p more)

pub fields_any : (p : FieldText → Bool) (fields : List Field) (texts : List FieldText) → field_texts_of fields ≡ texts → list_any (λ field. p (field_text_of field)) fields ≡ list_any p texts
fields_any p fields texts same = any_text p fields ∙ ap (list_any p) same

flat_text : (f : FieldText → List (List ℕ)) (fields : List Field) → flat_map (λ field. f (field_text_of field)) fields ≡ flat_map f (field_texts_of fields)
flat_text f [] = refl
flat_text f (field ∷ more) = ap (λ t. f (field_text_of field) ++ t) (flat_text f more)

pub fields_flat : (f : FieldText → List (List ℕ)) (fields : List Field) (texts : List FieldText) → field_texts_of fields ≡ texts → flat_map (λ field. f (field_text_of field)) fields ≡ flat_map f texts
fields_flat f fields texts same = flat_text f fields ∙ ap (flat_map f) same
