-- What a line that was taken is read as.
use Rattle.std.proofs.Common.{◌≡◌, ℕ, List, ◌++◌, true, false, Option, Some, None, Ok, Err, Vec, lit≤, sym, ap, ◌∙◌, subst}
use Rattle.std.specs.Prelude.{IfSome}
use Rattle.std.specs.Borrow.{Bor}
use Rattle.std.specs.declared.alloc.Global.{Global}
use Rattle.store_text.specs.Netstring.{line, texts, AreFields}
use Rattle.store_text.specs.Fields.{version_fields, is_version}
use Rattle.store_text.specs.Reading.{ReadsAccountLine}
use Rattle.store_text.specs.declared.account_file.AccountReadError.TheVariants.{NotAnAccount}
use Rattle.store_text.proofs.FieldLemmas.{IsCodec, version_written, version_again}
use Rattle.store_text.proofs.NetstringLemmas.{one_line}

abbrev pub Fields : Type 0
Fields = Vec (Bor (List ℕ)) Global

module _ (octets : List ℕ) (o : Option (Fields × Bor (List ℕ))) (found : IfSome o (λ t. octets ≡ line (texts t.0.items) ++ t.1.now)) (small : IfSome o (λ t. AreFields (texts t.0.items))) (fields : Fields) (rest : Bor (List ℕ)) (is : o ≡ Some (fields, rest))
    (slice : List (Bor (List ℕ))) (value : slice ≡ fields.items) where
  spelled : octets ≡ line (texts slice) ++ rest.now
  spelled = subst (λ q. IfSome q (λ t. octets ≡ line (texts t.0.items) ++ t.1.now)) is found ∙ ap (λ fs. line (texts fs) ++ rest.now) (sym value)

  are_small : AreFields (texts slice)
  are_small = subst (λ fs. AreFields (texts fs)) (sym value) (subst (λ q. IfSome q (λ t. AreFields (texts t.0.items))) is small)

  module _ {X : Type 0} (fields_of : X → List (List ℕ)) (Fits : X → Type 0) (at : List (List ℕ) → Option X) (codec : IsCodec fields_of Fits at) where
    pub line_says : (x : X) → Some x ≡ at (texts slice) → ReadsAccountLine fields_of Fits octets (Ok (x, rest))
    line_says x says =
        let read = codec.written (texts slice) x (sym says) in
        record {
          found = spelled ∙ ap (λ fs. line fs ++ rest.now) read.0;
          fits = read.1;
          small = subst AreFields read.0 are_small;
          none = tt;
        }

    pub line_says_none : None ≡ at (texts slice) → ReadsAccountLine fields_of Fits octets (Err NotAnAccount)
    line_says_none says = record {
      found = tt;
      fits = tt;
      small = tt;
      none = λ same x more fits small written.
          let one = one_line (texts slice) (fields_of x) rest.now more are_small small (sym spelled ∙ written) in
          let no : None ≡ Some x = says ∙ (ap at one.0 ∙ codec.again x fits) in
          cc;
    }

  pub version_there : is_version (texts slice) ≡ true → octets ≡ line version_fields ++ rest.now
  version_there tests = spelled ∙ ap (λ fs. line fs ++ rest.now) (version_written (texts slice) tests)

  pub version_not_there : AreFields version_fields → is_version (texts slice) ≡ false → (more : List ℕ) → octets ≡ line version_fields ++ more → ⊥
  version_not_there small tests more written =
      let one = one_line (texts slice) version_fields rest.now more are_small small (sym spelled ∙ written) in
      let no : false ≡ true = sym tests ∙ (ap is_version one.0 ∙ version_again) in
      cc

pub version_small : AreFields version_fields
version_small = (lit≤ tt, (lit≤ tt, tt))
