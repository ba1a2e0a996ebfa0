-- A login is what its base64 decodes to.
use Rattle.std.proofs.Common.{◌≡◌, ℕ, List, Option, Some, None, Result, Ok, Err, refl, sym, ap, ◌∙◌}
use Rattle.std.specs.Prelude.{◌↔◌, IfOk}
use Rattle.base64.specs.Engines.{standard}
use Rattle.base64.specs.GeneralPurpose.{IsBytes, IsStrict, encode_of, decode_of}
use Rattle.base64.specs.declared.decode.DecodeError.{DecodeError}
use Rattle.sasl_plain.specs.declared.message.Login.{Login}
use Rattle.sasl_plain.specs.Login.{IsLogin, FindsLogin}
use Rattle.sasl_plain.specs.Parts.{login_in, login_shown}
use Rattle.sasl_plain.proofs.Messages.{login_said, login_read}

pub strict : IsStrict standard
strict = (refl, refl)

abbrev pub Strict : List ℕ → Type 0
Strict text = (b : List ℕ) → IsBytes b → (decode_of standard text ≡ Ok b) ↔ (text ≡ encode_of standard b)

abbrev decoded_as : List ℕ → Result (List ℕ) DecodeError
decoded_as message = Ok message

same_message : (a b : List ℕ) → decoded_as a ≡ decoded_as b → a ≡ b
same_message a b e = cc

pub found_login : (text message : List ℕ) (found : Option Login) → Strict text → decode_of standard text ≡ Ok message → IsBytes message → login_shown found ≡ login_in message → FindsLogin text found
found_login text message None by e bytes is = λ user password h.
    let decoded : decode_of standard text ≡ Ok h.message = (by h.message h.octets).1 h.encoded in
    let same : message ≡ h.message = same_message message h.message (sym e ∙ decoded) in
    let read = is ∙ ap login_in same ∙ login_said h.message user password h.said in
    cc (read)
found_login text message (Some login) by e bytes is = record {
  message = message;
  octets = bytes;
  encoded = (by message bytes).0 e;
  said = login_read message login.user login.password (sym is);
}

pub if_found : {E : Type 0} (text message : List ℕ) (r : Result (Option Login) E) → Strict text → decode_of standard text ≡ Ok message → IsBytes message → IfOk r (λ found. login_shown found ≡ login_in message) → IfOk r (FindsLogin text)
if_found text message (Ok found) by e bytes h = found_login text message found by e bytes h
if_found text message (Err e) by d bytes h = tt
