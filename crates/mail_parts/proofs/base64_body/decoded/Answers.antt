use Rattle.std.proofs.Common.{◌≡◌, ℕ, List, None, sym, ap, subst}
use Rattle.std.specs.Result.{result_ok}
use Rattle.base64.specs.Engines.{standard_no_pad}
use Rattle.base64.specs.GeneralPurpose.{decoded_of, IsDecodeFailure}
use Rattle.base64.specs.declared.decode.DecodeError.{DecodeError}
use Rattle.base64.specs.declared.decode.DecodeAllocError.{DecodeAllocError}
use Rattle.base64.specs.declared.decode.DecodeAllocError.TheVariants.{DecodeError as Failed}
use Rattle.mail_parts.proofs.base64_body.decoded.Goals as goal

-- a text that fails to decode stands for nothing
failed : (text : List ℕ) (error : DecodeAllocError) (fault : DecodeError) → error ≡ Failed fault → IsDecodeFailure standard_no_pad text error → None ≡ decoded_of standard_no_pad text
unfolding decoded_of
failed text error fault is failure = sym (ap result_ok (subst (IsDecodeFailure standard_no_pad text) is failure))

pub returns-in-Ok : goal.returns-in-Ok
unfolding decoded_of
returns-in-Ok c = ap result_ok (sym c.in-Ok.ensures.ok)

pub returns-in-Err-DecodeError : goal.returns-in-Err-DecodeError
returns-in-Err-DecodeError c = failed c.args.digits.now c.in-Err-DecodeError.field-0 c.in-Err-DecodeError.field-0-0 c.in-Err-DecodeError.field-0-is c.in-Err-DecodeError.ensures.err
