-- What is written in a header field says the text again.
use Rattle.std.specs.Prelude.{◌≡◌, ℕ, List, codes, cond}
use Rattle.base64.specs.GeneralPurpose.{engine_symbols, engine_padding}
use Rattle.base64.specs.declared.engine.general_purpose.GeneralPurpose.{GeneralPurpose}
use Rattle.mail_head.specs.Heads.{unfold_of}
use Rattle.mail_words.specs.Values.{decoded_text}
use Rattle.mail_words.specs.Headers.{IsHeaderText}
use Rattle.mail_words.specs.Written.{has_written_words, IsWrittenText}

-- the alphabet of RFC 4648, section 4, and its padding `=`
pub record HasStandardAlphabet (engine : GeneralPurpose) : Type 0 where
  pub symbols : engine_symbols engine ≡ codes "ABCDEFGHIJKLMNOPQRSTUVWXYZabcdefghijklmnopqrstuvwxyz0123456789+/"
  pub padding : engine_padding engine ≡ 61

-- the value of a header field with this text, unfolded and decoded, is the text
abbrev pub IsReadBack : List ℕ → List ℕ → Type 0
IsReadBack text value = IsHeaderText text value → decoded_text (unfold_of value) ≡ text

-- what a text says that is written with the words that its writer encoded: what it decodes to if it has such words, otherwise itself
abbrev pub said_by : List ℕ → List ℕ
said_by text = cond (has_written_words text) (decoded_text text) text

-- the value of a header field that was written so, unfolded and decoded, is what the text says (`said_by`)
abbrev pub IsSaid : List ℕ → List ℕ → Type 0
IsSaid text value = IsWrittenText text value → decoded_text (unfold_of value) ≡ said_by text
