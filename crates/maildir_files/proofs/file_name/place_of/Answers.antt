use Rattle.std.proofs.Common.{◌≡◌, ◌∙◌, ap, subst, sym}
use Rattle.std.specs.Str.{IsUtf8}
use Rattle.mail_flags.specs.Flags.{named_flags, letters}
use Rattle.maildir_files.proofs.LetterLemmas.{letters_utf8}
use Rattle.maildir_files.proofs.file_name.place_of.Goals as goal

-- letters are text, so that this doesn't come
pub returns : goal.returns
returns c =
    let utf8 : IsUtf8 (letters (named_flags c.args.flags.now)) = letters_utf8 (named_flags c.args.flags.now) in
    let same : letters (named_flags c.args.flags.now) ≡ c.as_slice.result.now =
    sym (c.as_slice.ensures ∙ c.in_ok-letters.ensures ∙ ap letters c.in_ok-read.ensures) in
    absurd (c.in-Err.ensures.cases.0 (subst IsUtf8 same utf8))
