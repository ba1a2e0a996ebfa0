-- What a rule's offsets are.
use Rattle.std.proofs.Common.{◌≡◌, IsTrue, Bool, true, false, if◌then◌else◌, List, ℕ, ℤ, Some, None, Option, option_map, refl, ap, sym, subst, ◌∙◌}
use Rattle.std.specs.Option.{ForSome}
use Rattle.jiff_tz.specs.PosixReader.{read_whole}
use Rattle.jiff_tz.specs.PosixRule.{offset_at, dst_at_by, match_some, in_window, utc_window}
use Rattle.jiff_tz.specs.Year.{year_of_nanos}
use Rattle.jiff_tz.specs.PosixText.{DstText, TzText, dst_view, tz_view}
use Rattle.jiff_tz.specs.declared.posix.Dst.{Dst}
use Rattle.jiff_tz.specs.declared.posix.TimeZone.{TimeZone}
use Rattle.mail_dates.specs.Offsets.{IsWhole, AreWhole}

-- where the text of daylight saving time is of whole minutes, so is the time
pub daylight_whole : (o : Option Dst) → ForSome (option_map dst_view o) (λ read. IsWhole read.seconds) → ForSome o (λ dst. IsWhole dst.offset.seconds)
daylight_whole o whole dst is = whole (dst_view dst) (ap (option_map dst_view) is)

-- and the other way round
pub daylight_read : (o : Option Dst) → ForSome o (λ dst. IsWhole dst.offset.seconds) → ForSome (option_map dst_view o) (λ read. IsWhole read.seconds)
daylight_read None whole read is = absurd (let no : None ≡ Some read = is in cc)
daylight_read (Some dst) whole read is =
    let same : dst_view dst ≡ read = (let e : Some (dst_view dst) ≡ Some read = is in cc) in
    subst (λ (d : DstText). IsWhole d.seconds) same (whole dst refl)

-- a rule that was read, and not all of whose offsets are of whole minutes, is none
pub part_rule : (text : List ℕ) (rule : TimeZone) (read : TzText) → read_whole text ≡ Some (tz_view rule) → read_whole text ≡ Some read → AreWhole read
    → IsWhole rule.std_offset.seconds × ForSome rule.dst (λ dst. IsWhole dst.offset.seconds)
part_rule text rule read was is whole =
    let same : read ≡ tz_view rule = (let e : Some read ≡ Some (tz_view rule) = sym is ∙ was in cc) in
    let own : AreWhole (tz_view rule) = subst (λ (t : TzText). AreWhole t) same whole in
    (own.0, daylight_whole rule.dst own.1)

-- at each moment the offset is one of the two
pub offset_whole : (rule : TimeZone) (nanos : ℤ) → IsWhole rule.std_offset.seconds → ForSome rule.dst (λ dst. IsWhole dst.offset.seconds) → IsWhole (offset_at rule nanos).seconds
offset_whole rule nanos standard daylight = by rule.dst daylight
  where
    in_force : (b : Bool) (dst : Dst) → IsWhole dst.offset.seconds → IsWhole (match_some (if b then Some dst else None) rule.std_offset (λ d. d.offset)).seconds
    in_force true dst whole = whole
    in_force false dst whole = standard

    by : (o : Option Dst) → ForSome o (λ dst. IsWhole dst.offset.seconds) → IsWhole (match_some (dst_at_by rule.std_offset o nanos) rule.std_offset (λ d. d.offset)).seconds
    by None whole = standard
    by (Some dst) whole = in_force (in_window (utc_window dst (year_of_nanos nanos) rule.std_offset) nanos) dst (whole dst refl)

-- a test that failed didn't hold
pub not_true : (b : Bool) → b ≡ false → IsTrue b → ⊥
not_true b fails holds = let no : true ≡ false = sym holds ∙ fails in cc
