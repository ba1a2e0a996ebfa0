use Rattle.std.proofs.Common.{◌≡◌, ℕ, List, [], ◌∷◌, ◌++◌, append_assoc, refl, arith, w16, FitsSigned}
use Rattle.std.proofs.lemmas.Int.{to_z-of_z}
use Rattle.jiff_core.proofs.SignedLemmas.{signed_arith}
use Rattle.std.proofs.lemmas.Result.{on_ok_weaker}
use Rattle.mail_dates.specs.Parts.{mail_day, time_text, zone_text}
use Rattle.mail_dates.proofs.writing.write_mail.Goals as goal

-- five texts, appended in turn
glue : (old x a b y c d z new : List ℕ) → a ≡ old ++ x → b ≡ a ++ 32 ∷ [] → c ≡ b ++ y → d ≡ c ++ 32 ∷ [] → new ≡ d ++ z → new ≡ old ++ (x ++ (32 ∷ (y ++ (32 ∷ z))))
glue old x a b y c d z new one two three four five = rw (five, four, three, two, one) (simp append_assoc refl)

pub returns : goal.returns
returns c =
    let fits : FitsSigned w16 c.args.date.now.zone = omega (arith, signed_arith, c.requires.zone) in
    on_ok_weaker c.write_zone.result
    (λ last. glue c.args.out.now (mail_day c.args.date.now) c.write_mail_day.new.out c.push.new.self (time_text c.args.date.now) c.write_time.new.out c.push-2.new.self (zone_text c.args.date.now.zone) c.write_zone.new.out
    c.in_ok-write_mail_day.ensures c.in_ok-push.ensures.ok c.in_ok-write_time.ensures c.in_ok-push-2.ensures.ok last)
    (simp to_z-of_z at c.write_zone.ensures)
