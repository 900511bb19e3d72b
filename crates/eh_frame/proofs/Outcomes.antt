-- What a call gives, seen once more.
use Rattle.std.proofs.Common.{Result, Ok, Err, ap}
use Rattle.prof_bytes.specs.Outcome.{Gives, viewed}
use Rattle.prof_bytes.specs.declared.fail.Fail.{Fail}
use Rattle.prof_bytes.specs.declared.fail.Fail.TheVariants as fails

pub gives_viewed : {X Y Z F : Type 0} (f : X → Y) (g : Y → Z) (r : Result X (Fail F)) (w : Result Y F) → Gives f r w → Gives (λ x. g (f x)) r (viewed g w)
gives_viewed {Y = Y} {F = F} f g (Ok x) w is = ap (λ (r : Result Y F). viewed g r) is
gives_viewed {Y = Y} {F = F} f g (Err (fails.Fault fault)) w is = ap (λ (r : Result Y F). viewed g r) is
gives_viewed f g (Err (fails.Memory memory)) w is = tt
