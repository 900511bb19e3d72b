-- What the parts of a reading gave that gave a value in the end.
use Rattle.std.proofs.Common.{◌≡◌, Bool, true, false, cond, Result, Ok, Err, refl}
use Rattle.prof_bytes.specs.Outcome.{◌>>=◌}

pub bind_ok : {X Y F : Type 0} (r : Result X F) (f : X → Result Y F) (y : Y) → (r >>= f) ≡ Ok y → (x : X) × (r ≡ Ok x) × (f x ≡ Ok y)
bind_ok (Ok x) f y is = (x, refl, is)
bind_ok (Err e) f y is = absurd cc

pub guard_ok : {X F : Type 0} (b : Bool) (e : F) (x : Result X F) (y : X) → cond b (Err e) x ≡ Ok y → (b ≡ false) × (x ≡ Ok y)
guard_ok true e x y is = absurd cc
guard_ok false e x y is = (refl, is)

pub pass_ok : {X F : Type 0} (b : Bool) (e : F) (x : Result X F) (y : X) → cond b x (Err e) ≡ Ok y → (b ≡ true) × (x ≡ Ok y)
pass_ok true e x y is = (refl, is)
pass_ok false e x y is = absurd cc

pub ok_same : {X F : Type 0} (x y : X) → ◌≡◌ {A = Result X F} (Ok x) (Ok y) → x ≡ y
ok_same x y is = cc
