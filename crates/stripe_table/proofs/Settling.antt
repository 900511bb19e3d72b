-- A closed set, and a piece that is added to it.
use Rattle.std.proofs.Common.{◌≡◌, ℕ, zero, suc, ◌+◌, ◌<◌, List, [], ◌∷◌, length, get_or, set, sym, refl, ap, ◌∙◌, subst, arith, length-set, get_or-set_same, get_or-set_other, Result, Ok, Err, OnOk, OnErr}
use mathlib.Core.Logic.{dite}
use mathlib.Core.Option.{some, some-injective, some-ne-none}
use native.Mathlib.Decide.{ℕ_discrete}
use lib.ListN.{get_elem?}
use Rattle.scope_types.specs.declared.path.Piece.{Piece}
use Rattle.stripe_table.specs.Limits.{Chunks, IsLimited, IsPieceOf}
use Rattle.stripe_table.specs.declared.stripe.Stripe.{Stripe}
use Rattle.stripe_table.specs.private.Adding.{HasRoom, TakesIn}
use Rattle.stripe_table.specs.Stripe.{empty_stripe}
use Rattle.stripe_table.specs.Views.{occurrences}
use Rattle.stripe_table.specs.Fits.{Fits}
use Rattle.stripe_table.specs.Ends.{FitsAt, AllFit, stripe_names}
use Rattle.stripe_table.proofs.Laying.{longer, room}

there_is : (xs : List Stripe) (t : ℕ) (x : Stripe) → get_elem? xs t ≡ some x → get_or xs t empty_stripe ≡ x
there_is [] t x e = absurd (some-ne-none x (sym e))
there_is (y ∷ ys) zero x e = some-injective y x e
there_is (y ∷ ys) (suc t) x e = there_is ys t x e

again : (p : Chunks) (s k : ℕ) (x : Stripe) → Fits p s k x → Fits p s (length x.names) x
again p s k x f = subst (λ (n : ℕ). Fits p s n x) (sym f.long) f

pub fits_there : (p : Chunks) (xs : List Stripe) (t k : ℕ) → FitsAt p xs t k → Fits p t (length (stripe_names xs t)) (get_or xs t empty_stripe)
fits_there p xs t k (x, at, f) = let is = there_is xs t x at in subst (λ (y : Stripe). Fits p t (length y.names) y) (sym is) (again p t k x f)

pub long_there : (p : Chunks) (xs : List Stripe) (t k : ℕ) → FitsAt p xs t k → length (stripe_names xs t) ≡ k
long_there p xs t k (x, at, f) = ap (λ (y : Stripe). length y.names) (there_is xs t x at) ∙ f.long

pub all_fit_set : (p : Chunks) (xs : List Stripe) (s : ℕ) (y : Stripe) → AllFit p xs → s < 16 → Fits p s (length y.names) y → AllFit p (set xs s y)
all_fit_set p xs s y all lt f = (
  length-set xs s y ∙ all.0,
  λ t l. dite (ℕ_discrete t s)
      (λ e. let is : get_or (set xs s y) s empty_stripe ≡ y = get_or-set_same xs s y empty_stripe (let z = all.0 in omega arith) in
      subst (λ (u : ℕ). Fits p u (length (stripe_names (set xs s y) u)) (get_or (set xs s y) u empty_stripe)) (sym e) (subst (λ (z : Stripe). Fits p s (length z.names) z) (sym is) f))
      (λ ne. let is : get_or (set xs s y) t empty_stripe ≡ get_or xs t empty_stripe = get_or-set_other xs s t y empty_stripe ne in subst (λ (z : Stripe). Fits p t (length z.names) z) (sym is) (all.1 t l)),
)

pub any_default : (xs : List Stripe) (s : ℕ) (a b : Stripe) → s < length xs → get_or xs s a ≡ get_or xs s b
any_default [] s a b h = absurd (omega arith)
any_default (x ∷ xs) zero a b h = refl
any_default (x ∷ xs) (suc s) a b h = any_default xs s a b (omega arith)

-- the stripe that a piece is for has room for it
module _ (p : Chunks) (xs : List Stripe) (q : Piece) (x : Stripe) (all : AllFit p xs) (is : x ≡ get_or xs q.stripe x) (of : IsPieceOf p q) (missing : occurrences q.chunk (stripe_names xs q.stripe) ≡ 0) where
  here : x ≡ get_or xs q.stripe empty_stripe
  here = is ∙ any_default xs q.stripe x empty_stripe (let z = all.0 in let y = of.stripe in omega arith)

  fits : Fits p q.stripe (length x.names) x
  fits = subst (λ (z : Stripe). Fits p q.stripe (length z.names) z) (sym here) (all.1 q.stripe of.stripe)

  not_named : occurrences q.chunk x.names ≡ 0
  not_named = ap (λ (z : Stripe). occurrences q.chunk z.names) here ∙ missing

  pub settle_room : IsLimited p → HasRoom x q
  settle_room limited = room p q (length x.names) x limited fits not_named of

  pub settled : (y : Stripe) → TakesIn x q y → AllFit p (set xs q.stripe y)
  settled y t = all_fit_set p xs q.stripe y all of.stripe (again p q.stripe (length x.names + 1) y (longer p q (length x.names) x y fits not_named of t))

  pub unsettled : (y : Stripe) → y ≡ x → AllFit p (set xs q.stripe y)
  unsettled y e = all_fit_set p xs q.stripe y all of.stripe (subst (λ (z : Stripe). Fits p q.stripe (length z.names) z) (sym e) fits)

  pub either_way : {A B : Type 0} (r : Result A B) (y : Stripe) → OnOk r (TakesIn x q y) → OnErr r (y ≡ x) → AllFit p (set xs q.stripe y)
  either_way (Ok a) y t e = settled y t
  either_way (Err b) y t e = unsettled y e
