-- What a settled piece does to the names, and when stripes name every chunk.
use Rattle.std.proofs.Common.{◌≡◌, ◌≢◌, ℕ, zero, suc, ◌+◌, ◌*◌, ◌<◌, ◌≤◌, ◌==◌, List, [], ◌∷◌, ◌++◌, length, sym, refl, ap, ◌∙◌, subst, arith, eq-eqb, ne_eqb, length-append, Result, Ok, Err, IfOk}
use mathlib.Core.Logic.{dite}
use native.Mathlib.Decide.{ℕ_discrete}
use Rattle.stripe_table.specs.Limits.{Chunks}
use Rattle.stripe_table.specs.Views.{occurrences, weight, sum_below}
use Rattle.stripe_table.specs.Ends.{AllFit, stripe_names}
use Rattle.stripe_table.specs.declared.stripe.Stripe.{Stripe}
use Rattle.stripe_table.proofs.Sums.{times_snoc, up_to_all, few_below}
use Rattle.merge_crew.specs.private.Settling.{name_count}

pub up_to_same : (n : ℕ) (f g : ℕ → ℕ) → ((t : ℕ) → t < n → g t ≡ f t) → sum_below n g ≡ sum_below n f
up_to_same zero f g h = refl
up_to_same (suc n) f g h = let a = h n (omega arith) in let r = up_to_same n f g (λ t l. h t (omega arith)) in omega arith

up_to_more : (n s : ℕ) (f g : ℕ → ℕ) → s < n → g s ≡ f s + 1 → ((t : ℕ) → t ≢ s → g t ≡ f t) → sum_below n g ≡ sum_below n f + 1
up_to_more zero s f g h e o = absurd (omega arith)
up_to_more (suc n) s f g h e o = dite (ℕ_discrete n s)
    (λ is. let r = up_to_same n f g (λ t l. o t (λ k. omega arith)) in let a : g n ≡ f n + 1 = subst (λ (z : ℕ). g z ≡ f z + 1) (sym is) e in omega arith)
    (λ ne. let a = o n ne in let r = up_to_more n s f g (omega arith) e o in omega arith)

-- one name more, c at stripe s
module _ (a b : List Stripe) (s c : ℕ) (ok : stripe_names b s ≡ stripe_names a s ++ c ∷ []) (rest : (t : ℕ) → t ≢ s → stripe_names b t ≡ stripe_names a t) where
  pub named : 0 < occurrences c (stripe_names b s)
  named = let r = ap (occurrences c) ok ∙ times_snoc c (stripe_names a s) c in let w : weight (c == c) ≡ 1 = ap weight (eq-eqb c c refl) in omega arith

  pub others : (d t : ℕ) → (d ≡ c → t ≡ s → ⊥) → occurrences d (stripe_names b t) ≡ occurrences d (stripe_names a t)
  others d t ne = dite (ℕ_discrete t s)
      (λ is. let r = ap (occurrences d) ok ∙ times_snoc d (stripe_names a s) c in let w : weight (d == c) ≡ 0 = ap weight (ne_eqb d c (λ e. ne e is)) in
      subst (λ (z : ℕ). occurrences d (stripe_names b z) ≡ occurrences d (stripe_names a z)) (sym is) (omega arith))
      (λ no. ap (occurrences d) (rest t no))

  pub counted : s < 16 → name_count b ≡ name_count a + 1
  counted lt = up_to_more 16 s (λ t. length (stripe_names a t)) (λ t. length (stripe_names b t)) lt (ap length ok ∙ length-append (stripe_names a s) (c ∷ [])) (λ t ne. ap length (rest t ne))

ones : (n m : ℕ) (f : ℕ → ℕ) → ((c : ℕ) → c < m → 0 < f c) → ((c : ℕ) → c < n → c < m) → n ≤ sum_below n f
ones zero m f h l = omega arith
ones (suc n) m f h l = let a = h n (l n (omega arith)) in let r = ones n m f h (λ c k. l c (omega arith)) in omega arith

full : (n : ℕ) (xs : List ℕ) → ((c : ℕ) → 0 < occurrences c xs → c < n) → ((c : ℕ) → c < n → 0 < occurrences c xs) → n ≤ length xs
full n xs below each = let a = up_to_all n xs below in let b = ones n n (λ c. occurrences c xs) each (λ c l. l) in omega arith

sixteen : (n : ℕ) → sum_below 16 (λ t. n) ≡ 16 * n
sixteen n = omega arith

-- where each stripe fits and names every chunk, it does so once, and all names are sixteen times the chunks
module _ (plan : Chunks) (all : List Stripe) (fit : AllFit plan all) (each : (c s : ℕ) → c < length plan → s < 16 → 0 < occurrences c (stripe_names all s)) where
  pub all_named : name_count all ≡ 16 * length plan
  all_named = let n : ℕ = length plan in up_to_same 16 (λ t. n) (λ t. length (stripe_names all t)) (λ t lt. let f = fit.1 t lt in let a = few_below n (stripe_names all t) f.distinct f.below in
      let b = full n (stripe_names all t) f.below (λ c l. each c t l lt) in omega arith) ∙ sixteen n

  pub named_once : (s c : ℕ) → s < 16 → c < length plan → occurrences c (stripe_names all s) ≡ 1
  named_once s c ls lc = let a = (fit.1 s ls).distinct c in let b = each c s lc ls in omega arith

pub rest_counted : {B : Type 0} (plan : Chunks) (a b : List Stripe) (r : Result ℕ B) → AllFit plan b → IfOk r (λ _. (c s : ℕ) → c < length plan → s < 16 → 0 < occurrences c (stripe_names b s))
    → IfOk r (λ k. name_count b ≡ name_count a + k) → IfOk r (λ k. name_count a + k ≡ 16 * length plan)
rest_counted plan a b (Ok k) fit each sum = sym sum ∙ all_named plan b fit each
rest_counted plan a b (Err e) fit each sum = search Rattle.std.proofs.Common.rules

-- the pieces of chunk c for the stripes below s were settled, and that for s is
module _ (a b d : List Stripe) (c s : ℕ) (others_until : (e t : ℕ) → (e ≡ c → t < s → ⊥) → occurrences e (stripe_names b t) ≡ occurrences e (stripe_names a t))
    (others_here : (e t : ℕ) → (e ≡ c → t ≡ s → ⊥) → occurrences e (stripe_names d t) ≡ occurrences e (stripe_names b t)) where
  pub others_after : (e t : ℕ) → (e ≡ c → t < s + 1 → ⊥) → occurrences e (stripe_names d t) ≡ occurrences e (stripe_names a t)
  others_after e t ne = others_here e t (λ x y. ne x (omega arith)) ∙ others_until e t (λ x y. ne x (omega arith))

  pub named_after : ((t : ℕ) → t < s → 0 < occurrences c (stripe_names b t)) → 0 < occurrences c (stripe_names d s) → (t : ℕ) → t < s + 1 → 0 < occurrences c (stripe_names d t)
  named_after until here t h = dite (ℕ_discrete t s)
      (λ is. subst (λ (z : ℕ). 0 < occurrences c (stripe_names d z)) (sym is) here)
      (λ ne. let o = others_here c t (λ _ y. ne y) in let u = until t (omega arith) in omega arith)
