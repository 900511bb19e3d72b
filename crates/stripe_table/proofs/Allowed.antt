-- Each atomic operation is a step of the machine, so it keeps the rule.
use Rattle.std.proofs.Common.{◌≡◌, ◌≢◌, ℕ, ◌+◌, ◌*◌, ◌/◌, ◌%◌, ◌^◌, ◌<◌, eqb, Bool, true, false, List, [], ◌∷◌, get_or, set, sym, refl, ap, subst, arith, ⊎_elim, eq-eqb, ne_eqb}
use mathlib.Core.Logic.{dite}
use mathlib.Core.Option.{none, some}
use native.Mathlib.Decide.{ℕ_discrete}
use lib.ListN.{get_elem?}
use lib.Seq.{set-get_or}
use prog.Atomic.{either}
use Rattle.atomic_table.specs.Table.{Me, step, keeps, gives, stepped, Allows, Splits, Joins, Final, Seen}
use Rattle.atomic_table.specs.Table as act
use Rattle.atomic_table.proofs.Lists.{at_set}
use Rattle.stripe_table.specs.Limits.{Chunks}
use Rattle.stripe_table.specs.declared.view.PassView.{PassView}
use Rattle.stripe_table.specs.declared.view.Hold.TheVariants.{Free, Holds}
use Rattle.stripe_table.specs.declared.view.Last.TheVariants.{Saw}
use Rattle.stripe_table.specs.declared.stripe.Stripe.{Stripe}
use Rattle.stripe_table.specs.Views.{spent_view, after_draw, after_look, after_busy, after_take, after_put, after_put_back, after_present, after_split, after_join, fresh_view}
use Rattle.stripe_table.specs.private.Plays as rule
use Rattle.stripe_table.specs.Fits.{Fits, IsLonger, IsUnchanged}
use Rattle.stripe_table.specs.private.Kept.{Ruled}
use Rattle.stripe_table.specs.private.Plays.{carried}
use Rattle.stripe_table.specs.Machine.{MergeState, with_view, with_stripe, Step, claim, look, take, miss, puts, puts_back, meets, split, join, Reached, goes}
use Rattle.stripe_table.proofs.Keeps.{at_home}
use Rattle.stripe_table.proofs.Reaching.{core}

abbrev M : Type 0
M = Me Stripe PassView

abbrev Same : M → M → Type 0
Same m n = m ≡ n

module _ (p : Chunks) where
  pub claim_allowed : (slots id : ℕ) (me : M) → me.0.live ≡ true → Allows (Reached p) slots id me 0 (λ n. (n + 1) % 2 ^ 64) (rule.claims (step slots 0 1 0 none) me)
  claim_allowed slots id me alive s r _ at small = let w : PassView = after_draw (get_or s.words 0 0) me.0 in (w, keeps, tt, goes s _ r (claim id me.0 (at, alive) refl), refl)

  -- a word that is read stays
  still : (s : MergeState) (i id : ℕ) (me : M) (w : PassView) → Step s (with_view s id w) → Reached p s → Reached p (stepped s i (get_or s.words i 0) id me.1 w keeps)
  still s i id me w st r = subst (λ (ws : List ℕ). let z : MergeState = record { words = ws; homes = s.homes; views = set s.views id w } in Reached p z) (sym (set-get_or s.words i 0)) (goes s _ r st)

  pub look_allowed : (slots id t : ℕ) (me : M) → me.0.live ≡ true → me.0.hold ≡ Free → t < 16 → Allows (Reached p) slots id me (t + 1) (λ n. n) (rule.looks (step slots (t + 1) 0 0 none) me)
  look_allowed slots id t me alive free lt s r _ at small = let x : ℕ = get_or s.words (t + 1) 0 in let w : PassView = after_look t x me.0 in (
    w,
    keeps,
    tt,
    still s (t + 1) id me w (look id me.0 t (at, alive) free lt refl) r,
    λ a e. let i : t ≡ a = omega arith in ap (λ (y : ℕ). let q : M = (after_look y x me.0, me.1) in q) i,
  )

  pub take_allowed : (slots id t e : ℕ) (me : M) → me.0.live ≡ true → me.0.hold ≡ Free → me.0.last ≡ Saw t e → e % 2 ≡ 0 → t < 16
      → Allows (Reached p) slots id me (t + 1) (λ n. either (eqb n e) (e + 1) n) (rule.takes (step slots (t + 1) e (e + 1) none) me)
  take_allowed slots id t e me alive free saw even lt s r _ at small = let x : ℕ = get_or s.words (t + 1) 0 in let v = me.0 in let k = core p s r in dite (ℕ_discrete x e)
      (λ hit. let y = at_home p s.words s.homes s.views t e k lt hit even in let w : PassView = after_take t e y.0 v in let plan = (k.seats id v at).knows alive in (
        w,
        act.takes t y.0,
        y.1,
        subst (λ (b : Bool). Reached p (stepped s (t + 1) (either b (e + 1) x) id me.1 w (act.takes t y.0))) (sym (eq-eqb x e hit)) (goes s _ r (take id v t e y.0 (at, alive) free saw even lt hit y.1 refl)),
        λ a q. let i : t ≡ a = omega arith in subst (λ (z : ℕ). (x ≡ e → (y' : Stripe) × Fits v.plan z (e / 2) y' × Same (w, (t, y.0) ∷ me.1) (after_take z e y' v, (z, y') ∷ me.1)) × (x ≢ e → Same (w, (t, y.0) ∷ me.1) (after_busy z e x v, me.1))) i
            ((λ _. (y.0, subst (λ (z : Chunks). Fits z t (e / 2) y.0) (sym plan) y.2, refl)), λ ne. absurd (ne hit)),
      ))
      (λ ne. let w : PassView = after_busy t e x v in (
        w,
        keeps,
        tt,
        subst (λ (b : Bool). Reached p (stepped s (t + 1) (either b (e + 1) x) id me.1 w keeps)) (sym (ne_eqb x e ne)) (still s (t + 1) id me w (miss id v t e (at, alive) saw ne refl) r),
        λ a q. let i : t ≡ a = omega arith in ((λ hit. absurd (ne hit)), λ _. ap (λ (z : ℕ). let m : M = (after_busy z e x v, me.1) in m) i),
      ))

  -- a stripe that goes home
  home : (s : MergeState) (t n id : ℕ) (me : M) (x : Stripe) (w : PassView) → me.1 ≡ (t, x) ∷ [] → Step s (with_stripe s id w t n (some x)) → Reached p s → Reached p (stepped s (t + 1) n id me.1 w gives)
  home s t n id me x w here st r = subst (λ (cs : List (ℕ × Stripe)). let z : MergeState = record { words = set s.words (t + 1) n; homes = act.put_back s.homes cs; views = set s.views id w } in Reached p z) (sym here) (goes s _ r st)

  pub put_allowed : (slots id t k : ℕ) (me : M) (x : Stripe) → me.0.live ≡ true → me.0.hold ≡ Holds t k → me.1 ≡ (t, x) ∷ [] → Fits me.0.plan t (k + 1) x → IsLonger me.0.plan t (get_or x.names k 0) me.0.taken x
      → Allows (Reached p) slots id me (t + 1) (λ _. 2 * k + 2) (λ _. rule.puts (step slots (t + 1) (2 * k + 2) 0 none) me (2 * k + 2))
  put_allowed slots id t k me x alive has here fits longer s r _ at small = let v = me.0 in let w : PassView = after_put t k (get_or x.names k 0) v in (
    w,
    gives,
    tt,
    home s t (2 * k + 2) id me x w here (puts id v t k x (at, alive) has fits longer refl) r,
    λ a n e. let i : t ≡ a = cc in let j : k ≡ n = cc in let q : act.rest me.1 ≡ [] = ap act.rest here in λ z. let y : M = (after_put (i z) (j z) (get_or (carried (sym here z)).names (j z) 0) v, q z) in y,
  )

  pub back_allowed : (slots id t k : ℕ) (me : M) (x : Stripe) → me.0.live ≡ true → me.0.hold ≡ Holds t k → me.1 ≡ (t, x) ∷ [] → Fits me.0.plan t k x → IsUnchanged me.0.taken x
      → Allows (Reached p) slots id me (t + 1) (λ _. 2 * k) (λ _. rule.puts_back (step slots (t + 1) (2 * k) 0 none) me (2 * k))
  back_allowed slots id t k me x alive has here fits same s r _ at small = let v = me.0 in let w : PassView = after_put_back v in (
    w,
    gives,
    tt,
    home s t (2 * k) id me x w here (puts_back id v t k x (at, alive) has fits same refl) r,
    let q : act.rest me.1 ≡ [] = ap act.rest here in λ z. let y : M = (w, q z) in y,
  )

  pub meet_allowed : (slots id t k : ℕ) (me : M) (x : Stripe) → me.0.live ≡ true → me.0.hold ≡ Holds t k → me.1 ≡ (t, x) ∷ [] → Fits me.0.plan t k x → IsUnchanged me.0.taken x → x.index < k
      → Allows (Reached p) slots id me (t + 1) (λ _. 2 * k) (λ _. rule.meets (step slots (t + 1) (2 * k) 0 none) me (2 * k))
  meet_allowed slots id t k me x alive has here fits same there s r _ at small = let v = me.0 in let w : PassView = after_present t x.index (get_or x.names x.index 0) v in (
    w,
    gives,
    tt,
    home s t (2 * k) id me x w here (meets id v t k x.index x (at, alive) has fits same there refl) r,
    λ a n e. let i : t ≡ a = cc in let q : act.rest me.1 ≡ [] = ap act.rest here in λ z. let y : M = (after_present (i z) (carried (sym here z)).index (get_or (carried (sym here z)).names (carried (sym here z)).index 0) v, q z) in y,
  )

  pub split_allowed : (id : ℕ) (v : PassView) → v.live ≡ true → v.first ≡ true → Splits (Reached p) id v (after_split v) (fresh_view false v.plan)
  split_allowed id v alive f s r at = goes s _ r (split id v (at, alive) f refl)

  pub join_allowed : (id other : ℕ) (v w : PassView) → v.live ≡ true → v.first ≡ true → w.live ≡ true → w.hold ≡ Free → Joins (Reached p) id v other w (after_join v w) spent_view
  join_allowed id other v w alive f alive' free s r at two at' = let was : get_elem? s.views other ≡ some w = ⊎_elim (λ (z : (other ≡ id) × (after_join v w ≡ w)). absurd (two z.0)) (λ (z : (other ≢ id) × (get_elem? s.views other ≡ some w)). z.1) (at_set s.views id other (after_join v w) w at') in
      goes s _ r (join id other v w (at, alive) f (was, alive') two free refl)

  pub last_ruled : (ws : List ℕ) (xs : List Stripe) (id : ℕ) (v : PassView) → Final (Seen (Reached p) id v) ws xs → Final (Seen (Ruled p) id v) ws xs
  last_ruled ws xs id v (s, (r, at), w, l, h) = (s, (core p s r, at), w, l, h)
