-- The laws of every table that the steps reach.
use Rattle.std.proofs.Common.{◌≡◌, ◌≢◌, ℕ, suc, ◌<◌, ◌≤◌, ◌==◌, Bool, true, false, List, [], ◌∷◌, length, get_or, sym, refl, ap, ◌∙◌, arith, ⊎_elim, ne_eqb}
use Rattle.std.proofs.Math.Nat.{min-le_left, min-le_right}
use mathlib.Core.Logic.{dite}
use mathlib.Core.Option.{some}
use native.Mathlib.Decide.{ℕ_discrete, dec_lt}
use lib.ListN.{get_elem?}
use Rattle.stripe_table.specs.declared.view.PassView.{PassView}
use Rattle.stripe_table.specs.declared.view.Hold.{Hold}
use Rattle.stripe_table.specs.declared.view.Hold.TheVariants.{Free, Holds}
use Rattle.stripe_table.specs.Views.{total, weight, got, over, splits, joins, first, holds_stripe, held_once}
use Rattle.stripe_table.specs.Laws.{Always, DrawsCounted, AllDrawn, DrawsInOrder, EachDrawnOnce, OddIsHeld, EvenIsFree, FewPieces, PutsCounted, HomeFits, TakenFits, OneFirst, SpentIsBlank, SamePlan, OwePieces, AloneIsNeverBusy}
use Rattle.stripe_table.proofs.Sums.{total_has, total_one}
use Rattle.stripe_table.proofs.Keeps.{holder, at_home, not_first, first_lives}
use Rattle.stripe_table.proofs.Reaching.{core}

total_some : {V : Type 0} (f : V → ℕ) (vs : List V) → 0 < total f vs → (j : ℕ) × (v : V) × (get_elem? vs j ≡ some v) × (0 < f v)
total_some f [] h = absurd (omega arith)
total_some f (x ∷ xs) h = dite (dec_lt 0 (f x)) (λ y. (0, x, refl, y)) (λ n. let r = total_some f xs (omega arith) in (suc r.0, r.1, r.2, r.3))

held_is : (t : ℕ) (h : Hold) → 0 < held_once t h → (k : ℕ) × (h ≡ Holds t k)
held_is t Free h = absurd (omega arith)
held_is t (Holds s k) h = dite (ℕ_discrete t s) (λ e. (k, ap (λ (z : ℕ). Holds z k) (sym e))) (λ ne. let w : weight (t == s) ≡ 0 = ap weight (ne_eqb t s ne) in absurd (omega arith))

is_one : (b : Bool) → 0 < weight b → b ≡ true
is_one true h = refl
is_one false h = absurd (omega arith)

pub draws : Always DrawsCounted
draws p s r = let k = core p s r in let a = min-le_left (get_or s.words 0 0) (length p) in let b = min-le_right (get_or s.words 0 0) (length p) in
    ⊎_elim (λ (z : get_or s.words 0 0 ≤ total got s.views). omega arith) (λ (z : length p ≤ total got s.views). omega arith) k.drawn

pub all_drawn : Always AllDrawn
all_drawn p s r j v at some_over = let k = core p s r in let a = total_has over s.views j v at in k.past (omega arith)

pub in_order : Always DrawsInOrder
in_order p s r = (core p s r).exact

pub each_once : Always EachDrawnOnce
each_once p s r few c = ((core p s r).each few c).0

pub odd_held : Always OddIsHeld
odd_held p s r t k lt = let kept = core p s r in let o = kept.stripes t lt in (
  (λ odd. let w = o.word_is in let one = o.one in let h : total (holds_stripe t) s.views ≡ 1 = omega arith in let f = total_some (holds_stripe t) s.views (omega arith) in let is = held_is t f.1.hold f.3 in
      let k' = ((kept.seats f.0 f.1 f.2).held t is.0 is.1).1 in let same : is.0 ≡ k = omega arith in let q = holder p s.words s.homes s.views f.0 f.1 kept f.2 t is.0 is.1 in (
        f.0,
        (f.1, f.2, is.1 ∙ ap (λ (z : ℕ). Holds t z) same),
        λ i n ne has. q.4 i has.0 ne has.1 n has.2,
      )),
  λ j has. let q = holder p s.words s.homes s.views j has.0 kept has.1 t k has.2 in let w = o.word_is in let a = q.1 in let b = q.3 in omega arith,
)

pub even_free : Always EvenIsFree
even_free p s r t lt = let kept = core p s r in let o = kept.stripes t lt in let w = o.word_is in let one = o.one in (
  (λ even j k has. let q = holder p s.words s.homes s.views j has.0 kept has.1 t k has.2 in let b = q.3 in absurd (omega arith)),
  λ none. dite (dec_lt 0 (total (holds_stripe t) s.views))
      (λ some_held. let f = total_some (holds_stripe t) s.views some_held in let is = held_is t f.1.hold f.3 in absurd (none f.0 is.0 (f.1, f.2, is.1)))
      (λ no. let z : total (holds_stripe t) s.views ≡ 0 = omega arith in omega arith),
)

pub few_pieces : Always FewPieces
few_pieces p s r t lt = let o = (core p s r).stripes t lt in let w = o.word_is in let one = o.one in let few = o.few in omega arith

pub puts_counted : Always PutsCounted
puts_counted p s r t lt = let o = (core p s r).stripes t lt in let w = o.word_is in let one = o.one in omega arith

pub home_fits : Always HomeFits
home_fits p s r t lt even = at_home p s.words s.homes s.views t _ (core p s r) lt refl even

pub taken_fits : Always TakenFits
taken_fits p s r j t k v at has = ((core p s r).seats j v at).had t k has

pub one_first : Always OneFirst
one_first p s r = let k = core p s r in let vs = s.views in let ones = k.ones in let f = total_some first vs (omega arith) in let j = f.0 in let v = f.1 in let at = f.2 in let is = is_one v.first f.3 in
    let others : (i : ℕ) (u : PassView) → i ≢ j → get_elem? vs i ≡ some u → (u.first ≡ false) × (u.splits ≡ 0) × (u.joins ≡ 0) =
    λ i u ne e. let no = not_first p s.words s.homes vs k j i v u at is e ne in let q = (k.seats i u e).quiet no in (no, q.0, q.1) in
    let s1 : total splits vs ≡ splits v = total_one splits vs j v at (λ i u n e. (others i u n e).1) in let s2 : total joins vs ≡ joins v = total_one joins vs j v at (λ i u n e. (others i u n e).2) in let l = k.lives in
    (j, v, at, is, first_lives p _ v (k.seats j v at) is, (omega arith), others)

pub spent_blank : Always SpentIsBlank
spent_blank p s r j v at spent = ((core p s r).seats j v at).gone spent

pub same_plan : Always SamePlan
same_plan p s r j v at alive = ((core p s r).seats j v at).knows alive

pub owe_pieces : Always OwePieces
owe_pieces p s r j v at c t h = ((core p s r).seats j v at).owing c t h

pub alone_never_busy : Always AloneIsNeverBusy
alone_never_busy p s r j v at is made = (core p s r).alone j v at is made
