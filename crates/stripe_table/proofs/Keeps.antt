-- Each step keeps the rule.
use Rattle.std.proofs.Common.{◌≡◌, ◌≢◌, ℕ, ◌+◌, ◌*◌, ◌/◌, ◌%◌, ◌^◌, ◌<◌, ◌≤◌, ◌⊎◌, ◌==◌, Bool, true, false, cond, List, [], ◌∷◌, ◌++◌, length, get_or, set, sym, refl, ap, ◌∙◌, subst, arith, inl, inr, ⊎_elim, length-set, get_or-set_same, get_or-set_other, lt-ltb, le-ltb, le-leb, true≢false, eq-eqb, ne_eqb}
use Rattle.std.proofs.lemmas.Bool.{lt-leb}
use mathlib.Core.Logic.{dite}
use mathlib.Core.Option.{none, some, some-injective}
use mathlib.Core.Option as maybe
use native.Mathlib.Decide.{ℕ_discrete, dec_lt}
use lib.ListN.{get_elem?}
use Rattle.atomic_table.specs.Table.{Me}
use Rattle.atomic_table.proofs.Lists.{at_set, set_here, set_else}
use Rattle.stripe_table.specs.Limits.{Chunks}
use Rattle.stripe_table.specs.declared.view.PassView.{PassView}
use Rattle.stripe_table.specs.declared.view.Hold.{Hold}
use Rattle.stripe_table.specs.declared.view.Hold.TheVariants.{Free, Holds}
use Rattle.stripe_table.specs.declared.view.Last.{Last}
use Rattle.stripe_table.specs.declared.view.Last.TheVariants.{Nothing, Saw, Found, Named}
use Rattle.stripe_table.specs.declared.stripe.Stripe.{Stripe}
use Rattle.stripe_table.specs.Stripe.{empty_stripe}
use Rattle.stripe_table.specs.Views.{total, weight, occurrences, owes, times_piece, chunk_pieces, without, held_once, got, over, splits, joins, first, live, draws, done, holds_stripe, after_draw, after_look, after_busy, after_take, after_put}
use Rattle.stripe_table.specs.Fits.{Fits}
use Rattle.stripe_table.specs.private.Kept.{StripeOk, SeatOk, Alone, Kept}
use Rattle.stripe_table.proofs.Sums.{total_set, total_same, total_two, total_has, total_one, times_append, times_snoc, few_below, piece_append, piece_without, pieces_are}

abbrev Homes : Type 0
Homes = List (maybe.Option Stripe)

abbrev M : Type 0
M = Me Stripe PassView

abbrev Same : M → M → Type 0
Same m n = m ≡ n

-- the draw of x below n, or at n and above
got_next : (x : ℕ) (v : PassView) → (x < length v.plan → got (after_draw x v) ≡ v.got + 1) × (length v.plan ≤ x → (got (after_draw x v) ≡ v.got) × (over (after_draw x v) ≡ v.over + 1)) × (x < length v.plan → over (after_draw x v) ≡ v.over)
got_next x v = (
  (λ h. ap (λ (b : Bool). v.got + weight b) (lt-ltb x (length v.plan) h)),
  (λ h. (ap (λ (b : Bool). v.got + weight b) (le-ltb x (length v.plan) h) ∙ omega arith, ap (λ (b : Bool). v.over + weight b) (le-leb (length v.plan) x h))),
  (λ h. ap (λ (b : Bool). v.over + weight b) (lt-leb (length v.plan) x h) ∙ omega arith),
)

pub one_weight : (b : Bool) → b ≡ true → weight b ≡ 1
one_weight b e = ap weight e

pub no_weight : (b : Bool) → weight b ≡ 0 → b ≡ false
no_weight true e = absurd (omega arith)
no_weight false e = refl

-- what the first and the live weigh
module _ (p : Chunks) where
  pub first_lives : (d : ℕ → ℕ) (v : PassView) → SeatOk p d v → v.first ≡ true → v.live ≡ true
  first_lives d v o f = alive v.live refl
    where
      alive : (b : Bool) → v.live ≡ b → v.live ≡ true
      alive true e = e
      alive false e = absurd (true≢false (sym f ∙ ap (λ (z : PassView). z.first) (o.gone e)))

  -- all stripes but s are as they were
  other_stripes : (ws ws' : List ℕ) (hs hs' : Homes) (vs : List PassView) (id : ℕ) (v w : PassView) (s : ℕ) → Kept p ws hs vs → get_elem? vs id ≡ some v
      → ((t : ℕ) → t ≢ s → (done t w ≡ done t v) × (holds_stripe t w ≡ holds_stripe t v) × (get_or ws' (t + 1) 0 ≡ get_or ws (t + 1) 0) × (get_elem? hs' t ≡ get_elem? hs t))
      → (s < 16 → StripeOk p s (get_or ws' (s + 1) 0) (get_elem? hs' s) (total (done s) (set vs id w)) (total (holds_stripe s) (set vs id w)))
      → (t : ℕ) → t < 16 → StripeOk p t (get_or ws' (t + 1) 0) (get_elem? hs' t) (total (done t) (set vs id w)) (total (holds_stripe t) (set vs id w))
  other_stripes ws ws' hs hs' vs id v w s kept at same here t lt = dite (ℕ_discrete t s)
      (λ e. subst (λ (z : ℕ). StripeOk p z (get_or ws' (z + 1) 0) (get_elem? hs' z) (total (done z) (set vs id w)) (total (holds_stripe z) (set vs id w))) (sym e) (here (subst (λ (z : ℕ). z < 16) e lt)))
      (λ ne. let a = same t ne in let d = total_same (done t) vs id v w at a.0 in let h = total_same (holds_stripe t) vs id v w at a.1 in let o = kept.stripes t lt in record {
        word_is = a.2 ∙ (o.word_is ∙ λ i. 2 * (sym d i) + sym h i);
        one = let b = o.one in omega arith;
        few = let b = o.few in omega arith;
        at_home = λ z. let x = o.at_home (sym h ∙ z) in (x.0, a.3 ∙ x.1, subst (λ (k : ℕ). Fits p t k x.0) (sym d) x.2);
      })

  pub others_seated : (vs : List PassView) (id : ℕ) (w : PassView) (d d' : ℕ → ℕ) → ((j : ℕ) (u : PassView) → get_elem? vs j ≡ some u → SeatOk p d u) → SeatOk p d' w
      → ((j : ℕ) (u : PassView) → j ≢ id → get_elem? vs j ≡ some u → (t k : ℕ) → u.hold ≡ Holds t k → d t ≡ d' t)
      → (j : ℕ) (u : PassView) → get_elem? (set vs id w) j ≡ some u → SeatOk p d' u
  others_seated vs id w d d' old mine same j u e = ⊎_elim (λ (z : (j ≡ id) × (w ≡ u)). subst (SeatOk p d') z.1 mine)
      (λ (z : (j ≢ id) × (get_elem? vs j ≡ some u)). let o = old j u z.1 in record {
        knows = o.knows;
        quiet = o.quiet;
        held = λ t k h. ((o.held t k h).0, (o.held t k h).1 ∙ same j u z.0 z.1 t k h);
        gone = o.gone;
        owing = o.owing;
        placed = o.placed;
        had = o.had;
      }) (at_set vs id j w u e)

  -- another seat than the first is not first
  pub not_first : (ws : List ℕ) (hs : Homes) (vs : List PassView) → Kept p ws hs vs → (i j : ℕ) (v u : PassView) → get_elem? vs i ≡ some v → v.first ≡ true → get_elem? vs j ≡ some u → j ≢ i → u.first ≡ false
  not_first ws hs vs kept i j v u at f at' ne = let t = total_two first vs i j v u at at' ne in let o = kept.ones in let a = one_weight v.first f in no_weight u.first (omega arith)

  -- where the first has made no other pass, it alone can move
  pub only_first : (ws : List ℕ) (hs : Homes) (vs : List PassView) → Kept p ws hs vs → (i j : ℕ) (v u : PassView) → get_elem? vs i ≡ some v → v.first ≡ true → v.splits ≡ 0 → get_elem? vs j ≡ some u → j ≢ i → live u ≡ 0
  only_first ws hs vs kept i j v u at f none_made at' ne = let a = one_weight v.live (first_lives _ v (kept.seats i v at) f) in let t = total_two live vs i j v u at at' ne in let l = kept.lives in
      let s : total splits vs ≡ splits v = total_one splits vs i v at (λ k y n e. ((kept.seats k y e).quiet (not_first ws hs vs kept i k v y at f e n)).0) in omega arith

  others_alone : (ws ws' : List ℕ) (hs : Homes) (vs : List PassView) → Kept p ws hs vs → (id : ℕ) (v w : PassView) → get_elem? vs id ≡ some v → v.live ≡ true → Alone ws' w
      → (j : ℕ) (u : PassView) → get_elem? (set vs id w) j ≡ some u → Alone ws' u
  others_alone ws ws' hs vs kept id v w at alive mine j u e = ⊎_elim (λ (z : (j ≡ id) × (w ≡ u)). subst (Alone ws') z.1 mine)
      (λ (z : (j ≢ id) × (get_elem? vs j ≡ some u)). λ f none_made. let a = only_first ws hs vs kept j id u v z.1 f none_made at (λ e. z.0 (sym e)) in let b = one_weight v.live alive in absurd (omega arith))
      (at_set vs id j w u e)

  drawn_next : (x : ℕ) (v : PassView) (vs : List PassView) (id : ℕ) → v.plan ≡ p → get_elem? vs id ≡ some v → (x ≤ total got vs) ⊎ (length p ≤ total got vs)
      → ((x + 1) % 2 ^ 64 ≤ total got (set vs id (after_draw x v))) ⊎ (length p ≤ total got (set vs id (after_draw x v)))
  drawn_next x v vs id plan at d = let n : length v.plan ≡ length p = ap length plan in let t = total_set got vs id v (after_draw x v) at in let k = got_next x v in
      dite (dec_lt x (length v.plan))
      (λ h. let g = k.0 h in ⊎_elim (λ (a : x ≤ total got vs). inl (omega arith)) (λ (b : length p ≤ total got vs). inr (omega arith)) d)
      (λ ne. let le : length v.plan ≤ x = omega arith in let g = (k.1 le).0 in ⊎_elim (λ (a : x ≤ total got vs). inr (omega arith)) (λ (b : length p ≤ total got vs). inr (omega arith)) d)

  past_next : (x : ℕ) (v : PassView) (vs : List PassView) (id : ℕ) → v.plan ≡ p → get_elem? vs id ≡ some v → (x ≤ total got vs) ⊎ (length p ≤ total got vs) → (0 < total over vs → length p ≤ total got vs)
      → 0 < total over (set vs id (after_draw x v)) → length p ≤ total got (set vs id (after_draw x v))
  past_next x v vs id plan at d a some_over = let n : length v.plan ≡ length p = ap length plan in let t = total_set got vs id v (after_draw x v) at in let o = total_set over vs id v (after_draw x v) at in let k = got_next x v in
      dite (dec_lt x (length v.plan))
      (λ h. let g = k.0 h in let f = k.2 h in let b = a (omega arith) in omega arith)
      (λ ne. let le : length v.plan ≤ x = omega arith in let g = (k.1 le).0 in ⊎_elim (λ (a : x ≤ total got vs). let z : length p ≤ total got (set vs id (after_draw x v)) = omega arith in z) (λ (b : length p ≤ total got vs). let z : length p ≤ total got (set vs id (after_draw x v)) = omega arith in z) d)

  exact_next : (x : ℕ) (v : PassView) (vs : List PassView) (id : ℕ) → v.plan ≡ p → get_elem? vs id ≡ some v
      → (total got vs + total over vs < 2 ^ 64 → (x ≡ total got vs + total over vs) × (total got vs ≤ length p))
      → total got (set vs id (after_draw x v)) + total over (set vs id (after_draw x v)) < 2 ^ 64
      → ((x + 1) % 2 ^ 64 ≡ total got (set vs id (after_draw x v)) + total over (set vs id (after_draw x v))) × (total got (set vs id (after_draw x v)) ≤ length p)
  exact_next x v vs id plan at a few = let n : length v.plan ≡ length p = ap length plan in let t = total_set got vs id v (after_draw x v) at in let o = total_set over vs id v (after_draw x v) at in let k = got_next x v in
      dite (dec_lt x (length v.plan))
      (λ h. let g = k.0 h in let f = k.2 h in let b = a (omega arith) in let is = b.0 in let le = b.1 in (omega arith, omega arith))
      (λ ne. let past : length v.plan ≤ x = omega arith in let g = (k.1 past).0 in let f = (k.1 past).1 in let b = a (omega arith) in let is = b.0 in let le = b.1 in (omega arith, omega arith))

  each_next : (x : ℕ) (v : PassView) (vs : List PassView) (id : ℕ) → v.plan ≡ p → get_elem? vs id ≡ some v
      → (total got vs + total over vs < 2 ^ 64 → (x ≡ total got vs + total over vs) × (total got vs ≤ length p))
      → (total got vs + total over vs < 2 ^ 64 → (c : ℕ) → (total (draws c) vs ≤ 1) × (x ≤ c → total (draws c) vs ≡ 0))
      → total got (set vs id (after_draw x v)) + total over (set vs id (after_draw x v)) < 2 ^ 64
      → (c : ℕ) → (total (draws c) (set vs id (after_draw x v)) ≤ 1) × ((x + 1) % 2 ^ 64 ≤ c → total (draws c) (set vs id (after_draw x v)) ≡ 0)
  each_next x v vs id plan at a each few c = let t = total_set got vs id v (after_draw x v) at in let o = total_set over vs id v (after_draw x v) at in let d = total_set (draws c) vs id v (after_draw x v) at in let k = got_next x v in
      dite (dec_lt x (length v.plan))
      (λ h. let g = k.0 h in let f = k.2 h in let is = (a (omega arith)).0 in let y = each (omega arith) c in let most = y.0 in
      let m : draws c (after_draw x v) ≡ draws c v + weight (c == x) = ap (λ (b : Bool). occurrences c (v.drawn ++ cond b (x ∷ []) [])) (lt-ltb x (length v.plan) h) ∙ times_snoc c v.drawn x in
      dite (ℕ_discrete c x)
      (λ e. let one : weight (c == x) ≡ 1 = ap weight (eq-eqb c x e) in let none_yet = y.1 (omega arith) in (omega arith, λ q. absurd (omega arith)))
      (λ ne. let away : weight (c == x) ≡ 0 = ap weight (ne_eqb c x ne) in (omega arith, λ q. let r = y.1 (omega arith) in omega arith)))
      (λ ne. let past : length v.plan ≤ x = omega arith in let g = (k.1 past).0 in let f = (k.1 past).1 in let is = (a (omega arith)).0 in let y = each (omega arith) c in let most = y.0 in
      let m : draws c (after_draw x v) ≡ draws c v + 0 = ap (λ (b : Bool). occurrences c (v.drawn ++ cond b (x ∷ []) [])) (le-ltb x (length v.plan) past) ∙ times_append c v.drawn [] in
      (omega arith, λ q. let r = y.1 (omega arith) in omega arith))

  drew_owes : (x : ℕ) (v : PassView) → ((c s : ℕ) → 0 < owes c s v → (c < length p) × (s < 16)) → v.plan ≡ p → (c s : ℕ) → 0 < owes c s (after_draw x v) → (c < length p) × (s < 16)
  drew_owes x v old plan c s h = dite (dec_lt x (length v.plan))
      (λ lt. let a : owes c s (after_draw x v) ≡ owes c s v + times_piece c s (chunk_pieces x 16) = ap (λ (b : Bool). times_piece c s (v.owed ++ cond b (chunk_pieces x 16) [])) (lt-ltb x (length v.plan) lt) ∙ piece_append c s v.owed (chunk_pieces x 16) in
      dite (dec_lt 0 (owes c s v)) (λ y. old c s y) (λ n. let r = pieces_are x 16 c s (omega arith) in (subst (λ (z : ℕ × Chunks). z.0 < length z.1) (λ i. (sym r.0 i, plan i)) lt, r.1)))
      (λ ge. let le : length v.plan ≤ x = omega arith in let a : owes c s (after_draw x v) ≡ owes c s v + 0 = ap (λ (b : Bool). times_piece c s (v.owed ++ cond b (chunk_pieces x 16) [])) (le-ltb x (length v.plan) le) ∙ piece_append c s v.owed [] in old c s (omega arith))

  pub claimed : (ws : List ℕ) (hs : Homes) (vs : List PassView) (id : ℕ) (v : PassView) → Kept p ws hs vs → get_elem? vs id ≡ some v → v.live ≡ true
      → Kept p (set ws 0 ((get_or ws 0 0 + 1) % 2 ^ 64)) hs (set vs id (after_draw (get_or ws 0 0) v))
  claimed ws hs vs id v kept at alive = let x : ℕ = get_or ws 0 0 in let w : PassView = after_draw x v in let ws' : List ℕ = set ws 0 ((x + 1) % 2 ^ 64) in
      let o = kept.seats id v at in let plan : v.plan ≡ p = o.knows alive in
      let d = kept.drawn in let a = kept.past in let word = get_or-set_same ws 0 ((x + 1) % 2 ^ 64) 0 (let z = kept.wide in omega arith) in
      let apart : (t : ℕ) → get_or ws' (t + 1) 0 ≡ get_or ws (t + 1) 0 = λ t. get_or-set_other ws 0 (t + 1) ((x + 1) % 2 ^ 64) 0 (λ e. omega arith) in record {
        wide = length-set ws 0 ((x + 1) % 2 ^ 64) ∙ kept.wide;
        deep = kept.deep;
        drawn = subst (λ (z : ℕ). (z ≤ total got (set vs id w)) ⊎ (length p ≤ total got (set vs id w))) (sym word) (drawn_next x v vs id plan at d);
        past = past_next x v vs id plan at d a;
        exact = subst (λ (z : ℕ). total got (set vs id w) + total over (set vs id w) < 2 ^ 64 → (z ≡ total got (set vs id w) + total over (set vs id w)) × (total got (set vs id w) ≤ length p)) (sym word) (exact_next x v vs id plan at kept.exact);
        each = subst (λ (z : ℕ). total got (set vs id w) + total over (set vs id w) < 2 ^ 64 → (c : ℕ) → (total (draws c) (set vs id w) ≤ 1) × (z ≤ c → total (draws c) (set vs id w) ≡ 0)) (sym word) (each_next x v vs id plan at kept.exact kept.each);
        ones = total_same first vs id v w at refl ∙ kept.ones;
        lives = let b = kept.lives in let b1 = total_same live vs id v w at refl in let b2 = total_same joins vs id v w at refl in let b3 = total_same splits vs id v w at refl in omega arith;
        stripes = other_stripes ws ws' hs hs vs id v w 16 kept at (λ t ne. (refl, refl, apart t, refl)) (λ h. absurd (omega arith));
        seats = others_seated vs id w (λ t. total (done t) vs) (λ t. total (done t) (set vs id w)) kept.seats
            (record { knows = o.knows; quiet = o.quiet; held = λ t k h. ((o.held t k h).0, (o.held t k h).1 ∙ sym (total_same (done t) vs id v w at refl)); gone = λ e. absurd (true≢false (sym alive ∙ e)); owing = drew_owes x v (λ c s h. o.owing c s h) plan; placed = o.placed; had = o.had })
            (λ j u n e t k h. sym (total_same (done t) vs id v w at refl));
        alone = others_alone ws ws' hs vs kept id v w at alive (λ f z. (((kept.alone id v at) f z).0, λ t e l. absurd (cc)));
      }

  -- a step that tells a pass something, and changes no word and no stripe
  tells : (ws : List ℕ) (hs : Homes) (vs : List PassView) (id : ℕ) (v : PassView) (b : ℕ) (l : Last) → Kept p ws hs vs → get_elem? vs id ≡ some v → v.live ≡ true → Alone ws (record v { busy = b; last = l })
      → Kept p ws hs (set vs id (record v { busy = b; last = l }))
  tells ws hs vs id v b l kept at alive mine = let w : PassView = record v { busy = b; last = l } in let o = kept.seats id v at in record {
    wide = kept.wide;
    deep = kept.deep;
    drawn = subst (λ (z : ℕ). (get_or ws 0 0 ≤ z) ⊎ (length p ≤ z)) (sym (total_same got vs id v w at refl)) kept.drawn;
    past = let a = kept.past in let g = total_same got vs id v w at refl in let h = total_same over vs id v w at refl in λ z. let y = a (omega arith) in omega arith;
    exact = let a = kept.exact in let g = total_same got vs id v w at refl in let h = total_same over vs id v w at refl in λ z. let b = a (omega arith) in let is = b.0 in let le = b.1 in (omega arith, omega arith);
    each = let a = kept.each in let g = total_same got vs id v w at refl in let h = total_same over vs id v w at refl in λ z c. let d = total_same (draws c) vs id v w at refl in let y = a (omega arith) c in let few = y.0 in (omega arith, λ q. let r = y.1 q in omega arith);
    ones = total_same first vs id v w at refl ∙ kept.ones;
    lives = let b = kept.lives in let b1 = total_same live vs id v w at refl in let b2 = total_same joins vs id v w at refl in let b3 = total_same splits vs id v w at refl in omega arith;
    stripes = other_stripes ws ws hs hs vs id v w 16 kept at (λ t ne. (refl, refl, refl, refl)) (λ h. absurd (omega arith));
    seats = others_seated vs id w (λ t. total (done t) vs) (λ t. total (done t) (set vs id w)) kept.seats
        (record { knows = o.knows; quiet = o.quiet; held = λ t k h. ((o.held t k h).0, (o.held t k h).1 ∙ sym (total_same (done t) vs id v w at refl)); gone = λ e. absurd (true≢false (sym alive ∙ e)); owing = o.owing; placed = o.placed; had = o.had })
        (λ j u n e t k h. sym (total_same (done t) vs id v w at refl));
    alone = others_alone ws ws hs vs kept id v w at alive mine;
  }

  -- where the first has made no other pass and holds nothing, each word is even
  even_alone : (ws : List ℕ) (hs : Homes) (vs : List PassView) → Kept p ws hs vs → (i : ℕ) (v : PassView) → get_elem? vs i ≡ some v → v.first ≡ true → v.splits ≡ 0 → v.hold ≡ Free → (t : ℕ) → t < 16 → get_or ws (t + 1) 0 % 2 ≡ 0
  even_alone ws hs vs kept i v at f none_made free t lt = let o = kept.stripes t lt in let mine : holds_stripe t v ≡ 0 = ap (held_once t) free in
      let h : total (holds_stripe t) vs ≡ holds_stripe t v = total_one (holds_stripe t) vs i v at (λ k y n e. ap (holds_stripe t) ((kept.seats k y e).gone (no_weight y.live (only_first ws hs vs kept i k v y at f none_made e n)))) in
      let w = o.word_is in omega arith

  pub looked_at : (ws : List ℕ) (hs : Homes) (vs : List PassView) (id t : ℕ) (v : PassView) → Kept p ws hs vs → get_elem? vs id ≡ some v → v.live ≡ true → v.hold ≡ Free → t < 16
      → Kept p ws hs (set vs id (after_look t (get_or ws (t + 1) 0) v))
  looked_at ws hs vs id t v kept at alive free lt = let x : ℕ = get_or ws (t + 1) 0 in dite (ℕ_discrete (x % 2) 0)
      (λ even. let is : after_look t x v ≡ record v { last = Saw t x } = ap (λ (b : Bool). cond b (record v { last = Saw t x }) (after_busy t x x v)) (eq-eqb (x % 2) 0 even) in
      subst (λ (w : PassView). Kept p ws hs (set vs id w)) (sym is)
      (tells ws hs vs id v v.busy (Saw t x) kept at alive (λ f z. (((kept.alone id v at) f z).0, λ a b e. let i : t ≡ a = cc in let j : x ≡ b = cc in subst (λ (y : ℕ). get_or ws (y + 1) 0 ≡ b) i j))))
      (λ odd. let is : after_look t x v ≡ after_busy t x x v = ap (λ (b : Bool). cond b (record v { last = Saw t x }) (after_busy t x x v)) (ne_eqb (x % 2) 0 odd) in
      subst (λ (w : PassView). Kept p ws hs (set vs id w)) (sym is)
      (tells ws hs vs id v (v.busy + 1) (Found t x x) kept at alive (λ f z. absurd (odd (even_alone ws hs vs kept id v at f z free t lt)))))

  weight_self : (s : ℕ) → weight (s == s) ≡ 1
  weight_self s = ap weight (eq-eqb s s refl)

  weight_else : (t s : ℕ) → t ≢ s → weight (t == s) ≡ 0
  weight_else t s ne = ap weight (ne_eqb t s ne)

  -- a step at stripe s that changes its word, its home, and what the pass has after_put and holds
  module _ (ws : List ℕ) (hs : Homes) (vs : List PassView) (id : ℕ) (v : PassView) (kept : Kept p ws hs vs) (at : get_elem? vs id ≡ some v) (alive : v.live ≡ true) (s : ℕ) (lt : s < 16) where
    moves : (n : ℕ) (hs' : Homes) (xs : List ℕ) (os : List (ℕ × ℕ)) (h : Hold) (own : Stripe) (b : ℕ) (l : Last) → ((c t : ℕ) → times_piece c t os ≤ owes c t v) → length hs' ≡ length hs → ((t : ℕ) → t ≢ s → get_elem? hs' t ≡ get_elem? hs t)
        → ((t : ℕ) → t ≢ s → (occurrences t xs ≡ occurrences t v.puts) × (held_once t h ≡ holds_stripe t v))
        → StripeOk p s n (get_elem? hs' s) (total (done s) (set vs id (record v { puts = xs; owed = os; hold = h; taken = own; met = b; last = l }))) (total (holds_stripe s) (set vs id (record v { puts = xs; owed = os; hold = h; taken = own; met = b; last = l })))
        → ((t k : ℕ) → h ≡ Holds t k → (t < 16) × (k ≡ total (done t) (set vs id (record v { puts = xs; owed = os; hold = h; taken = own; met = b; last = l }))))
        → ((t k : ℕ) → h ≡ Holds t k → Fits p t k own)
        → ((j : ℕ) (u : PassView) → j ≢ id → get_elem? vs j ≡ some u → (t k : ℕ) → u.hold ≡ Holds t k → total (done t) vs ≡ total (done t) (set vs id (record v { puts = xs; owed = os; hold = h; taken = own; met = b; last = l })))
        → ((t e : ℕ) → l ≢ Saw t e)
        → Kept p (set ws (s + 1) n) hs' (set vs id (record v { puts = xs; owed = os; hold = h; taken = own; met = b; last = l }))
    moves n hs' xs os h own b l fewer deep apart other here mine had rest unseen = let w : PassView = record v { puts = xs; owed = os; hold = h; taken = own; met = b; last = l } in let o = kept.seats id v at in let ws' : List ℕ = set ws (s + 1) n in
        let word : get_or ws' (s + 1) 0 ≡ n = get_or-set_same ws (s + 1) n 0 (let z = kept.wide in omega arith) in record {
          wide = length-set ws (s + 1) n ∙ kept.wide;
          deep = deep ∙ kept.deep;
          drawn = subst (λ (z : ℕ × ℕ). (z.0 ≤ z.1) ⊎ (length p ≤ z.1)) (λ i. (sym (get_or-set_other ws (s + 1) 0 n 0 (λ e. omega arith)) i, sym (total_same got vs id v w at refl) i)) kept.drawn;
          past = let a = kept.past in let g = total_same got vs id v w at refl in let h = total_same over vs id v w at refl in λ z. let y = a (omega arith) in omega arith;
          exact = let a = kept.exact in let g = total_same got vs id v w at refl in let f = total_same over vs id v w at refl in let first_word = get_or-set_other ws (s + 1) 0 n 0 (λ e. omega arith) in λ z. let c = a (omega arith) in let is = c.0 in let le = c.1 in (omega arith, omega arith);
          each = let a = kept.each in let g = total_same got vs id v w at refl in let f = total_same over vs id v w at refl in let first_word = get_or-set_other ws (s + 1) 0 n 0 (λ e. omega arith) in λ z c. let d = total_same (draws c) vs id v w at refl in let y = a (omega arith) c in let few = y.0 in (omega arith, λ q. let r = y.1 (omega arith) in omega arith);
          ones = total_same first vs id v w at refl ∙ kept.ones;
          lives = let b = kept.lives in let b1 = total_same live vs id v w at refl in let b2 = total_same joins vs id v w at refl in let b3 = total_same splits vs id v w at refl in omega arith;
          stripes = other_stripes ws ws' hs hs' vs id v w s kept at (λ t ne. let z = other t ne in (z.0, z.1, get_or-set_other ws (s + 1) (t + 1) n 0 (λ e. ne (omega arith)), apart t ne))
              (λ _. subst (λ (z : ℕ). StripeOk p s z (get_elem? hs' s) (total (done s) (set vs id w)) (total (holds_stripe s) (set vs id w))) (sym word) here);
          seats = others_seated vs id w (λ t. total (done t) vs) (λ t. total (done t) (set vs id w)) kept.seats
              (record { knows = o.knows; quiet = o.quiet; held = mine; gone = λ e. absurd (true≢false (sym alive ∙ e)); owing = λ c t h. o.owing c t (let z = fewer c t in omega arith); placed = λ t h. dite (ℕ_discrete t s) (λ e. subst (λ (z : ℕ). z < 16) (sym e) lt) (λ ne. let z = (other t ne).0 in o.placed t (omega arith)); had = had }) rest;
          alone = others_alone ws ws' hs vs kept id v w at alive (λ f z. (((kept.alone id v at) f z).0, λ t e q. absurd (unseen t e q)));
        }

  half : (d h e : ℕ) → e ≡ 2 * d + h → h ≤ 1 → e % 2 ≡ 0 → (h ≡ 0) × (d ≡ e / 2)
  half d h e is one even = (omega arith, omega arith)

  -- what an even word at a stripe says
  pub at_home : (ws : List ℕ) (hs : Homes) (vs : List PassView) (t e : ℕ) → Kept p ws hs vs → t < 16 → get_or ws (t + 1) 0 ≡ e → e % 2 ≡ 0 → (x : Stripe) × (get_elem? hs t ≡ some (some x)) × Fits p t (e / 2) x
  at_home ws hs vs t e kept lt is even = let o = kept.stripes t lt in let c = half (total (done t) vs) (total (holds_stripe t) vs) e (sym is ∙ o.word_is) o.one even in let y = o.at_home c.0 in
      (y.0, y.1, subst (λ (z : ℕ). Fits p t z y.0) c.1 y.2)

  pub taken_from : (ws : List ℕ) (hs : Homes) (vs : List PassView) (id t e : ℕ) (v : PassView) → Kept p ws hs vs → get_elem? vs id ≡ some v → v.live ≡ true → v.hold ≡ Free → e % 2 ≡ 0 → t < 16 → get_or ws (t + 1) 0 ≡ e → (x : Stripe) → get_elem? hs t ≡ some (some x)
      → Kept p (set ws (t + 1) (e + 1)) (set hs t none) (set vs id (after_take t e x v))
  taken_from ws hs vs id t e v kept at alive free even lt hit x home = let o = kept.stripes t lt in let w : PassView = after_take t e x v in let y = at_home ws hs vs t e kept lt hit even in
      let same : y.0 ≡ x = some-injective y.0 x (some-injective (some y.0) (some x) (sym y.1 ∙ home)) in let fits : Fits p t (e / 2) x = subst (Fits p t (e / 2)) same y.2 in let c = half (total (done t) vs) (total (holds_stripe t) vs) e (sym hit ∙ o.word_is) o.one even in
      let none_held : holds_stripe t v ≡ 0 = ap (held_once t) free in let me_held = weight_self t in let wi = o.word_is in
      let d : total (done t) (set vs id w) ≡ total (done t) vs = total_same (done t) vs id v w at refl in let h = total_set (holds_stripe t) vs id v w at in
      moves ws hs vs id v kept at alive t lt (e + 1) (set hs t none) v.puts v.owed (Holds t (e / 2)) x v.met Nothing (λ c a. omega arith) (length-set hs t none) (λ a ne. set_else hs t a none ne)
      (λ a ne. (refl, weight_else a t ne ∙ sym (ap (held_once a) free)))
      (record { word_is = omega arith; one = omega arith; few = let z = o.few in omega arith; at_home = λ z. absurd (omega arith) })
      (λ a k q. let i : t ≡ a = cc in let j : e / 2 ≡ k = cc in (subst (λ (z : ℕ). z < 16) i lt, sym j ∙ (sym c.1 ∙ (sym d ∙ ap (λ (z : ℕ). total (done z) (set vs id w)) i))))
      (λ a k q. let i : t ≡ a = cc in let j : e / 2 ≡ k = cc in subst (λ (z : ℕ × ℕ). Fits p z.0 z.1 x) (λ m. (i m, j m)) fits)
      (λ j u n q a k r. sym (total_same (done a) vs id v w at refl))
      (λ a b q. cc)

  pub missed : (ws : List ℕ) (hs : Homes) (vs : List PassView) (id t e : ℕ) (v : PassView) → Kept p ws hs vs → get_elem? vs id ≡ some v → v.live ≡ true → v.last ≡ Saw t e → get_or ws (t + 1) 0 ≢ e
      → Kept p ws hs (set vs id (after_busy t e (get_or ws (t + 1) 0) v))
  missed ws hs vs id t e v kept at alive saw miss = tells ws hs vs id v (v.busy + 1) (Found t e (get_or ws (t + 1) 0)) kept at alive (λ f z. absurd (miss (((kept.alone id v at) f z).1 t e saw)))

  fits_few : (s k : ℕ) (x : Stripe) → Fits p s k x → k ≤ length p
  fits_few s k x f = subst (λ (z : ℕ). z ≤ length p) f.long (few_below (length p) x.names f.distinct f.below)

  -- what is known of the stripe that a pass holds
  pub holder : (ws : List ℕ) (hs : Homes) (vs : List PassView) (id : ℕ) (v : PassView) → Kept p ws hs vs → get_elem? vs id ≡ some v → (s k : ℕ) → v.hold ≡ Holds s k
      → (s < 16) × (k ≡ total (done s) vs) × (holds_stripe s v ≡ 1) × (total (holds_stripe s) vs ≡ 1) × ((j : ℕ) (u : PassView) → j ≢ id → get_elem? vs j ≡ some u → (r : ℕ) → u.hold ≢ Holds s r)
  holder ws hs vs id v kept at s k has = let h = (kept.seats id v at).held s k has in let o = kept.stripes s h.0 in let one = o.one in let mine : holds_stripe s v ≡ 1 = ap (held_once s) has ∙ weight_self s in
      let t = total_has (holds_stripe s) vs id v at in (
        h.0,
        h.1,
        mine,
        omega arith,
        λ j u ne e r is. let two = total_two (holds_stripe s) vs id j v u at e ne in let his : holds_stripe s u ≡ 1 = ap (held_once s) is ∙ weight_self s in let a : 2 ≤ 1 = omega arith in omega arith,
      )

  -- the stripe s goes home as x, and the pass has after_put xs
  module _ (ws : List ℕ) (hs : Homes) (vs : List PassView) (id : ℕ) (v : PassView) (kept : Kept p ws hs vs) (at : get_elem? vs id ≡ some v) (alive : v.live ≡ true) (s k : ℕ) (has : v.hold ≡ Holds s k) where
    pub homeward : (x : Stripe) (os : List (ℕ × ℕ)) (b : ℕ) (l : Last) → ((c t : ℕ) → times_piece c t os ≤ owes c t v) → ((t e : ℕ) → l ≢ Saw t e) → Fits p s k x → Kept p (set ws (s + 1) (2 * k)) (set hs s (some x)) (set vs id (record v { owed = os; hold = Free; taken = empty_stripe; met = b; last = l }))
    homeward x os b l fewer unseen fits = let w : PassView = record v { owed = os; hold = Free; taken = empty_stripe; met = b; last = l } in let q = holder ws hs vs id v kept at s k has in let o = kept.stripes s q.0 in
        let d : total (done s) (set vs id w) ≡ total (done s) vs = total_same (done s) vs id v w at refl in let h = total_set (holds_stripe s) vs id v w at in let few = o.few in
        let is = q.1 in let one = q.2 in let all = q.3 in
        moves ws hs vs id v kept at alive s q.0 (2 * k) (set hs s (some x)) v.puts os Free empty_stripe b l fewer (length-set hs s (some x)) (λ t ne. set_else hs s t (some x) ne)
        (λ t ne. (refl, sym (ap (held_once t) has ∙ weight_else t s ne)))
        (record { word_is = omega arith; one = omega arith; few = omega arith; at_home = λ _. (x, set_here hs s (some x) (let z = kept.deep in let y = q.0 in omega arith), subst (λ (z : ℕ). Fits p s z x) (is ∙ sym d) fits) })
        (λ t r e. absurd (cc))
        (λ t r e. absurd (cc))
        (λ j u n e t r g. sym (total_same (done t) vs id v w at refl))
        unseen

    pub laid : (x : Stripe) (c : ℕ) → Fits p s (k + 1) x → Kept p (set ws (s + 1) (2 * k + 2)) (set hs s (some x)) (set vs id (after_put s k c v))
    laid x c fits = let w : PassView = after_put s k c v in let q = holder ws hs vs id v kept at s k has in let o = kept.stripes s q.0 in
        let d = total_set (done s) vs id v w at in let more : done s w ≡ done s v + 1 = times_snoc s v.puts s ∙ ap (λ (z : ℕ). done s v + z) (weight_self s) in let h = total_set (holds_stripe s) vs id v w at in let few = fits_few s (k + 1) x fits in
        let is = q.1 in let one = q.2 in let all = q.3 in
        let kept_else : (t : ℕ) → t ≢ s → done t w ≡ done t v = λ t ne. let a = times_snoc t v.puts s in let b = weight_else t s ne in omega arith in
        moves ws hs vs id v kept at alive s q.0 (2 * k + 2) (set hs s (some x)) (v.puts ++ s ∷ []) (without c s v.owed) Free empty_stripe v.met (Named s k c) (λ d t. piece_without d t c s v.owed) (length-set hs s (some x)) (λ t ne. set_else hs s t (some x) ne)
        (λ t ne. (kept_else t ne, sym (ap (held_once t) has ∙ weight_else t s ne)))
        (record { word_is = omega arith; one = omega arith; few = omega arith; at_home = λ _. (x, set_here hs s (some x) (let z = kept.deep in let y = q.0 in omega arith), subst (λ (z : ℕ). Fits p s z x) (omega arith) fits) })
        (λ t r e. absurd (cc))
        (λ t r e. absurd (cc))
        (λ j u n e t r g. dite (ℕ_discrete t s) (λ z. absurd (q.4 j u n e r (g ∙ ap (λ (y : ℕ). Holds y r) z))) (λ ne. sym (total_same (done t) vs id v w at (kept_else t ne))))
        (λ t e z. cc)
