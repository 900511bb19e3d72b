-- Passes that are made and after_take in, and the table's beginning and end.
use Rattle.std.proofs.Common.{◌≡◌, ◌≢◌, ℕ, zero, suc, ◌+◌, ◌*◌, ◌^◌, ◌<◌, ◌≤◌, ◌⊎◌, true, false, List, [], ◌∷◌, ◌++◌, length, replicate, get_or, set, sym, refl, ap, ◌∙◌, subst, arith, inl, ⊎_elim, true≢false}
use mathlib.Core.Logic.{dite}
use native.Mathlib.Decide.{dec_lt}
use mathlib.Core.Option.{some, some-injective, some-ne-none}
use mathlib.Core.Option as maybe
use lib.ListN.{get_elem?, length-map}
use Rattle.atomic_table.specs.Table.{Splits, Joins, Final, Seen, opening}
use Rattle.atomic_table.proofs.Lists.{at_set, at_snoc, at_map}
use Rattle.stripe_table.specs.Limits.{Chunks}
use Rattle.stripe_table.specs.declared.view.PassView.{PassView}
use Rattle.stripe_table.specs.declared.view.Hold.TheVariants.{Free}
use Rattle.path_trie.specs.Trie.{trie_nodes}
use Rattle.stripe_table.specs.declared.stripe.Stripe.{Stripe}
use Rattle.stripe_table.specs.Stripe.{empty_stripe}
use Rattle.stripe_table.specs.Views.{sum_below, total, weight, owes, held_once, got, over, splits, joins, first, live, draws, done, holds_stripe, spent_view, after_split, after_join, fresh_view, first_view}
use Rattle.stripe_table.specs.Fits.{Fits}
use Rattle.stripe_table.specs.private.Kept.{SeatOk, Alone, Ruled}
use Rattle.stripe_table.proofs.Sums.{up_to_all, piece_append, total_set, total_two, total_one, total_snoc, times_append}
use Rattle.stripe_table.proofs.Keeps.{one_weight, no_weight, not_first, only_first, others_seated}

abbrev Homes : Type 0
Homes = List (maybe.Option Stripe)

abbrev pub IsLast : Chunks → PassView → List Stripe → Type 0
IsLast p v xs = (v.plan ≡ p) × ((t : ℕ) → t < 16 → (x : Stripe) × (get_elem? xs t ≡ some x) × Fits p t (done t v) x) × (0 < v.over → length p ≤ v.got) × (v.splits ≡ 0 → v.busy ≡ 0) × (sum_below 16 (λ t. done t v) ≡ length v.puts) × (v.got + v.over < 2 ^ 64 → v.got ≤ length p) × (v.got + v.over < 2 ^ 64 → (c : ℕ) → draws c v ≤ 1)

pub at_replicate : {A : Type 0} (n i : ℕ) (a x : A) → get_elem? (replicate n a) i ≡ some x → x ≡ a
at_replicate zero i a x e = absurd (some-ne-none x (sym e))
at_replicate (suc n) zero a x e = sym (some-injective a x e)
at_replicate (suc n) (suc i) a x e = at_replicate n i a x e

module _ (p : Chunks) where
  pub split_keeps : (id : ℕ) (v : PassView) → v.live ≡ true → v.first ≡ true → Splits (Ruled p) id v (after_split v) (fresh_view false v.plan)
  split_keeps id v alive f s kept at = let vs = s.views in let l : PassView = after_split v in let r : PassView = fresh_view false v.plan in let o = kept.seats id v at in
      let sum : (g : PassView → ℕ) → total g (set vs id l ++ r ∷ []) + g v ≡ (total g vs + g l) + g r = λ g. let a = total_snoc g (set vs id l) r in let b = total_set g vs id v l at in omega arith in
      let same : (g : PassView → ℕ) → g l ≡ g v → g r ≡ 0 → total g (set vs id l ++ r ∷ []) ≡ total g vs = λ g a b. let c = sum g in omega arith in
      let d : (t : ℕ) → total (done t) (set vs id l ++ r ∷ []) ≡ total (done t) vs = λ t. same (done t) refl refl in
      let h : (t : ℕ) → total (holds_stripe t) (set vs id l ++ r ∷ []) ≡ total (holds_stripe t) vs = λ t. same (holds_stripe t) refl refl in record {
        wide = kept.wide;
        deep = kept.deep;
        drawn = subst (λ (z : ℕ). (get_or s.words 0 0 ≤ z) ⊎ (length p ≤ z)) (sym (same got refl refl)) kept.drawn;
        past = let a = kept.past in let g = same got refl refl in let b = same over refl refl in λ z. let y = a (omega arith) in omega arith;
        exact = let a = kept.exact in let g = same got refl refl in let f = same over refl refl in λ z. let b = a (omega arith) in let is = b.0 in let le = b.1 in (omega arith, omega arith);
        each = let a = kept.each in let g = same got refl refl in let f = same over refl refl in λ z c. let d = same (draws c) refl refl in let b = a (omega arith) c in let few = b.0 in (omega arith, λ q. let r = b.1 q in omega arith);
        ones = same first refl refl ∙ kept.ones;
        lives = let a = kept.lives in let b1 = sum live in let b2 = same joins refl refl in let b3 = sum splits in omega arith;
        stripes = λ t lt. let k = kept.stripes t lt in record {
          word_is = k.word_is ∙ λ i. 2 * (sym (d t) i) + sym (h t) i;
          one = let a = k.one in let b = h t in omega arith;
          few = let a = k.few in let b = d t in omega arith;
          at_home = λ z. let x = k.at_home (sym (h t) ∙ z) in (x.0, x.1, subst (λ (n : ℕ). Fits p t n x.0) (sym (d t)) x.2);
        };
        seats = λ j u e. ⊎_elim
            (λ a. others_seated p vs id l (λ t. total (done t) vs) (λ t. total (done t) (set vs id l ++ r ∷ [])) kept.seats
            (record { knows = o.knows; quiet = λ no. absurd (true≢false (sym f ∙ no)); held = λ t k q. ((o.held t k q).0, (o.held t k q).1 ∙ sym (d t)); gone = λ no. absurd (true≢false (sym alive ∙ no)); owing = o.owing; placed = o.placed; had = o.had })
            (λ j u n e t k q. sym (d t)) j u a)
            (λ (a : r ≡ u). subst (SeatOk p (λ t. total (done t) (set vs id l ++ r ∷ []))) a
            (record { knows = λ _. o.knows alive; quiet = λ _. (refl, refl); held = λ t k q. absurd (cc); gone = λ no. absurd (true≢false no); owing = λ c t z. absurd (omega arith); placed = λ t z. absurd (omega arith); had = λ t k z. absurd (cc) }))
            (at_snoc (set vs id l) r u j e);
        alone = λ j u e. ⊎_elim
            (λ a. ⊎_elim (λ (z : (j ≡ id) × (l ≡ u)). λ _ none_made. let y : splits l ≡ splits u = ap splits z.1 in absurd (omega arith))
            (λ (z : (j ≢ id) × (get_elem? vs j ≡ some u)). λ fu none_made. let y = only_first p s.words s.homes vs kept j id u v z.1 fu none_made at (λ q. z.0 (sym q)) in let b = one_weight v.live alive in absurd (omega arith))
            (at_set vs id j l u a))
            (λ (a : r ≡ u). λ fu. absurd (true≢false (sym fu ∙ ap (λ (y : PassView). y.first) (sym a))))
            (at_snoc (set vs id l) r u j e);
      }

  pub join_keeps : (id other : ℕ) (v w : PassView) → v.live ≡ true → v.first ≡ true → w.live ≡ true → w.hold ≡ Free → Joins (Ruled p) id v other w (after_join v w) spent_view
  join_keeps id other v w alive f alive' free s kept at two at' = let vs = s.views in let b : PassView = after_join v w in let vs' : List PassView = set (set vs id b) other spent_view in let o = kept.seats id v at in
      let was : get_elem? vs other ≡ some w = ⊎_elim (λ (z : (other ≡ id) × (b ≡ w)). absurd (two z.0)) (λ (z : (other ≢ id) × (get_elem? vs other ≡ some w)). z.1) (at_set vs id other b w at') in
      let q = kept.seats other w was in let not : w.first ≡ false = not_first p s.words s.homes vs kept id other v w at f was two in let still = q.quiet not in
      let sum : (g : PassView → ℕ) → (total g vs' + g w) + g v ≡ (total g vs + g b) + g spent_view = λ g. let x = total_set g vs id v b at in let y = total_set g (set vs id b) other w spent_view at' in omega arith in
      let same : (g : PassView → ℕ) → g b ≡ g v + g w → g spent_view ≡ 0 → total g vs' ≡ total g vs = λ g x y. let c = sum g in omega arith in
      let d : (t : ℕ) → total (done t) vs' ≡ total (done t) vs = λ t. same (done t) (times_append t v.puts w.puts) refl in
      let h : (t : ℕ) → total (holds_stripe t) vs' ≡ total (holds_stripe t) vs = λ t. let none_held : holds_stripe t w ≡ 0 = ap (held_once t) free in same (holds_stripe t) (omega arith) refl in
      let made : splits v ≢ 0 = λ z. let y = only_first p s.words s.homes vs kept id other v w at f z was two in let x = one_weight w.live alive' in absurd (omega arith) in
      let old : (j : ℕ) (u : PassView) → get_elem? (set vs id b) j ≡ some u → SeatOk p (λ t. total (done t) vs') u =
      others_seated p vs id b (λ t. total (done t) vs) (λ t. total (done t) vs') kept.seats
      (record { knows = o.knows; quiet = λ no. absurd (true≢false (sym f ∙ no)); held = λ t k z. ((o.held t k z).0, (o.held t k z).1 ∙ sym (d t)); gone = λ no. absurd (true≢false (sym alive ∙ no)); owing = λ c t z. dite (dec_lt 0 (owes c t v)) (λ y. o.owing c t y) (λ n. q.owing c t (let a = piece_append c t v.owed w.owed in omega arith)); placed = λ t z. dite (dec_lt 0 (done t v)) (λ y. o.placed t y) (λ n. q.placed t (let a = times_append t v.puts w.puts in omega arith)); had = o.had })
      (λ j u n e t k z. sym (d t)) in record {
        wide = kept.wide;
        deep = kept.deep;
        drawn = subst (λ (z : ℕ). (get_or s.words 0 0 ≤ z) ⊎ (length p ≤ z)) (sym (same got refl refl)) kept.drawn;
        past = let a = kept.past in let g = same got refl refl in let c = same over refl refl in λ z. let y = a (omega arith) in omega arith;
        exact = let a = kept.exact in let g = same got refl refl in let f = same over refl refl in λ z. let c = a (omega arith) in let is = c.0 in let le = c.1 in (omega arith, omega arith);
        each = let a = kept.each in let g = same got refl refl in let f = same over refl refl in λ z c. let d = same (draws c) (times_append c v.drawn w.drawn) refl in let y = a (omega arith) c in let few = y.0 in (omega arith, λ q. let r = y.1 q in omega arith);
        ones = let a = sum first in let z : first w ≡ 0 = ap weight not in let y = kept.ones in omega arith;
        lives = let a = kept.lives in let b1 = sum live in let b2 = sum joins in let b3 = sum splits in let x = one_weight w.live alive' in let y = still.0 in let z = still.1 in omega arith;
        stripes = λ t lt. let k = kept.stripes t lt in record {
          word_is = k.word_is ∙ λ i. 2 * (sym (d t) i) + sym (h t) i;
          one = let a = k.one in let b = h t in omega arith;
          few = let a = k.few in let b = d t in omega arith;
          at_home = λ z. let x = k.at_home (sym (h t) ∙ z) in (x.0, x.1, subst (λ (n : ℕ). Fits p t n x.0) (sym (d t)) x.2);
        };
        seats = λ j u e. ⊎_elim
            (λ (z : (j ≡ other) × (spent_view ≡ u)). subst (SeatOk p (λ t. total (done t) vs')) z.1 (record { knows = λ no. absurd (true≢false (sym no)); quiet = λ _. (refl, refl); held = λ t k z. absurd (cc); gone = λ _. refl; owing = λ c t z. absurd (omega arith); placed = λ t z. absurd (omega arith); had = λ t k z. absurd (cc) }))
            (λ (z : (j ≢ other) × (get_elem? (set vs id b) j ≡ some u)). old j u z.1)
            (at_set (set vs id b) other j spent_view u e);
        alone = λ j u e. ⊎_elim
            (λ (z : (j ≡ other) × (spent_view ≡ u)). λ fu. absurd (true≢false (sym fu ∙ ap (λ (y : PassView). y.first) (sym z.1))))
            (λ (z : (j ≢ other) × (get_elem? (set vs id b) j ≡ some u)). ⊎_elim
            (λ (y : (j ≡ id) × (b ≡ u)). λ _ none_made. absurd (made (ap splits y.1 ∙ none_made)))
            (λ (y : (j ≢ id) × (get_elem? vs j ≡ some u)). λ fu _. absurd (true≢false (sym fu ∙ not_first p s.words s.homes vs kept id j v u at f y.1 y.0)))
            (at_set vs id j b u z.1))
            (at_set (set vs id b) other j spent_view u e);
      }

  empty_fits : (t : ℕ) → Fits p t 0 empty_stripe
  unfolding trie_nodes
  empty_fits t = record { long = refl; distinct = λ c. omega arith; below = λ c h. absurd (omega arith); merged = refl; counts = λ column path. refl; nodes = λ n. refl; samples = refl; scopes = omega arith }

  -- the end: the first pass is the only one that is not spent, and holds nothing
  pub closes : (ws : List ℕ) (xs : List Stripe) (id : ℕ) (v : PassView) → v.live ≡ true → v.first ≡ true → v.hold ≡ Free → v.splits ≡ v.joins → Final (Seen (Ruled p) id v) ws xs
      → IsLast p v xs
  closes ws xs id v alive f free even (s, (kept, at), words, long, homes) = let vs = s.views in let o = kept.seats id v at in
      let quiet : (j : ℕ) (u : PassView) → j ≢ id → get_elem? vs j ≡ some u → (splits u ≡ 0) × (joins u ≡ 0) = λ j u n e. (kept.seats j u e).quiet (not_first p s.words s.homes vs kept id j v u at f e n) in
      let s1 : total splits vs ≡ splits v = total_one splits vs id v at (λ j u n e. (quiet j u n e).0) in let s2 : total joins vs ≡ joins v = total_one joins vs id v at (λ j u n e. (quiet j u n e).1) in
      let l = kept.lives in let one : total live vs ≡ 1 = omega arith in let me : live v ≡ 1 = one_weight v.live alive in
      let away : (j : ℕ) (u : PassView) → j ≢ id → get_elem? vs j ≡ some u → u ≡ spent_view = λ j u n e. (kept.seats j u e).gone (no_weight u.live (let t = total_two live vs id j v u at e n in omega arith)) in
      let only : (g : PassView → ℕ) → g spent_view ≡ 0 → total g vs ≡ g v = λ g z. total_one g vs id v at (λ j u n e. ap g (away j u n e) ∙ z) in (
        o.knows alive,
        (λ t lt. let k = kept.stripes t lt in let none_held : total (holds_stripe t) vs ≡ 0 = only (holds_stripe t) refl ∙ ap (held_once t) free in let x = k.at_home none_held in
            (x.0, homes t x.0 x.1, subst (λ (n : ℕ). Fits p t n x.0) (only (done t) refl) x.2)),
        (let a = kept.past in let b = only got refl in let c = only over refl in λ z. let y = a (omega arith) in omega arith),
        (λ z. ((kept.alone id v at) f z).0),
        up_to_all 16 v.puts o.placed,
        (let a = kept.exact in let b = only got refl in let c = only over refl in λ z. let y = (a (omega arith)).1 in omega arith),
        (let a = kept.each in let b = only got refl in let c = only over refl in λ z k. let d = only (draws k) refl in let y = (a (omega arith) k).0 in omega arith),
      )

  pub opens : (ws : List ℕ) (xs : List Stripe) → length ws ≡ 17 → ((i : ℕ) → get_or ws i 0 ≡ 0) → length xs ≡ 16 → ((i : ℕ) (x : Stripe) → get_elem? xs i ≡ some x → x ≡ empty_stripe) → Ruled p (opening ws xs (first_view p))
  opens ws xs wide zeros deep empty = record {
    wide = wide;
    deep = length-map xs some ∙ deep;
    drawn = inl (let z = zeros 0 in omega arith);
    past = λ z. absurd (omega arith);
    exact = λ z. (let y = zeros 0 in omega arith, omega arith);
    each = λ z c. (omega arith, λ q. omega arith);
    ones = refl;
    lives = refl;
    stripes = λ t lt. let z = zeros (t + 1) in record {
      word_is = z;
      one = omega arith;
      few = omega arith;
      at_home = λ _. let x = there xs t (omega arith) in (x.0, at_map some xs t x.0 x.1, let is : empty_stripe ≡ x.0 = sym (empty t x.0 x.1) in subst (Fits p t 0) is (empty_fits t));
    };
    seats = λ j u e. let is = only_one (first_view p) u j e in subst (SeatOk p (λ t. 0)) is (record { knows = λ _. refl; quiet = λ no. absurd (true≢false no); held = λ t k h. absurd (cc); gone = λ no. absurd (true≢false no); owing = λ c t z. absurd (omega arith); placed = λ t z. absurd (omega arith); had = λ t k z. absurd (cc) });
    alone = λ j u e. let is = only_one (first_view p) u j e in subst (Alone ws) is (λ _ _. (refl, λ s e h. absurd (cc)));
  }
    where
      only_one : (a u : PassView) (j : ℕ) → get_elem? (a ∷ []) j ≡ some u → a ≡ u
      only_one a u zero e = some-injective a u e
      only_one a u (suc j) e = absurd (some-ne-none u (sym e))

      there : (l : List Stripe) (i : ℕ) → i < length l → (a : Stripe) × (get_elem? l i ≡ some a)
      there [] i h = absurd (omega arith)
      there (y ∷ ys) zero h = (y, refl)
      there (y ∷ ys) (suc i) h = there ys i (omega arith)

abbrev pub blank : ℕ → List ℕ
blank n = replicate n 0

abbrev pub vacant : Stripe
vacant = empty_stripe

abbrev at_zero : List ℕ → ℕ → ℕ
at_zero l i = get_or l i 0

pub zeros : (n i : ℕ) → at_zero (blank n) i ≡ 0
zeros zero i = refl
zeros (suc n) zero = refl
zeros (suc n) (suc i) = zeros n i
