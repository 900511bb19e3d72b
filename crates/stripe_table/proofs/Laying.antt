-- What a lay needs of the stripe that it changes.
use Rattle.std.proofs.Common.{◌≡◌, ℕ, ◌+◌, ◌<◌, ◌≤◌, ◌==◌, ◌||◌, Bool, not, List, [], ◌∷◌, ◌++◌, filter, length, get_or, sym, refl, ap, ◌∙◌, subst, arith, eq-eqb, length-append}
use mathlib.Core.Logic.{dite}
use native.Mathlib.Decide.{ℕ_discrete}
use Rattle.std.proofs.Common.{ne_eqb}
use Rattle.std.specs.List.{sum_by, flat_map, list_any}
use Rattle.std.proofs.lemmas.List.Filters.{sum_by-filter_both}
use Rattle.atomic_table.specs.Seated.{TableId}
use Rattle.atomic_table.specs.declared.shared.Seat.{Seat}
use Rattle.scope_types.specs.declared.path.Entry.{Entry}
use Rattle.scope_types.specs.declared.path.Piece.{Piece}
use Rattle.path_trie.specs.Trie.{count_of, has_node, all_prefixes, samples_of, entry_scopes}
use Rattle.stripe_table.specs.Limits.{Chunks, IsLimited, IsPieceOf, dealt}
use Rattle.stripe_table.specs.declared.stripe.Stripe.{Stripe}
use Rattle.stripe_table.specs.private.Adding.{HasRoom, TakesIn, pointing_at}
use Rattle.stripe_table.specs.declared.view.PassView.{PassView}
use Rattle.stripe_table.specs.declared.view.Hold.TheVariants.{Holds}
use Rattle.stripe_table.specs.Views.{weight, occurrences}
use Rattle.stripe_table.specs.Fits.{Fits, IsLonger, IsUnchanged}
use Rattle.stripe_table.specs.private.Seats.{SitsOn, IsSame}
use Rattle.stripe_table.proofs.Sums.{times_snoc, sum_by_snoc, list_any_snoc, flat_map_snoc, few_below, sum_over_below, up_to_le, up_to_list}

-- a number that isn't among distinct ones below n
module _ (n c : ℕ) (xs : List ℕ) (distinct : (d : ℕ) → occurrences d xs ≤ 1) (below : (d : ℕ) → 0 < occurrences d xs → d < n) (missing : occurrences c xs ≡ 0) (lt : c < n) where
  still_distinct : (d : ℕ) → occurrences d (xs ++ c ∷ []) ≤ 1
  still_distinct d = let t = times_snoc d xs c in let a = distinct d in
      dite (ℕ_discrete d c) (λ e. let b : occurrences d xs ≡ 0 = ap (λ (m : ℕ). occurrences m xs) e ∙ missing in let w : weight (d == c) ≡ 1 = ap weight (eq-eqb d c e) in omega arith)
      (λ ne. let w : weight (d == c) ≡ 0 = ap weight (ne_eqb d c ne) in omega arith)

  still_below : (d : ℕ) → 0 < occurrences d (xs ++ c ∷ []) → d < n
  still_below d h = let t = times_snoc d xs c in let a = below d in
      dite (ℕ_discrete d c) (λ e. subst (λ (m : ℕ). m < n) (sym e) lt)
      (λ ne. let w : weight (d == c) ≡ 0 = ap weight (ne_eqb d c ne) in a (omega arith))

-- a piece's entries are those that its chunk deals to its stripe
entries_are : (p : Chunks) (q : Piece) → IsPieceOf p q → q.entries ≡ dealt p q.chunk q.stripe
entries_are p q of = ap (λ (z : Piece). z.entries) of.is

pub longer : (p : Chunks) (q : Piece) (k : ℕ) (x y : Stripe) → Fits p q.stripe k x → occurrences q.chunk x.names ≡ 0 → IsPieceOf p q → TakesIn x q y → Fits p q.stripe (k + 1) y
longer p q k x y f missing of t = let s = q.stripe in let c = q.chunk in let is = entries_are p q of in record {
  long = ap length t.names ∙ (length-append x.names (c ∷ []) ∙ ap (λ (n : ℕ). n + 1) f.long);
  distinct = λ d. subst (λ (l : List ℕ). occurrences d l ≤ 1) (sym t.names) (still_distinct (length p) c x.names f.distinct f.below missing of.chunk d);
  below = λ d. subst (λ (l : List ℕ). 0 < occurrences d l → d < length p) (sym t.names) (still_below (length p) c x.names f.distinct f.below missing of.chunk d);
  merged = let F : ℕ → List Entry = λ d. dealt p d s in t.merged ∙ ((λ i. f.merged i ++ is i) ∙ sym (ap (flat_map F) t.names ∙ flat_map_snoc F x.names c));
  counts = λ column path. let F : ℕ → ℕ = λ d. count_of (dealt p d s) column path in let a = t.counts column path in let b = f.counts column path in let g : count_of q.entries column path ≡ F c = ap (λ (es : List Entry). count_of es column path) is in
      let e : sum_by F y.names ≡ sum_by F x.names + F c = ap (sum_by F) t.names ∙ sum_by_snoc F x.names c in omega arith;
  nodes = λ n. let F : ℕ → Bool = λ d. has_node (all_prefixes (dealt p d s)) n in t.nodes n ∙ ((λ i. f.nodes n i || has_node (all_prefixes (is i)) n) ∙ sym (ap (list_any F) t.names ∙ list_any_snoc F x.names c));
  samples = let F : ℕ → ℕ = λ d. samples_of (dealt p d s) in let a = t.samples in let b = f.samples in let g : samples_of q.entries ≡ F c = ap samples_of is in let e : sum_by F y.names ≡ sum_by F x.names + F c = ap (sum_by F) t.names ∙ sum_by_snoc F x.names c in omega arith;
  scopes = let F : ℕ → ℕ = λ d. entry_scopes (dealt p d s) in let a = t.scopes in let b = f.scopes in let g : entry_scopes q.entries ≡ F c = ap entry_scopes is in let e : sum_by F y.names ≡ sum_by F x.names + F c = ap (sum_by F) t.names ∙ sum_by_snoc F x.names c in omega arith;
}

pub pointing : (p : Chunks) (s k a : ℕ) (x : Stripe) → Fits p s k x → Fits p s k (pointing_at a x)
pointing p s k a x f = record { long = f.long; distinct = f.distinct; below = f.below; merged = f.merged; counts = f.counts; nodes = f.nodes; samples = f.samples; scopes = f.scopes }

pub pointed : (p : Chunks) (s k a : ℕ) (x y : Stripe) → Fits p s k x → y ≡ pointing_at a x → Fits p s k y
pointed p s k a x y f is = subst (Fits p s k) (sym is) (pointing p s k a x f)

pub fits_few : (p : Chunks) (s k : ℕ) (x : Stripe) → Fits p s k x → k ≤ length p
fits_few p s k x f = subst (λ (z : ℕ). z ≤ length p) f.long (few_below (length p) x.names f.distinct f.below)

-- what a stripe takes in is a part of the plan
taken_in : (f : List Entry → ℕ) → ((t : Entry → Bool) (es : List Entry) → f (filter t es) ≤ f es) → (p : Chunks) (q : Piece) (k : ℕ) (x : Stripe) → Fits p q.stripe k x → occurrences q.chunk x.names ≡ 0 → IsPieceOf p q
    → sum_by (λ c. f (dealt p c q.stripe)) x.names + f q.entries ≤ sum_by f p
taken_in f less p q k x fits missing of = let n = length p in let c = q.chunk in let F : ℕ → ℕ = λ d. f (dealt p d q.stripe) in let g : f q.entries ≡ F c = ap f (entries_are p q of) in
    let a = sum_over_below F n (x.names ++ c ∷ []) (still_distinct n c x.names fits.distinct fits.below missing of.chunk) (still_below n c x.names fits.distinct fits.below missing of.chunk) in
    let b = sum_by_snoc F x.names c in let d = up_to_le n F (λ i. f (get_or p i [])) (λ i. less _ (get_or p i [])) in let e = up_to_list f p in omega arith

filter_less : (g : Entry → ℕ) (t : Entry → Bool) (es : List Entry) → sum_by g (filter t es) ≤ sum_by g es
filter_less g t es = let a = sum_by-filter_both t (λ e. not (t e)) (λ e. refl) g es in omega arith

pub room : (p : Chunks) (q : Piece) (k : ℕ) (x : Stripe) → IsLimited p → Fits p q.stripe k x → occurrences q.chunk x.names ≡ 0 → IsPieceOf p q → HasRoom x q
room p q k x limits f missing of = record {
  samples = let a = taken_in samples_of (filter_less (λ e. e.count)) p q k x f missing of in let b = limits.samples in let c = f.samples in omega arith;
  nodes = let a = taken_in entry_scopes (filter_less (λ e. length e.path)) p q k x f missing of in let b = limits.scopes in let c = f.scopes in omega arith;
}

-- the seat after its slot was changed
pub ready : (z : TableId) (s s' : Seat Stripe PassView) (t n k : ℕ) (x y : Stripe) → SitsOn z t n x s → IsSame s s' → s'.me.0 ≡ s.me.0 → s'.me.1 ≡ (t, y) ∷ [] → k ≡ n → SitsOn z t k y s'
ready z s s' t n k x y on same view slot is = (
  (same.0 ∙ on.0.0, on.0.1, on.0.2, ap (λ (v : PassView). v.live) view ∙ on.0.3),
  ap (λ (v : PassView). v.hold) view ∙ on.1 ∙ ap (λ (m : ℕ). Holds t m) (sym is),
  slot,
)

pub last_name : (x y : Stripe) (c k : ℕ) → y.names ≡ x.names ++ c ∷ [] → k ≡ length x.names → get_or y.names k 0 ≡ c
last_name x y c k is at = (λ i. get_or (is i) (at i) 0) ∙ at_end x.names c
  where
    at_end : (l : List ℕ) (c : ℕ) → get_or (l ++ c ∷ []) (length l) 0 ≡ c
    at_end [] c = refl
    at_end (y ∷ ys) c = at_end ys c

-- what is put back follows from what was taken
pub is_longer : (p : Chunks) (q : Piece) (x y taken : Stripe) (k : ℕ) → x ≡ taken → IsPieceOf p q → TakesIn x q y → k ≡ length x.names → IsLonger p q.stripe (get_or y.names k 0) taken y
is_longer p q x y taken k is of t at = let last : get_or y.names k 0 ≡ q.chunk = last_name x y q.chunk k t.names at in subst (λ (z : ℕ × Stripe). IsLonger p q.stripe z.0 z.1 y) (λ i. (sym last i, is i))
    (t.names, t.merged ∙ ap (λ (es : List Entry). x.trie ++ es) (entries_are p q of))

pub is_pointing : (a : ℕ) (x y taken : Stripe) → x ≡ taken → y ≡ pointing_at a x → IsUnchanged taken y
is_pointing a x y taken is at = (ap (λ (z : Stripe). z.names) at ∙ ap (λ (z : Stripe). z.names) is, ap (λ (z : Stripe). z.trie) at ∙ ap (λ (z : Stripe). z.trie) is)

pub is_unchanged : (x y taken : Stripe) → x ≡ taken → y ≡ x → IsUnchanged taken y
is_unchanged x y taken is at = (ap (λ (z : Stripe). z.names) (at ∙ is), ap (λ (z : Stripe). z.trie) (at ∙ is))
