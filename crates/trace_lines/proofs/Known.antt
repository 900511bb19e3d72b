-- The moments of cells, and what is known of the paths of a hart while its cells are made.
use Rattle.std.proofs.Common.{◌≡◌, inl, inr, ℕ, ◌+◌, ◌-◌, ◌*◌, ◌/◌, ◌^◌, ◌<◌, ◌≤◌, ◌==◌, Bool, false, cond, List, [], ◌∷◌, ◌++◌, length, map, get_or, All, Option, None, Some, sym, ap, ◌∙◌, arith}
use Rattle.std.specs.Prelude.{slice_get, slice_set}
use Rattle.std.specs.List.{range_with_len}
use Rattle.std.proofs.lemmas.List.FromFn.{map-range_with_len_more}
use Rattle.std.proofs.Math.Nat.{div-le_of_le-mul, div-mul-le_self}
use Rattle.std.proofs.lemmas.Bool.{le-ltb}
use Rattle.std.proofs.lemmas.Bool.Decides.{eqb_tells}
use Rattle.std.proofs.lemmas.List.{get_or-set_other, get_or-set_same, length-set}
use Rattle.std.proofs.lemmas.Nat.{le-div, mul-le}
use Rattle.std.proofs.lemmas.Option.{get_or_from_slice_get, slice_get-get_or, slice_get_within}
use Rattle.scope_types.specs.declared.scope.ProcId.{ProcId}
use Rattle.scope_types.specs.Raw.{Raw}
use Rattle.trace_lines.specs.Reading.{path_at}
use Rattle.trace_lines.specs.declared.cell.Cell.{Cell}
use Rattle.trace_lines.specs.declared.cell.Cell.TheVariants.{Past, Early, Shown}
use Rattle.trace_lines.specs.Timeline.{cell_at}
use Rattle.trace_lines.specs.Traces.{HartTrace}
use Rattle.trace_lines.specs.private.Rows.{AreKnown}

-- ---- moments

pub moment_within : (span cells cell : ℕ) → cell < cells → (cell + 1) * span / cells ≤ span
moment_within span cells cell own = div-le_of_le-mul cells (mul-le (cell + 1) span cells span (omega (arith, own)) (omega arith))

pub moment_fits : (span cell : ℕ) → cell < 2 ^ 32 → span < 2 ^ 64 → (cell + 1) * span ≤ 2 ^ 96
moment_fits span cell few long = mul-le (cell + 1) span (2 ^ 32) (2 ^ 64) (omega (arith, few)) (omega (arith, long))

-- a finished hart has the sample before each moment at which it ran
pub sample_before : (moment retired period samples : ℕ) → 1 ≤ period → moment ≤ retired → samples ≡ retired / period → moment / period ≤ samples
sample_before moment retired period samples some ran is =
    let low = div-mul-le_self moment period in
    let few : moment / period ≤ retired / period = le-div (moment / period) retired period (omega (arith, some)) (omega (arith, low, ran)) in
    omega (arith, few, is)

-- ---- what is known of paths

pub known_none : (proc_of : Raw → ProcId) (paths : List Raw) (known : List (Option ProcId)) → length known ≡ length paths → All (λ (proc : Option ProcId). proc ≡ None) known → AreKnown proc_of paths known
known_none proc_of paths known many none = record {
  count = many;
  each = λ i proc is.
      let own = slice_get_within known i (Some proc) is in
      let there : get_or known i None ≡ Some proc = get_or_from_slice_get known i (Some proc) None is in
      let nothing : get_or known i None ≡ None = none i None own in
      let both : Some proc ≡ None = sym there ∙ nothing in
      absurd cc;
}

some_same : (p q : ProcId) → Some p ≡ Some q → p ≡ q
some_same p q is = cc

pub known_more : (proc_of : Raw → ProcId) (paths : List Raw) (known new : List (Option ProcId)) (i : ℕ) (proc : ProcId) → AreKnown proc_of paths known → i < length paths → proc ≡ proc_of (path_at paths i)
    → new ≡ slice_set known i (Some proc) → AreKnown proc_of paths new
known_more proc_of paths known new i proc are own is new_is =
    let long = length-set known i (Some proc) in
    let many = are.count in
    let all = ap (λ (l : List (Option ProcId)). length l) new_is in
    record {
      count = omega (arith, long, many, all);
      each = λ k p there.
          let within = slice_get_within new k (Some p) there in
          let now : get_or (slice_set known i (Some proc)) k None ≡ Some p = ap (λ (l : List (Option ProcId)). get_or l k None) (sym new_is) ∙ get_or_from_slice_get new k (Some p) None there in
          elim (eqb_tells i k) as (λ _. p ≡ proc_of (path_at paths k)) [
            | inl same ↦
                let at_i : get_or (slice_set known i (Some proc)) i None ≡ Some p = ap (λ (n : ℕ). get_or (slice_set known i (Some proc)) n None) same.1 ∙ now in
                let both : Some proc ≡ Some p = sym (get_or-set_same known i (Some proc) None (omega (arith, own, many))) ∙ at_i in
                sym (some_same proc p both) ∙ is ∙ ap (λ (n : ℕ). proc_of (path_at paths n)) same.1
            | inr apart ↦
                let old : get_or known k None ≡ Some p = sym (get_or-set_other known i k (Some proc) None (λ e. apart.1 (sym e))) ∙ now in
                are.each k p (slice_get-get_or known k None (omega (arith, within, long, all)) ∙ ap (λ (o : Option ProcId). Some o) old)
          ];
    }

-- ---- what is shown at a moment

pub some_of : (n : ℕ) → (n ≡ 0 → ⊥) → 1 ≤ n
some_of n apart = omega arith

nonzero : (n : ℕ) → 1 ≤ n → (n == 0) ≡ false
nonzero n some = elim (eqb_tells n 0) as (λ _. (n == 0) ≡ false) [ inl same ↦ absurd (let is = same.1 in omega (arith, is, some)) | inr apart ↦ apart.0 ]

pub cell_shown : (proc_of : Raw → ProcId) (period moment : ℕ) (h : HartTrace) (paths : List Raw) (place : ℕ) (proc : ProcId) → moment ≤ h.retired → 1 ≤ moment / period
    → slice_get paths place ≡ Some (path_at h.samples (moment / period - 1)) → proc ≡ proc_of (path_at paths place) → Shown proc ≡ cell_at proc_of period h moment
cell_shown proc_of period moment h paths place proc ran some there is =
    let shown : Cell = Shown (proc_of (path_at h.samples (moment / period - 1))) in
    let same : path_at paths place ≡ path_at h.samples (moment / period - 1) = get_or_from_slice_get paths place (path_at h.samples (moment / period - 1)) _ there in
    ap (λ (p : ProcId). Shown p) (is ∙ ap proc_of same)
    ∙ sym (ap (λ (b : Bool). cond b Past (cond (moment / period == 0) Early shown)) (le-ltb h.retired moment ran) ∙ ap (λ (b : Bool). cond b Early shown) (nonzero (moment / period) some))

-- one cell more
pub cells_more : (at_moment : ℕ → Cell) (moment : ℕ → ℕ) (n : ℕ) (now after : List Cell) (cell : Cell) (m : ℕ) → now ≡ map (λ k. at_moment (moment k)) (range_with_len 0 n) → m ≡ moment n → cell ≡ at_moment m
    → after ≡ now ++ cell ∷ [] → after ≡ map (λ k. at_moment (moment k)) (range_with_len 0 (n + 1))
cells_more at_moment moment n now after cell m so_far m_is cell_is one =
    one ∙ (λ i. so_far i ++ (cell_is ∙ ap at_moment m_is) i ∷ []) ∙ sym (map-range_with_len_more (λ k. at_moment (moment k)) 0 n n (omega arith))
