-- The distinct raw paths of samples, one sample at a time.
use Rattle.std.proofs.Common.{◌≡◌, Bool, true, false, cond, not, ◌||◌, List, [], ◌∷◌, ◌++◌, map, filter, refl, sym, ap, subst, ◌∙◌}
use Rattle.std.specs.List.{AllByRecursion, IsDistinct}
use Rattle.scope_types.specs.declared.frame.Counted.{Counted}
use Rattle.scope_types.specs.Raw.{Raw, same_raw}
use Rattle.scope_types.specs.Distinct.{counted_paths}
use Rattle.scope_types.specs.private.SameRaw.{raw_decides}
use Rattle.thread_cct.specs.Adding.{has_path, count_one}
use Rattle.thread_cct.proofs.Paths.{once_more, paths_more}
use Rattle.trace_lines.specs.Traces.{distinct_paths, has_raw}

abbrev path_of : Counted → Raw
path_of c = c.path

abbrev other : Raw → Counted → Bool
other x c = not (same_raw x c.path)

-- ---- which paths are there

-- a path that is not x is among all paths where it is among those that are not x
among_others : (r x : Raw) → same_raw r x ≡ false → (cs : List Counted) → has_path r (filter (other x) cs) ≡ has_path r cs
among_others r x apart [] = refl
among_others r x apart (c ∷ cs) =
    elim (same_raw x c.path) as (λ b. same_raw x c.path ≡ b → has_path r (cond (not b) (c ∷ filter (other x) cs) (filter (other x) cs)) ≡ (same_raw r c.path || has_path r cs)) [
      | true ↦ λ e.
          let not_this : same_raw r c.path ≡ false = subst (λ (y : Raw). same_raw r y ≡ false) ((raw_decides x c.path).0 e) apart in
          among_others r x apart cs ∙ sym (ap (λ (b : Bool). b || has_path r cs) not_this)
      | false ↦ λ e. ap (λ (b : Bool). same_raw r c.path || b) (among_others r x apart cs)
    ] refl

-- a raw path is among samples where it is among their distinct ones
pub has_distinct : (r : Raw) (samples : List Raw) → has_raw r samples ≡ has_path r (counted_paths samples)
has_distinct r [] = refl
has_distinct r (x ∷ samples) =
    elim (same_raw r x) as (λ b. same_raw r x ≡ b → (b || has_raw r samples) ≡ (b || has_path r (filter (other x) (counted_paths samples)))) [
      | true ↦ λ e. refl
      | false ↦ λ e. has_distinct r samples ∙ sym (among_others r x e (counted_paths samples))
    ] refl

-- ---- one sample more

paths_with : (r : Raw) (cs : List Counted) → map path_of (count_one r cs) ≡ cond (has_path r cs) (map path_of cs) (map path_of cs ++ r ∷ [])
paths_with r [] = refl
paths_with r (c ∷ cs) =
    elim (same_raw r c.path) as (λ b. map path_of (cond b (once_more c ∷ cs) (c ∷ count_one r cs)) ≡ cond (b || has_path r cs) (c.path ∷ map path_of cs) (c.path ∷ (map path_of cs ++ r ∷ []))) [
      | true ↦ refl
      | false ↦
          ap (λ (l : List Raw). c.path ∷ l) (paths_with r cs)
          ∙ elim (has_path r cs) as (λ b. c.path ∷ cond b (map path_of cs) (map path_of cs ++ r ∷ []) ≡ cond b (c.path ∷ map path_of cs) (c.path ∷ (map path_of cs ++ r ∷ []))) [ true ↦ refl | false ↦ refl ]
    ]

-- the distinct paths of the samples so far and of one more
pub distinct_with : (samples : List Raw) (r : Raw) → distinct_paths (samples ++ r ∷ []) ≡ cond (has_raw r samples) (distinct_paths samples) (distinct_paths samples ++ r ∷ [])
distinct_with samples r =
    sym (ap (map path_of) (paths_more samples r)) ∙ paths_with r (counted_paths samples)
    ∙ sym (ap (λ (b : Bool). cond b (distinct_paths samples) (distinct_paths samples ++ r ∷ [])) (has_distinct r samples))

pub known_distinct : (samples : List Raw) (r : Raw) → has_raw r samples ≡ true → distinct_paths (samples ++ r ∷ []) ≡ distinct_paths samples
known_distinct samples r there = distinct_with samples r ∙ ap (λ (b : Bool). cond b (distinct_paths samples) (distinct_paths samples ++ r ∷ [])) there

pub new_distinct : (samples : List Raw) (r : Raw) → has_raw r samples ≡ false → distinct_paths (samples ++ r ∷ []) ≡ distinct_paths samples ++ r ∷ []
new_distinct samples r new = distinct_with samples r ∙ ap (λ (b : Bool). cond b (distinct_paths samples) (distinct_paths samples ++ r ∷ [])) new

-- a raw path is among the distinct ones where it is among the samples
in_map : (r : Raw) (cs : List Counted) → has_raw r (map path_of cs) ≡ has_path r cs
in_map r [] = refl
in_map r (c ∷ cs) = ap (λ (b : Bool). same_raw r c.path || b) (in_map r cs)

pub among_distinct : (r : Raw) (samples : List Raw) → has_raw r (distinct_paths samples) ≡ has_raw r samples
among_distinct r samples = in_map r (counted_paths samples) ∙ sym (has_distinct r samples)

-- ---- distinct paths are distinct

-- all that are kept are other than x
all_other : (x : Raw) (cs : List Counted) → AllByRecursion (λ y. same_raw x y ≡ false) (map path_of (filter (other x) cs))
all_other x [] = tt
all_other x (c ∷ cs) =
    elim (same_raw x c.path) as (λ b. same_raw x c.path ≡ b → AllByRecursion (λ y. same_raw x y ≡ false) (map path_of (cond (not b) (c ∷ filter (other x) cs) (filter (other x) cs)))) [
      | true ↦ λ e. all_other x cs
      | false ↦ λ e. (e, all_other x cs)
    ] refl

-- what is other than y stays so where some are left out
still_other : (x y : Raw) (cs : List Counted) → AllByRecursion (λ z. same_raw y z ≡ false) (map path_of cs) → AllByRecursion (λ z. same_raw y z ≡ false) (map path_of (filter (other x) cs))
still_other x y [] others = tt
still_other x y (c ∷ cs) others =
    elim (same_raw x c.path) as (λ b. AllByRecursion (λ z. same_raw y z ≡ false) (map path_of (cond (not b) (c ∷ filter (other x) cs) (filter (other x) cs)))) [
      | true ↦ still_other x y cs others.1
      | false ↦ (others.0, still_other x y cs others.1)
    ]

still_distinct : (x : Raw) (cs : List Counted) → IsDistinct same_raw (map path_of cs) → IsDistinct same_raw (map path_of (filter (other x) cs))
unfolding IsDistinct
still_distinct x [] distinct = tt
still_distinct x (c ∷ cs) distinct =
    elim (same_raw x c.path) as (λ b. IsDistinct same_raw (map path_of (cond (not b) (c ∷ filter (other x) cs) (filter (other x) cs)))) [
      | true ↦ still_distinct x cs distinct.1
      | false ↦ (still_other x c.path cs distinct.0, still_distinct x cs distinct.1)
    ]

pub are_distinct : (samples : List Raw) → IsDistinct same_raw (distinct_paths samples)
unfolding IsDistinct
are_distinct [] = tt
are_distinct (x ∷ samples) = (all_other x (counted_paths samples), still_distinct x (counted_paths samples) (are_distinct samples))
