-- The distinct paths of one column, a sample at a time.
use Rattle.std.proofs.Common.{◌≡◌, ℕ, ◌+◌, ◌<◌, ◌≤◌, Bool, true, false, cond, not, ◌||◌, List, [], ◌∷◌, ◌++◌, length, filter, count_by, sum_by, All, refl, sym, ap, subst, ◌∙◌, arith}
use Rattle.std.proofs.lemmas.List.Elements.{All-cons, All-head, All-tail}
use Rattle.std.proofs.lemmas.List.Sums.{sum_by-cons, sum_by-append}
use Rattle.scope_types.specs.declared.frame.Counted.{Counted}
use Rattle.scope_types.specs.Raw.{Raw, same_raw}
use Rattle.scope_types.specs.Distinct.{counted_paths}
use Rattle.scope_types.specs.private.SameRaw.{raw_decides, raw_equiv}
use Rattle.thread_cct.specs.Adding.{has_path, count_one}

abbrev pub count_of : Counted → ℕ
count_of c = c.count

abbrev pub frames_of : Counted → ℕ
frames_of c = length c.path.frames

abbrev other : Raw → Counted → Bool
other x c = not (same_raw x c.path)

abbrev pub once_more : Counted → Counted
once_more c = record { path = c.path; count = c.count + 1 }

-- a path that is filtered out leaves no trace
dropped : (x r : Raw) → same_raw x r ≡ true → (cs : List Counted) → filter (other x) (count_one r cs) ≡ filter (other x) cs
dropped x r is [] = ap (λ (b : Bool). cond (not b) (record { path = r; count = 1 } ∷ []) []) is
dropped x r is (c ∷ cs) =
    let rest : List Counted = filter (other x) cs in
    elim (same_raw r c.path) as (λ b. same_raw r c.path ≡ b → filter (other x) (cond b (once_more c ∷ cs) (c ∷ count_one r cs)) ≡ filter (other x) (c ∷ cs)) [
      | true ↦ λ e.
          let out : same_raw x c.path ≡ true = subst (λ (y : Raw). same_raw x y ≡ true) ((raw_decides r c.path).0 e) is in
          ap (λ (b : Bool). cond (not b) (once_more c ∷ rest) rest) out ∙ sym (ap (λ (b : Bool). cond (not b) (c ∷ rest) rest) out)
      | false ↦ λ e. ap (λ (l : List Counted). cond (other x c) (c ∷ l) l) (dropped x r is cs)
    ] refl

-- and one that is kept is counted in what is kept
kept : (x r : Raw) → same_raw x r ≡ false → (cs : List Counted) → filter (other x) (count_one r cs) ≡ count_one r (filter (other x) cs)
kept x r apart [] = ap (λ (b : Bool). cond (not b) (record { path = r; count = 1 } ∷ []) []) apart
kept x r apart (c ∷ cs) =
    let rest : List Counted = filter (other x) cs in
    elim (same_raw r c.path) as (λ b. same_raw r c.path ≡ b → filter (other x) (cond b (once_more c ∷ cs) (c ∷ count_one r cs)) ≡ count_one r (filter (other x) (c ∷ cs))) [
      | true ↦ λ e.
          let stays : same_raw x c.path ≡ false = subst (λ (y : Raw). same_raw x y ≡ false) ((raw_decides r c.path).0 e) apart in
          ap (λ (b : Bool). cond (not b) (once_more c ∷ rest) rest) stays ∙ sym (ap (λ (b : Bool). cond b (once_more c ∷ rest) (c ∷ count_one r rest)) e)
          ∙ sym (ap (λ (b : Bool). count_one r (cond (not b) (c ∷ rest) rest)) stays)
      | false ↦ λ e.
          ap (λ (l : List Counted). cond (other x c) (c ∷ l) l) (kept x r apart cs)
          ∙ elim (same_raw x c.path) as (λ b. cond (not b) (c ∷ count_one r rest) (count_one r rest) ≡ count_one r (cond (not b) (c ∷ rest) rest)) [
            | true ↦ refl
            | false ↦ sym (ap (λ (b : Bool). cond b (once_more c ∷ rest) (c ∷ count_one r rest)) e)
          ]
    ] refl

count_more : (t : Raw → Bool) (raws : List Raw) (r : Raw) → count_by t (raws ++ r ∷ []) ≡ count_by t raws + cond (t r) 1 0
count_more t raws r = let parts = sum_by-append (λ (x : Raw). cond (t x) 1 0) raws (r ∷ []) in let last = sum_by-cons (λ (x : Raw). cond (t x) 1 0) r [] in omega (arith, parts, last)

-- the paths of the samples so far and of one more
pub paths_more : (raws : List Raw) (r : Raw) → count_one r (counted_paths raws) ≡ counted_paths (raws ++ r ∷ [])
paths_more [] r = refl
paths_more (x ∷ raws) r =
    let found = counted_paths raws in
    let n = count_by (same_raw x) raws in
    let more : count_by (same_raw x) (raws ++ r ∷ []) ≡ n + cond (same_raw x r) 1 0 = count_more (same_raw x) raws r in
    let rest : filter (other x) (count_one r found) ≡ filter (other x) (counted_paths (raws ++ r ∷ [])) = ap (filter (other x)) (paths_more raws r) in
    elim (same_raw r x) as (λ b. same_raw r x ≡ b
    → cond b (record { path = x; count = 1 + n + 1 } ∷ filter (other x) found) (record { path = x; count = 1 + n } ∷ count_one r (filter (other x) found)) ≡ counted_paths (x ∷ (raws ++ r ∷ []))) [
      | true ↦ λ e.
          let is : same_raw x r ≡ true = raw_equiv.symm x r ∙ e in
          let counts : 1 + n + 1 ≡ 1 + count_by (same_raw x) (raws ++ r ∷ []) = (let k : cond (same_raw x r) 1 0 ≡ 1 = ap (λ (b : Bool). cond {A = ℕ} b 1 0) is in omega (arith, more, k)) in
          (λ i. record { path = x; count = counts i } ∷ (sym (dropped x r is found) ∙ rest) i)
      | false ↦ λ e.
          let apart : same_raw x r ≡ false = raw_equiv.symm x r ∙ e in
          let counts : 1 + n ≡ 1 + count_by (same_raw x) (raws ++ r ∷ []) = (let k : cond (same_raw x r) 1 0 ≡ 0 = ap (λ (b : Bool). cond {A = ℕ} b 1 0) apart in omega (arith, more, k)) in
          (λ i. record { path = x; count = counts i } ∷ (sym (kept x r apart found) ∙ rest) i)
    ] refl

-- one sample more, and the frames of its path where it is new
pub samples_one : (r : Raw) (cs : List Counted) → sum_by count_of (count_one r cs) ≡ sum_by count_of cs + 1
samples_one r [] = refl
samples_one r (c ∷ cs) =
    let old = sum_by-cons count_of c cs in
    elim (same_raw r c.path) as (λ b. sum_by count_of (cond b (once_more c ∷ cs) (c ∷ count_one r cs)) ≡ sum_by count_of (c ∷ cs) + 1) [
      | true ↦ let new = sum_by-cons count_of (once_more c) cs in omega (arith, old, new)
      | false ↦ let new = sum_by-cons count_of c (count_one r cs) in let rest = samples_one r cs in omega (arith, old, new, rest)
    ]

pub frames_one : (r : Raw) (cs : List Counted) → sum_by frames_of (count_one r cs) ≡ sum_by frames_of cs + cond (has_path r cs) 0 (length r.frames)
frames_one r [] = let new = sum_by-cons frames_of (record { path = r; count = 1 }) [] in omega (arith, new)
frames_one r (c ∷ cs) =
    let old = sum_by-cons frames_of c cs in
    elim (same_raw r c.path) as (λ b. sum_by frames_of (cond b (once_more c ∷ cs) (c ∷ count_one r cs)) ≡ sum_by frames_of (c ∷ cs) + cond (b || has_path r cs) 0 (length r.frames)) [
      | true ↦ let new = sum_by-cons frames_of (once_more c) cs in omega (arith, old, new)
      | false ↦ let new = sum_by-cons frames_of c (count_one r cs) in let rest = frames_one r cs in omega (arith, old, new, rest)
    ]

-- each path has frames, also with one more
abbrev pub HasSome : Counted → Type 0
HasSome c = 0 < length c.path.frames

pub some_frames : (r : Raw) (cs : List Counted) → 0 < length r.frames → All HasSome cs → All HasSome (count_one r cs)
some_frames r [] has all = All-cons HasSome (record { path = r; count = 1 }) [] has all
some_frames r (c ∷ cs) has all =
    let first = All-head HasSome c cs all in
    let rest = All-tail HasSome c cs all in
    elim (same_raw r c.path) as (λ b. All HasSome (cond b (once_more c ∷ cs) (c ∷ count_one r cs))) [
      | true ↦ All-cons HasSome (once_more c) cs first rest
      | false ↦ All-cons HasSome c (count_one r cs) first (some_frames r cs has rest)
    ]

pub some_known : (r : Raw) (cs : List Counted) → has_path r cs ≡ true → All HasSome cs → All HasSome (count_one r cs)
some_known r [] there all = absurd cc
some_known r (c ∷ cs) there all =
    let first = All-head HasSome c cs all in
    let rest = All-tail HasSome c cs all in
    elim (same_raw r c.path) as (λ b. (b || has_path r cs) ≡ true → All HasSome (cond b (once_more c ∷ cs) (c ∷ count_one r cs))) [
      | true ↦ λ h. All-cons HasSome (once_more c) cs first rest
      | false ↦ λ h. All-cons HasSome c (count_one r cs) first (some_known r cs h rest)
    ] there

-- and samples
abbrev pub HasCount : Counted → Type 0
HasCount c = 0 < c.count

pub some_counts : (r : Raw) (cs : List Counted) → All HasCount cs → All HasCount (count_one r cs)
some_counts r [] all = All-cons HasCount (record { path = r; count = 1 }) [] (omega arith) all
some_counts r (c ∷ cs) all =
    let first = All-head HasCount c cs all in
    let rest = All-tail HasCount c cs all in
    elim (same_raw r c.path) as (λ b. All HasCount (cond b (once_more c ∷ cs) (c ∷ count_one r cs))) [
      | true ↦ All-cons HasCount (once_more c) cs (omega arith) rest
      | false ↦ All-cons HasCount c (count_one r cs) first (some_counts r cs rest)
    ]

-- so there are no more paths than samples
pub paths_below : (cs : List Counted) → All HasCount cs → length cs ≤ sum_by count_of cs
paths_below [] all = omega arith
paths_below (c ∷ cs) all =
    let parts = sum_by-cons count_of c cs in
    let first = All-head HasCount c cs all in
    let rest = paths_below cs (All-tail HasCount c cs all) in
    omega (arith, parts, first, rest)

-- and no more than frames
pub paths_few : (cs : List Counted) → All HasSome cs → length cs ≤ sum_by frames_of cs
paths_few [] all = omega arith
paths_few (c ∷ cs) all =
    let parts = sum_by-cons frames_of c cs in
    let first = All-head HasSome c cs all in
    let rest = paths_few cs (All-tail HasSome c cs all) in
    omega (arith, parts, first, rest)
