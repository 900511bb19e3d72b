-- The samples of counted paths.
use Rattle.std.proofs.Common.{◌≡◌, ℕ, zero, suc, ◌+◌, ◌==◌, ◌<◌, ◌≤◌, ◌-◌, Bool, true, false, cond, not, List, [], ◌∷◌, ◌++◌, length, map, filter, replicate, count_by, sum_by, get_or, All, refl, sym, ap, ap₂, ◌∙◌, append-nil, arith}
use Rattle.std.specs.List.{flat_map, enumerate_from, range_with_len}
use Rattle.std.proofs.lemmas.Bool.{eq-eqb, ne_eqb, or_parts}
use Rattle.std.proofs.lemmas.List.{length-append, length-replicate, map-append, same_lists}
use Rattle.std.proofs.lemmas.List.Elements.{All-append, All-head, All-nil, All-replicate, All-tail, filter-append}
use Rattle.std.proofs.lemmas.List.FromFn.{length-map-range_with_len, get_or-map-range_with_len}
use Rattle.std.proofs.lemmas.List.Sums.{sum_by-append, sum_by-cons}
use Rattle.scope_types.specs.declared.frame.Counted.{Counted}
use Rattle.scope_types.specs.Distinct.{ColumnRaw, counted_paths, distinct, each_of_column, each_sample, raws_of, samples_in}
use Rattle.scope_types.specs.Raw.{Raw, same_raw}
use Rattle.scope_types.specs.private.SameRaw.{raw_decides}
use Rattle.thread_cct.specs.Adding.{has_path}
use Rattle.measure_file.specs.Measurable.{AreDistinct, AreMeasured, IsCounted}
use Rattle.measure_file.proofs.Seams.{Tables, count_of}

abbrev numbered : ℕ → Tables → List ColumnRaw
numbered first tables = flat_map each_of_column (enumerate_from first tables)

abbrev copies : ℕ → Counted → List ColumnRaw
copies column c = replicate c.count (record { column = column; raw = c.path })

-- ---- how many they are

column_many : (column : ℕ) (cs : List Counted) → length (each_of_column (column, cs)) ≡ sum_by count_of cs
column_many column [] = refl
column_many column (c ∷ cs) =
    let parts = length-append (copies column c) (each_of_column (column, cs)) in
    let one = length-replicate {A = ColumnRaw} c.count (record { column = column; raw = c.path }) in
    let rest = column_many column cs in
    let sum = sum_by-cons count_of c cs in
    omega (arith, parts, one, rest, sum)

numbered_many : (first : ℕ) (tables : Tables) → length (numbered first tables) ≡ samples_in tables
numbered_many first [] = refl
numbered_many first (t ∷ tables) =
    let parts = length-append (each_of_column (first, t)) (numbered (first + 1) tables) in
    let one = column_many first t in
    let rest = numbered_many (first + 1) tables in
    let sum = sum_by-cons (sum_by count_of) t tables in
    omega (arith, parts, one, rest, sum)

pub samples_many : (tables : Tables) → length (each_sample tables) ≡ samples_in tables
samples_many tables = numbered_many 0 tables

-- ---- whose they are

abbrev IsOf : ℕ → ColumnRaw → Type 0
IsOf column s = s.column ≡ column

column_own : (column : ℕ) (cs : List Counted) → All (IsOf column) (each_of_column (column, cs))
column_own column [] = All-nil (IsOf column)
column_own column (c ∷ cs) = All-append (IsOf column) (copies column c) (each_of_column (column, cs)) (All-replicate (IsOf column) c.count (record { column = column; raw = c.path }) refl) (column_own column cs)

-- from a column on, and below another
abbrev IsWithin : ℕ → ℕ → ColumnRaw → Type 0
IsWithin first end s = (first ≤ s.column) × (s.column < end)

numbered_own : (first end : ℕ) (tables : Tables) → first + length tables ≤ end → All (IsWithin first end) (numbered first tables)
numbered_own first end [] within = All-nil (IsWithin first end)
numbered_own first end (t ∷ tables) within =
    let own = column_own first t in
    let rest = numbered_own (first + 1) end tables (omega (arith, within)) in
    All-append (IsWithin first end) (each_of_column (first, t)) (numbered (first + 1) tables) (λ k d lt. (let e = own k d lt in (omega (arith, e), omega (arith, e, within))))
    (λ k d lt. (let r = rest k d lt in (let low = r.0 in omega (arith, low), r.1)))

pub samples_own : (tables : Tables) → All (λ s. s.column < length tables) (each_sample tables)
samples_own tables = (let own = numbered_own 0 (length tables) tables (omega arith) in λ k d lt. (own k d lt).1)

-- ---- the raw paths of one column

abbrev each_raw : List Counted → List Raw
each_raw cs = flat_map (λ c. replicate c.count c.path) cs

none_of : (column : ℕ) (samples : List ColumnRaw) → All (λ s. (s.column == column) ≡ false) samples → raws_of samples column ≡ []
none_of column [] other = refl
none_of column (s ∷ samples) other =
    ap (λ (b : Bool). map (λ (s : ColumnRaw). s.raw) (cond b (s ∷ filter (λ s. s.column == column) samples) (filter (λ s. s.column == column) samples))) (All-head (λ (s : ColumnRaw). (s.column == column) ≡ false) s samples other)
    ∙ none_of column samples (All-tail (λ (s : ColumnRaw). (s.column == column) ≡ false) s samples other)

raws_both : (a b : List ColumnRaw) (column : ℕ) → raws_of (a ++ b) column ≡ raws_of a column ++ raws_of b column
raws_both a b column =
    ap (λ (l : List ColumnRaw). map (λ (s : ColumnRaw). s.raw) l) (filter-append (λ s. s.column == column) a b) ∙ map-append (λ s. s.raw) (filter (λ s. s.column == column) a) (filter (λ s. s.column == column) b)

itself : (column : ℕ) → (column == column) ≡ true
itself column = eq-eqb column column refl

copies_raws : (column n : ℕ) (raw : Raw) → raws_of (replicate n (record { column = column; raw = raw })) column ≡ replicate n raw
copies_raws column zero raw = refl
copies_raws column (suc n) raw =
    let rest : List ColumnRaw = filter (λ s. s.column == column) (replicate n (record { column = column; raw = raw })) in
    ap (λ (b : Bool). map (λ (s : ColumnRaw). s.raw) (cond b (record { column = column; raw = raw } ∷ rest) rest)) (itself column) ∙ ap (λ (l : List Raw). raw ∷ l) (copies_raws column n raw)

own_raws : (column : ℕ) (cs : List Counted) → raws_of (each_of_column (column, cs)) column ≡ each_raw cs
own_raws column [] = refl
own_raws column (c ∷ cs) =
    raws_both (copies column c) (each_of_column (column, cs)) column ∙ ap₂ (λ (a b : List Raw). a ++ b) (copies_raws column c.count c.path) (own_raws column cs)

above_none : (first column : ℕ) (tables : Tables) → column < first → raws_of (numbered first tables) column ≡ []
above_none first column tables above =
    let own = numbered_own first (first + length tables) tables (omega arith) in
    none_of column (numbered first tables) (λ k d lt. ne_eqb _ column (λ e. (let low = (own k d lt).0 in absurd (omega (arith, low, e, above)))))

numbered_raws : (first k : ℕ) (d : List Counted) (tables : Tables) → k < length tables → raws_of (numbered first tables) (first + k) ≡ each_raw (get_or tables k d)
numbered_raws first k d [] within = absurd (omega arith)
numbered_raws first zero d (t ∷ tables) within =
    let at : first + 0 ≡ first = omega arith in
    ap (λ (column : ℕ). raws_of (numbered first (t ∷ tables)) column) at ∙ raws_both (each_of_column (first, t)) (numbered (first + 1) tables) first
    ∙ ap₂ (λ (a b : List Raw). a ++ b) (own_raws first t) (above_none (first + 1) first tables (omega arith)) ∙ append-nil (each_raw t)
numbered_raws first (suc k) d (t ∷ tables) within =
    let at : first + suc k ≡ first + 1 + k = omega arith in
    let own = column_own first t in
    let none : raws_of (each_of_column (first, t)) (first + 1 + k) ≡ [] = none_of (first + 1 + k) (each_of_column (first, t)) (λ i e lt. ne_eqb _ (first + 1 + k) (λ same. (let is = own i e lt in absurd (omega (arith, is, same))))) in
    ap (λ (column : ℕ). raws_of (numbered first (t ∷ tables)) column) at ∙ raws_both (each_of_column (first, t)) (numbered (first + 1) tables) (first + 1 + k)
    ∙ ap₂ (λ (a b : List Raw). a ++ b) none (numbered_raws (first + 1) k d tables (omega (arith, within)))

-- ---- counted again

abbrev other : Raw → Counted → Bool
other raw c = not (same_raw raw c.path)

same_itself : (raw : Raw) → same_raw raw raw ≡ true
same_itself raw = (raw_decides raw raw).1 refl

dropped_twice : {X : Type 0} (p : X → Bool) (xs : List X) → filter p (filter p xs) ≡ filter p xs
dropped_twice p [] = refl
dropped_twice p (x ∷ xs) =
    elim (p x) as (λ b. p x ≡ b → filter p (cond b (x ∷ filter p xs) (filter p xs)) ≡ cond b (x ∷ filter p xs) (filter p xs)) [
      | true ↦ λ e. ap (λ (b : Bool). cond b (x ∷ filter p (filter p xs)) (filter p (filter p xs))) e ∙ ap (λ (l : List _). x ∷ l) (dropped_twice p xs)
      | false ↦ λ e. dropped_twice p xs
    ] refl

-- a path that comes so many times, and then others
counted_copies : (n : ℕ) (raw : Raw) (rest : List Raw)
    → counted_paths (replicate (suc n) raw ++ rest) ≡ record { path = raw; count = suc n + count_by (same_raw raw) rest } ∷ filter (other raw) (counted_paths rest)
counted_copies zero raw rest = refl
counted_copies (suc n) raw rest =
    let raws : List Raw = replicate (suc n) raw ++ rest in
    let found : List Counted = filter (other raw) (counted_paths rest) in
    let first : Counted = record { path = raw; count = suc n + count_by (same_raw raw) rest } in
    let again : filter (other raw) (counted_paths raws) ≡ found =
    ap (λ (l : List Counted). filter (other raw) l) (counted_copies n raw rest)
    ∙ ap (λ (b : Bool). cond (not b) (first ∷ filter (other raw) found) (filter (other raw) found)) (same_itself raw)
    ∙ dropped_twice (other raw) (counted_paths rest) in
    let counts : 1 + count_by (same_raw raw) raws ≡ suc (suc n) + count_by (same_raw raw) rest = (let k = copies_counted (suc n) raw rest in omega (arith, k)) in
    ap₂ (λ (count : ℕ) (l : List Counted). record { path = raw; count = count } ∷ l) counts again
  where
    copies_counted : (n : ℕ) (raw : Raw) (rest : List Raw) → count_by (same_raw raw) (replicate n raw ++ rest) ≡ n + count_by (same_raw raw) rest
    copies_counted zero raw rest = omega arith
    copies_counted (suc n) raw rest =
        let parts = sum_by-cons (λ (x : Raw). cond (same_raw raw x) 1 0) raw (replicate n raw ++ rest) in
        let one : cond (same_raw raw raw) 1 0 ≡ 1 = ap (λ (b : Bool). cond {A = ℕ} b 1 0) (same_itself raw) in
        let more = copies_counted n raw rest in
        omega (arith, parts, one, more)

-- a path that isn't there isn't counted there, and isn't left out
absent_copies : (raw path : Raw) (n : ℕ) → same_raw raw path ≡ false → count_by (same_raw raw) (replicate n path) ≡ 0
absent_copies raw path zero apart = refl
absent_copies raw path (suc n) apart =
    let parts = sum_by-cons (λ (x : Raw). cond (same_raw raw x) 1 0) path (replicate n path) in
    let none : cond (same_raw raw path) 1 0 ≡ 0 = ap (λ (b : Bool). cond {A = ℕ} b 1 0) apart in
    let rest = absent_copies raw path n apart in
    omega (arith, parts, none, rest)

absent_counted : (raw : Raw) (cs : List Counted) → has_path raw cs ≡ false → count_by (same_raw raw) (each_raw cs) ≡ 0
absent_counted raw [] absent = refl
absent_counted raw (c ∷ cs) absent =
    let apart = or_parts (same_raw raw c.path) (has_path raw cs) absent in
    let parts = sum_by-append (λ (x : Raw). cond (same_raw raw x) 1 0) (replicate c.count c.path) (each_raw cs) in
    let one = absent_copies raw c.path c.count apart.0 in
    let rest = absent_counted raw cs apart.1 in
    omega (arith, parts, one, rest)

absent_kept : (raw : Raw) (cs : List Counted) → has_path raw cs ≡ false → filter (other raw) cs ≡ cs
absent_kept raw [] absent = refl
absent_kept raw (c ∷ cs) absent =
    let apart = or_parts (same_raw raw c.path) (has_path raw cs) absent in
    ap (λ (b : Bool). cond (not b) (c ∷ filter (other raw) cs) (filter (other raw) cs)) apart.0 ∙ ap (λ (l : List Counted). c ∷ l) (absent_kept raw cs apart.1)

counted_again : (cs : List Counted) → All IsCounted cs → AreDistinct cs → counted_paths (each_raw cs) ≡ cs
counted_again [] are apart = refl
counted_again (c ∷ cs) are apart =
    let some = (All-head IsCounted c cs are).count in
    let n : ℕ = c.count - 1 in
    let more : c.count ≡ suc n = omega (arith, some) in
    let none = absent_counted c.path cs apart.0 in
    let count : suc n + count_by (same_raw c.path) (each_raw cs) ≡ c.count = omega (arith, none, more) in
    let rest : filter (other c.path) (counted_paths (each_raw cs)) ≡ cs = ap (λ (l : List Counted). filter (other c.path) l) (counted_again cs (All-tail IsCounted c cs are) apart.1) ∙ absent_kept c.path cs apart.0 in
    ap (λ (k : ℕ). counted_paths (replicate k c.path ++ each_raw cs)) more ∙ counted_copies n c.path (each_raw cs)
    ∙ ap₂ (λ (k : ℕ) (l : List Counted). record { path = c.path; count = k } ∷ l) count rest

pub samples_distinct : (tables : Tables) → AreMeasured tables → distinct (length tables) (each_sample tables) ≡ tables
unfolding distinct
samples_distinct tables are =
    let table_of : ℕ → List Counted = λ column. counted_paths (raws_of (each_sample tables) column) in
    let long : length (map table_of (range_with_len 0 (length tables))) ≡ length tables = length-map-range_with_len table_of 0 (length tables) in
    same_lists (map table_of (range_with_len 0 (length tables))) tables long (λ k d lt.
    (let within : k < length tables = omega (arith, long, lt) in
    let at : 0 + k ≡ k = omega arith in
    get_or-map-range_with_len table_of 0 (length tables) k k d within at
    ∙ ap counted_paths (ap (λ (column : ℕ). raws_of (each_sample tables) column) (sym at) ∙ numbered_raws 0 k d tables within)
    ∙ counted_again (get_or tables k d) (are.paths k d within) (are.distinct k d within)))
