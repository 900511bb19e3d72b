-- The entries of a table, and the counted paths that they are.
use Rattle.std.proofs.Common.{◌≡◌, ℕ, zero, suc, refl, ◌+◌, ◌<◌, ◌≤◌, Bool, true, false, cond, ◌||◌, List, [], ◌∷◌, length, get_or, sum_by, Some, sym, ap, ◌∙◌, arith}
use Rattle.std.specs.Prelude.{is_some, slice_get}
use Rattle.std.specs.List.{AllByRecursion, IsDistinct, position}
use Rattle.std.specs.Map.{lookup, keys_of, values_of}
use Rattle.std.proofs.lemmas.List.Sums.{sum_by-cons}
use Rattle.std.proofs.lemmas.List.Quantifiers.{position-Some}
use Rattle.indexmap.specs.IndexMap.{insert_entry, set_value_at}
use Rattle.scope_types.specs.declared.frame.Counted.{Counted}
use Rattle.scope_types.specs.Raw.{Raw, same_raw}
use Rattle.scope_types.specs.private.SameRaw.{raw_decides, raw_equiv}
use Rattle.thread_cct.specs.Adding.{has_path, count_one}
use Rattle.thread_cct.specs.private.Fields.{counted_of, counted_in, IsPathAt}
use Rattle.thread_cct.proofs.Putting.{has_entry}

abbrev pub Entries : Type 0
Entries = List (Raw × ℕ)

abbrev count_of : Counted → ℕ
count_of c = c.count

-- ---- the index of a path

there_at : (raw : Raw) (cs : List Counted) (i : ℕ) → IsPathAt raw cs i → has_path raw cs ≡ true
there_at raw [] i at = absurd at
there_at raw (c ∷ cs) zero at = ap (λ (b : Bool). b || has_path raw cs) at
there_at raw (c ∷ cs) (suc i) at = ap (λ (b : Bool). b || has_path raw cs) at.0 ∙ there_at raw cs i at.1

pub found_at : (raw : Raw) (cs : List Counted) (i : ℕ) → IsPathAt raw cs i → true ≡ has_path raw cs
found_at raw cs i at = sym (there_at raw cs i at)

pub within_at : (raw : Raw) (es : Entries) (i : ℕ) → IsPathAt raw (counted_in es) i → i < length es
within_at raw [] i at = absurd at
within_at raw (e ∷ es) zero at = omega arith
within_at raw (e ∷ es) (suc i) at = let less = within_at raw es i at.1 in omega (arith, less)

first_at : (raw : Raw) (es : Entries) (i : ℕ) (d : Raw) → i < length (keys_of es) → same_raw raw (get_or (keys_of es) i d) ≡ true
    → ((k : ℕ) → k < i → same_raw raw (get_or (keys_of es) k d) ≡ false) → IsPathAt raw (counted_in es) i
first_at raw [] i d less same others = absurd (omega (arith, less))
first_at raw (e ∷ es) zero d less same others = same
first_at raw (e ∷ es) (suc i) d less same others =
    (others 0 (omega arith), first_at raw es i d (omega (arith, less)) same (λ k before. others (suc k) (omega (arith, before))))

pub position_at : (raw : Raw) (es : Entries) (i : ℕ) → position (same_raw raw) (keys_of es) ≡ Some i → IsPathAt raw (counted_in es) i
position_at raw es i is = let first = position-Some (same_raw raw) (keys_of es) i raw is in first_at raw es i raw first.0 first.1 first.2

pub not_found : (raw : Raw) (es : Entries) → is_some (lookup (same_raw raw) es) ≡ false → has_path raw (counted_in es) ≡ false
not_found raw es none = sym (has_entry raw es) ∙ none

-- keys that are distinct are the same as no other
pub apart : (first : Raw) (es : Entries) (i : ℕ) (k : Raw) (v : ℕ) → AllByRecursion (λ y. same_raw first y ≡ false) (keys_of es) → slice_get es i ≡ Some (k, v) → same_raw first k ≡ false
apart first [] i k v others at = absurd cc
apart first (e ∷ es) zero k v others at = let is : e.0 ≡ k = cc in sym (ap (same_raw first) is) ∙ others.0
apart first (e ∷ es) (suc i) k v others at = apart first es i k v others.1 at

pub path_at_index : (raw : Raw) (es : Entries) (i : ℕ) (k : Raw) (v : ℕ) → IsDistinct same_raw (keys_of es) → slice_get es i ≡ Some (k, v) → same_raw raw k ≡ true → IsPathAt raw (counted_in es) i
unfolding IsDistinct
path_at_index raw [] i k v distinct at same = absurd cc
path_at_index raw (e ∷ es) zero k v distinct at same = let is : e.0 ≡ k = cc in ap (same_raw raw) is ∙ same
path_at_index raw (e ∷ es) (suc i) k v distinct at same =
    let is : raw ≡ k = (raw_decides raw k).0 same in
    let other : same_raw e.0 raw ≡ false = ap (same_raw e.0) is ∙ apart e.0 es i k v distinct.0 at in
    (raw_equiv.symm raw e.0 ∙ other, path_at_index raw es i k v distinct.1 at same)

pub ruleset index_steps = (position_at, not_found)

-- ---- one more

pub counted_at : (raw : Raw) (es : Entries) (i c : ℕ) → IsPathAt raw (counted_in es) i → slice_get (values_of es) i ≡ Some c → counted_in (set_value_at es i (c + 1)) ≡ count_one raw (counted_in es)
counted_at raw [] i c at value = absurd at
counted_at raw (e ∷ es) zero c at value =
    let is : e.1 ≡ c = cc in
    ap (λ (n : ℕ). counted_of (e.0, n + 1) ∷ counted_in es) (sym is)
    ∙ sym (ap (λ (b : Bool). cond b (record { path = e.0; count = e.1 + 1 } ∷ counted_in es) (counted_of e ∷ count_one raw (counted_in es))) at)
counted_at raw (e ∷ es) (suc i) c at value =
    ap (λ (l : List Counted). counted_of e ∷ l) (counted_at raw es i c at.1 value)
    ∙ sym (ap (λ (b : Bool). cond b (record { path = e.0; count = e.1 + 1 } ∷ counted_in es) (counted_of e ∷ count_one raw (counted_in es))) at.0)

pub counted_first : (raw : Raw) (es : Entries) → has_path raw (counted_in es) ≡ false → counted_in (insert_entry same_raw es raw 1) ≡ count_one raw (counted_in es)
counted_first raw [] new = refl
counted_first raw (e ∷ es) new =
    elim (same_raw raw e.0) as (λ b. (b || has_path raw (counted_in es)) ≡ false
    → counted_in (cond b ((e.0, 1) ∷ es) (e ∷ insert_entry same_raw es raw 1)) ≡ cond b (record { path = e.0; count = e.1 + 1 } ∷ counted_in es) (counted_of e ∷ count_one raw (counted_in es))) [
      | true ↦ λ f. absurd cc
      | false ↦ λ f. ap (λ (l : List Counted). counted_of e ∷ l) (counted_first raw es f)
    ] new

-- no count is above their sum
pub count_small : (es : Entries) (i c : ℕ) → slice_get (values_of es) i ≡ Some c → c ≤ sum_by count_of (counted_in es)
count_small [] i c value = absurd cc
count_small (e ∷ es) zero c value =
    let parts = sum_by-cons count_of (counted_of e) (counted_in es) in
    let is : e.1 ≡ c = cc in
    omega (arith, parts, is)
count_small (e ∷ es) (suc i) c value =
    let parts = sum_by-cons count_of (counted_of e) (counted_in es) in
    let few = count_small es i c value in
    omega (arith, parts, few)

pub ruleset entry_steps = (found_at, within_at, counted_at, counted_first, count_small)
