-- Reading a number of items one by one, as a loop does.
use Rattle.std.proofs.Common.{◌≡◌, ℕ, suc, ◌-◌, ◌+◌, ◌≤◌, ◌<◌, List, [], ◌∷◌, ◌++◌, Ok, Err, refl, sym, ap, ◌∙◌, arith}
use Rattle.std.proofs.lemmas.List.{append-nil}
use Rattle.prof_bytes.specs.Fields.{Input}
use Rattle.prof_bytes.specs.Outcome.{◌>>=◌}
use Rattle.dwarf_line.specs.declared.fault.LineFault.{LineFault}
use Rattle.dwarf_forms.proofs.Items.{with_front, regroup}
use Rattle.dwarf_line.specs.Names.{LineRead, repeated_from}

-- one more item was read
pub goes_on : {X : Type 0} (item : Input LineFault → LineRead X) (front : List X) (count i : ℕ) (input after : Input LineFault) (x : X) (total : LineRead (List X))
    → i < count → item input ≡ Ok (x, after)
    → with_front front (repeated_from item (count - i) input) ≡ total → with_front (front ++ x ∷ []) (repeated_from item (count - (i + 1)) after) ≡ total
unfolding repeated_from
goes_on item front count i input after x total lt read so_far =
    let k : count - i ≡ suc (count - (i + 1)) = omega arith in
    let one : with_front front (repeated_from item (count - i) input) ≡ with_front (front ++ x ∷ []) (repeated_from item (count - (i + 1)) after) =
    rw (k, read) (regroup front x (repeated_from item (count - (i + 1)) after)) in
    sym one ∙ so_far

-- all were read
pub is_done : {X : Type 0} (item : Input LineFault → LineRead X) (front : List X) (count i : ℕ) (input : Input LineFault) (total : LineRead (List X))
    → count ≤ i → with_front front (repeated_from item (count - i) input) ≡ total → total ≡ Ok (front, input)
unfolding repeated_from
is_done {X = X} item front count i input total le so_far =
    let k : count - i ≡ 0 = omega arith in
    let one : with_front front (repeated_from item (count - i) input) ≡ Ok (front, input) = rw k (ap (λ (xs : List X). Ok (xs, input)) (append-nil front)) in
    sym so_far ∙ one

-- an item is at fault
pub fails_at : {X : Type 0} (found : LineFault) (item : Input LineFault → LineRead X) (front : List X) (count i : ℕ) (input : Input LineFault) (total : LineRead (List X))
    → i < count → item input ≡ Err found
    → with_front front (repeated_from item (count - i) input) ≡ total → total ≡ Err found
unfolding repeated_from
fails_at found item front count i input total lt read so_far =
    let k : count - i ≡ suc (count - (i + 1)) = omega arith in
    let one : with_front front (repeated_from item (count - i) input) ≡ Err found = rw (k, read) refl in
    sym so_far ∙ one

-- ---- items that are passed over

-- what is left of a read whose items do not count
abbrev pub passed : {X S : Type 0} → S → LineRead (List X) → LineRead S
passed state read = read >>= (λ r. Ok (state, r.1))

one_passed : {X S : Type 0} (state : S) (x : X) (read : LineRead (List X)) → passed state (read >>= λ r. Ok (x ∷ r.0, r.1)) ≡ passed state read
one_passed state x (Ok r) = refl
one_passed state x (Err f) = refl

pub passes_one : {X S : Type 0} (item : Input LineFault → LineRead X) (state : S) (count i : ℕ) (input after : Input LineFault) (x : X)
    → i < count → item input ≡ Ok (x, after)
    → passed state (repeated_from item (count - i) input) ≡ passed state (repeated_from item (count - (i + 1)) after)
unfolding repeated_from
passes_one item state count i input after x lt read =
    let k : count - i ≡ suc (count - (i + 1)) = omega arith in
    rw (k, read) (one_passed state x (repeated_from item (count - (i + 1)) after))

pub stops : {X S : Type 0} (found : LineFault) (item : Input LineFault → LineRead X) (state : S) (count i : ℕ) (input : Input LineFault)
    → i < count → item input ≡ Err found → passed state (repeated_from item (count - i) input) ≡ Err found
unfolding repeated_from
stops found item state count i input lt read =
    let k : count - i ≡ suc (count - (i + 1)) = omega arith in
    rw (k, read) refl

pub all_passed : {X S : Type 0} (item : Input LineFault → LineRead X) (state : S) (count i : ℕ) (input : Input LineFault)
    → count ≤ i → passed state (repeated_from item (count - i) input) ≡ Ok (state, input)
unfolding repeated_from
all_passed item state count i input le =
    let k : count - i ≡ 0 = omega arith in
    rw k refl
