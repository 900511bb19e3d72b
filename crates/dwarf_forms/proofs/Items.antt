-- Reading a list item by item, as a loop does.
use Rattle.std.proofs.Common.{◌≡◌, ℕ, suc, ◌-◌, ◌+◌, ◌≤◌, ◌<◌, List, [], ◌∷◌, ◌++◌, Option, Some, None, Result, Ok, Err, refl, sym, ap, ◌∙◌, append_assoc, arith}
use Rattle.std.proofs.lemmas.List.{append-nil}
use Rattle.prof_bytes.specs.Fields.{Input}
use Rattle.prof_bytes.specs.Outcome.{◌>>=◌, FailsBy}
use Rattle.prof_bytes.specs.declared.fail.Fail.{Fail}
use Rattle.prof_bytes.specs.declared.fail.Fail.TheVariants as fails
use Rattle.dwarf_forms.specs.Lists.{list_from}

abbrev pub Item : Type 0 → Type 0 → Type 0
Item X F = Input F → Result (Option X × Input F) F

abbrev pub Items : Type 0 → Type 0 → Type 0
Items X F = Result (List X × Input F) F

-- what was read before, and what is still read
abbrev pub with_front : {X F : Type 0} → List X → Items X F → Items X F
with_front front read = read >>= (λ x. Ok (front ++ x.0, x.1))

pub regroup : {X F : Type 0} (front : List X) (x : X) (read : Items X F)
    → with_front front (read >>= (λ (others, end). Ok (x ∷ others, end))) ≡ with_front (front ++ x ∷ []) read
regroup {X = X} front x (Ok r) = ap (λ (xs : List X). Ok (xs, r.1)) (simp append_assoc)
regroup front x (Err f) = refl

-- one more item was read
pub goes_on : {X F : Type 0} (item : Item X F) (front : List X) (room i : ℕ) (input after : Input F) (x : X) (total : Items X F)
    → i < room → item input ≡ Ok (Some x, after) → with_front front (list_from item (room - i) input) ≡ total
    → with_front (front ++ x ∷ []) (list_from item (room - (i + 1)) after) ≡ total
unfolding list_from
goes_on item front room i input after x total lt read so_far =
    let k : room - i ≡ suc (room - (i + 1)) = omega arith in
    let one : with_front front (list_from item (room - i) input) ≡ with_front (front ++ x ∷ []) (list_from item (room - (i + 1)) after) =
    rw (k, read) (regroup front x (list_from item (room - (i + 1)) after)) in
    sym one ∙ so_far

-- the list was closed
pub closes : {X F : Type 0} (item : Item X F) (front : List X) (room i : ℕ) (input after : Input F) (total : Items X F)
    → i < room → item input ≡ Ok (None, after) → with_front front (list_from item (room - i) input) ≡ total → total ≡ Ok (front, after)
unfolding list_from
closes {X = X} item front room i input after total lt read so_far =
    let k : room - i ≡ suc (room - (i + 1)) = omega arith in
    let one : with_front front (list_from item (room - i) input) ≡ Ok (front, after) = rw (k, read) (ap (λ (xs : List X). Ok (xs, after)) (append-nil front)) in
    sym so_far ∙ one

-- an item is at fault
pub fails_at : {X F : Type 0} (found : F) (item : Item X F) (front : List X) (room i : ℕ) (input : Input F) (total : Items X F)
    → i < room → item input ≡ Err found → with_front front (list_from item (room - i) input) ≡ total → total ≡ Err found
unfolding list_from
fails_at found item front room i input total lt read so_far =
    let k : room - i ≡ suc (room - (i + 1)) = omega arith in
    let one : with_front front (list_from item (room - i) input) ≡ Err found = rw (k, read) refl in
    sym so_far ∙ one

pub fails_by : {X F : Type 0} (fail : Fail F) (item : Item X F) (front : List X) (room i : ℕ) (input : Input F) (total : Items X F)
    → i < room → FailsBy fail (item input) → with_front front (list_from item (room - i) input) ≡ total → FailsBy fail total
fails_by (fails.Memory memory) item front room i input total lt read so_far = tt
fails_by (fails.Fault found) item front room i input total lt read so_far = fails_at found item front room i input total lt read so_far

-- the room is spent
pub runs_out : {X F : Type 0} (item : Item X F) (front : List X) (room i : ℕ) (input : Input F) (total : Items X F)
    → room ≤ i → with_front front (list_from item (room - i) input) ≡ total → total ≡ Err input.missing
unfolding list_from
runs_out item front room i input total le so_far =
    let k : room - i ≡ 0 = omega arith in
    let one : with_front front (list_from item (room - i) input) ≡ Err input.missing = rw k refl in
    sym so_far ∙ one
