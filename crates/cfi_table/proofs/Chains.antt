-- A chain of entries, one more at a time.
use Rattle.std.proofs.Common.{◌≡◌, ℕ, zero, suc, ◌+◌, ◌-◌, ◌≤◌, ◌<◌, Bool, true, false, cond, List, [], ◌∷◌, ◌++◌, length, length-drop, map, Option, Some, None, Result, Ok, Err, refl, sym, ap, subst, ◌∙◌, append_assoc, arith}
use Rattle.std.specs.Prelude.{◌==◌, ◌||◌, All, nat_lt, nat_le}
use Rattle.std.proofs.lemmas.Bool.Decides.{nat_tests}
use Rattle.std.proofs.lemmas.List.{append-nil}
use Rattle.std.proofs.lemmas.List.Elements.{All-push}
use Rattle.std.proofs.lemmas.Bool.{eq-eqb}
use Rattle.prof_bytes.specs.Outcome.{◌>>=◌}
use Rattle.prof_bytes.specs.Number.{number_in}
use Rattle.prof_bytes.specs.Reading.{left_of}
use Rattle.prof_bytes.specs.Fields.{Input, taken, number_from, part_from, answered, first_reserved_length}
use Rattle.prof_bytes.specs.Reading.{moved, up_to}
use Rattle.prof_bytes.proofs.Tests.{not_zero}
use Rattle.cfi_table.specs.declared.fault.FrameFault.{FrameFault}
use Rattle.cfi_table.specs.declared.extent.Extent.{Extent}
use Rattle.cfi_table.specs.declared.extent.ZeroLength.{ZeroLength}
use Rattle.cfi_table.specs.declared.extent.ZeroLength.TheVariants as zero_lengths
use Rattle.cfi_table.specs.Instructions.{Reading}
use Rattle.cfi_table.specs.Rules.{fault_here}
use Rattle.cfi_table.specs.Entries.{before_others, at_zero, chained, chain_from, extents_by}
use Rattle.cfi_table.specs.private.Placed.{AreRising, IsPlaced}
use Rattle.cfi_table.proofs.Rising.{from_lower}

-- ---- what a reader's answer says of what is read

pub was_read : {X F : Type 0} (r : Result X F) (x : X) (before after : Input F) (wanted : Result (X × Input F) F) → (r, after) ≡ answered before wanted → r ≡ Ok x → wanted ≡ Ok (x, after)
was_read {X} {F} r x before after (Ok found) e is =
    let both : found ≡ (x, after) = pair found (x, after) (same found.0 x (sym (ap (λ (p : Result X F × Input F). p.0) e) ∙ is)) (sym (ap (λ (p : Result X F × Input F). p.1) e)) in
    ap (λ (p : X × Input F). Ok p) both
  where
    same : (a b : X) → (let u : Result X F = Ok a in u) ≡ Ok b → a ≡ b
    same a b e = cc

    pair : (p q : X × Input F) → p.0 ≡ q.0 → p.1 ≡ q.1 → p ≡ q
    pair (a, b) (c, d) e f = cc
was_read {X} {F} r x before after (Err fault) e is =
    let wrong : (let u : Result X F = Err fault in u) ≡ Ok x = sym (ap (λ (p : Result X F × Input F). p.0) e) ∙ is in
    absurd cc

pub was_fault : {X F : Type 0} (r : Result X F) (fault : F) (before after : Input F) (wanted : Result (X × Input F) F) → (r, after) ≡ answered before wanted → r ≡ Err fault → wanted ≡ Err fault
was_fault {X} {F} r fault before after (Ok found) e is =
    let wrong : (let u : Result X F = Ok found.0 in u) ≡ Err fault = sym (ap (λ (p : Result X F × Input F). p.0) e) ∙ is in
    absurd cc
was_fault {X} {F} r fault before after (Err other) e is = ap (λ (f : F). Err f) (same other fault (sym (ap (λ (p : Result X F × Input F). p.0) e) ∙ is))
  where
    same : (a b : F) → (let u : Result X F = Err a in u) ≡ Err b → a ≡ b
    same a b e = cc

-- ---- a part lies after its length

pub record Follows (input rest : Input FrameFault) : Type 0 where
  pub whole : rest.at.whole ≡ input.at.whole
  pub order : input.at.offset + 4 ≤ rest.at.offset
  pub within : rest.at.offset ≤ length input.at.whole

pub follows : (input body rest : Input FrameFault) → part_from input ≡ Ok (body, rest) → Follows input rest
follows input body rest e = from (nat_lt (length (left_of input.at)) 4) refl (number_in 4 (left_of input.at)) e
  where
    pair_is : (a b : Input FrameFault × Input FrameFault) → (let u : Reading (Input FrameFault) = Ok a in u) ≡ Ok b → a.1 ≡ b.1
    pair_is a b e = cc

    mid : Input FrameFault
    mid = record input { at = moved 4 input.at }

    parted : ℕ → Input FrameFault → Reading (Input FrameFault)
    parted size body = Ok (record body { at = up_to (body.at.offset + size) body.at }, record body { at = moved size body.at })

    ends : (n : ℕ) → nat_lt (length (left_of input.at)) 4 ≡ false → nat_lt (length (left_of mid.at)) n ≡ false → record mid { at = moved n mid.at } ≡ rest → Follows input rest
    ends n four fits is =
        let P : Input FrameFault → Type 0 = λ r. Follows input r in
        let room : n ≤ length (left_of mid.at) = grind (arith, nat_tests) in
        let some : 4 ≤ length (left_of input.at) = grind (arith, nat_tests) in
        subst P is (record { whole = refl; order = omega arith; within = omega (arith, length-drop input.at.offset input.at.whole, length-drop (input.at.offset + 4) input.at.whole) })

    sized : (b d : Bool) (n : ℕ) → nat_lt (length (left_of input.at)) 4 ≡ false → nat_lt (length (left_of mid.at)) n ≡ d
        → ((let u : Reading ℕ = cond (b || d) (Err input.missing) (Ok (n, mid)) in u) >>= λ sized. parted sized.0 sized.1) ≡ Ok (body, rest) → Follows input rest
    sized true d n four fits e = absurd cc
    sized false true n four fits e = absurd cc
    sized false false n four fits e = ends n four fits (pair_is _ _ e)

    from : (b : Bool) → nat_lt (length (left_of input.at)) 4 ≡ b → (n : ℕ)
        → (taken input (cond b None (Some (n, 4)))
        >>= (λ sized. (let u : Reading ℕ = cond (nat_le first_reserved_length sized.0 || nat_lt (length (left_of sized.1.at)) sized.0) (Err input.missing) (Ok (sized.0, sized.1)) in u))
        >>= λ sized. parted sized.0 sized.1) ≡ Ok (body, rest)
        → Follows input rest
    from true four n e = absurd cc
    from false four n e = sized (nat_le first_reserved_length n) (nat_lt (length (left_of mid.at)) n) n four refl e

-- ---- the chain

-- entries before those of a chain
abbrev pub behind : List Extent → List Extent × Option FrameFault → List Extent × Option FrameFault
behind front others = (front ++ others.0, others.1)

abbrev pub entry_between : Input FrameFault → Input FrameFault → Extent
entry_between input rest = record { offset = input.at.offset; end = rest.at.offset }

pub record KeepsChain (z : ZeroLength) (section : List ℕ) (input : Input FrameFault) (front : List Extent) : Type 0 where
  pub whole : input.at.whole ≡ section
  pub count : ℕ
  pub enough : length (left_of input.at) ≤ count
  pub so_far : behind front (chain_from z count input) ≡ extents_by z section
  pub placed : All (IsPlaced section) front

-- the input with the fault at its own offset
abbrev pub marked : Input FrameFault → Input FrameFault
marked input = record input { missing = fault_here input }

step_zero : (z : ZeroLength) (m : ℕ) (input body rest : Input FrameFault) → 0 < length (left_of input.at) → part_from (marked input) ≡ Ok (body, rest) → length (left_of body.at) ≡ 0 → chain_from z (suc m) input ≡ at_zero z (chain_from z m rest)
unfolding chain_from
step_zero z m input body rest lt is none = rw (not_zero _ lt, is, eq-eqb _ 0 none) refl

step_on : (z : ZeroLength) (m : ℕ) (input body rest : Input FrameFault) → 0 < length (left_of input.at) → part_from (marked input) ≡ Ok (body, rest) → 0 < length (left_of body.at)
    → chain_from z (suc m) input ≡ before_others (entry_between input rest) (chain_from z m rest)
unfolding chain_from
step_on z m input body rest lt is some = rw (not_zero _ lt, is, not_zero _ some) refl

step_fault : (z : ZeroLength) (m : ℕ) (input : Input FrameFault) (fault : FrameFault) → 0 < length (left_of input.at) → part_from (marked input) ≡ Err fault → chain_from z (suc m) input ≡ ([], Some fault)
unfolding chain_from
step_fault z m input fault lt is = rw (not_zero _ lt, is) refl

pub step_end : (z : ZeroLength) (m : ℕ) (input : Input FrameFault) → length (left_of input.at) ≡ 0 → chain_from z m input ≡ ([], None)
unfolding chain_from
step_end z zero input none = refl
step_end z (suc m) input none = rw (eq-eqb _ 0 none) refl

pub shorter : (input body rest : Input FrameFault) → 0 < length (left_of input.at) → part_from (marked input) ≡ Ok (body, rest) → length (left_of rest.at) < length (left_of input.at)
shorter input body rest lt is =
    let f = follows (marked input) body rest is in
    let order = f.order in
    let len : length rest.at.whole ≡ length input.at.whole = ap (λ (xs : List ℕ). length xs) f.whole in
    omega (arith, length-drop input.at.offset input.at.whole, length-drop rest.at.offset rest.at.whole)

-- the chain from the input on, where bytes are left
one_more : (z : ZeroLength) (section : List ℕ) (input : Input FrameFault) (front : List Extent) (k : KeepsChain z section input front) → 0 < length (left_of input.at) → behind front (chain_from z (suc (k.count - 1)) input) ≡ extents_by z section
one_more z section input front k some =
    let enough = k.enough in
    let one : suc (k.count - 1) ≡ k.count = omega arith in
    ap (λ (n : ℕ). behind front (chain_from z n input)) one ∙ k.so_far

finished : (z : ZeroLength) (section : List ℕ) (front : List Extent) (broken : Option FrameFault) (found : List Extent × Option FrameFault) → found ≡ ([], broken) → behind front found ≡ extents_by z section → (front, broken) ≡ extents_by z section
finished z section front broken found e so_far = ap (λ (es : List Extent). (es, broken)) (sym (append-nil front)) ∙ ap (behind front) (sym e) ∙ so_far

pub passes_over : (z : ZeroLength) (section : List ℕ) (input body rest : Input FrameFault) (front : List Extent) → ¬ (z ≡ zero_lengths.EndsList) → 0 < length (left_of input.at) → part_from (marked input) ≡ Ok (body, rest) → length (left_of body.at) ≡ 0
    → KeepsChain z section input front → KeepsChain z section rest front
passes_over zero_lengths.EndsList section input body rest front over lt is none kept = absurd (over refl)
passes_over zero_lengths.PassedOver section input body rest front over lt is none kept =
    let less = shorter input body rest lt is in
    let enough = kept.enough in
    record {
      whole = (follows (marked input) body rest is).whole ∙ kept.whole;
      count = kept.count - 1;
      enough = omega arith;
      so_far = ap (behind front) (sym (step_zero zero_lengths.PassedOver (kept.count - 1) input body rest lt is none)) ∙ one_more zero_lengths.PassedOver section input front kept lt;
      placed = kept.placed;
    }

-- a length of 0 ends the list
pub ends_zero : (z : ZeroLength) (section : List ℕ) (input body rest : Input FrameFault) (front : List Extent) → z ≡ zero_lengths.EndsList → 0 < length (left_of input.at) → part_from (marked input) ≡ Ok (body, rest) → length (left_of body.at) ≡ 0
    → KeepsChain z section input front → (front, None) ≡ extents_by z section
ends_zero zero_lengths.PassedOver section input body rest front over lt is none kept = absurd cc
ends_zero zero_lengths.EndsList section input body rest front over lt is none kept =
    finished zero_lengths.EndsList section front None _ (step_zero zero_lengths.EndsList (kept.count - 1) input body rest lt is none) (one_more zero_lengths.EndsList section input front kept lt)

pub is_placed : (section : List ℕ) (input body rest : Input FrameFault) → input.at.whole ≡ section → part_from (marked input) ≡ Ok (body, rest) → IsPlaced section (entry_between input rest)
is_placed section input body rest whole is =
    let f = follows (marked input) body rest is in
    let order = f.order in
    let within = f.within in
    let len : length input.at.whole ≡ length section = ap (λ (xs : List ℕ). length xs) whole in
    record { order = omega arith; within = omega arith }

pub goes_on : (z : ZeroLength) (section : List ℕ) (input body rest : Input FrameFault) (front next : List Extent) → 0 < length (left_of input.at) → part_from (marked input) ≡ Ok (body, rest) → 0 < length (left_of body.at)
    → next ≡ front ++ entry_between input rest ∷ [] → KeepsChain z section input front → KeepsChain z section rest next
goes_on z section input body rest front next lt is some pushed kept =
    let less = shorter input body rest lt is in
    let enough = kept.enough in
    let others = chain_from z (kept.count - 1) rest in
    record {
      whole = (follows (marked input) body rest is).whole ∙ kept.whole;
      count = kept.count - 1;
      enough = omega arith;
      so_far =
          ap (λ (es : List Extent). behind es others) pushed
          ∙ ap (λ (es : List Extent). (es, others.1)) (append_assoc front (entry_between input rest ∷ []) others.0)
          ∙ ap (behind front) (sym (step_on z (kept.count - 1) input body rest lt is some))
          ∙ one_more z section input front kept lt;
      placed = rw pushed (All-push (IsPlaced section) front (entry_between input rest) kept.placed (is_placed section input body rest kept.whole is));
    }

pub stops : (z : ZeroLength) (section : List ℕ) (input : Input FrameFault) (fault : FrameFault) (front : List Extent) → 0 < length (left_of input.at) → part_from (marked input) ≡ Err fault → KeepsChain z section input front → (front, Some fault) ≡ extents_by z section
stops z section input fault front lt is kept = finished z section front (Some fault) _ (step_fault z (kept.count - 1) input fault lt is) (one_more z section input front kept lt)

pub ends : (z : ZeroLength) (section : List ℕ) (input : Input FrameFault) (front : List Extent) → length (left_of input.at) ≡ 0 → KeepsChain z section input front → (front, None) ≡ extents_by z section
ends z section input front none kept = finished z section front None _ (step_end z kept.count input none) kept.so_far

-- ---- the fault of a length is at its offset

pub fault_is : (input : Input FrameFault) (fault : FrameFault) → part_from input ≡ Err fault → fault ≡ input.missing
fault_is input fault e = from (nat_lt (length (left_of input.at)) 4) (number_in 4 (left_of input.at)) e
  where
    err_is : (a b : FrameFault) → (let u : Reading (Input FrameFault) = Err a in u) ≡ Err b → b ≡ a
    err_is a b e = cc

    parted : ℕ → Input FrameFault → Reading (Input FrameFault)
    parted size body = Ok (record body { at = up_to (body.at.offset + size) body.at }, record body { at = moved size body.at })

    sized : (b : Bool) (n : ℕ) (mid : Input FrameFault) → ((let u : Reading ℕ = cond b (Err input.missing) (Ok (n, mid)) in u) >>= λ sized. parted sized.0 sized.1) ≡ Err fault → fault ≡ input.missing
    sized true n mid e = err_is _ _ e
    sized false n mid e = absurd cc

    from : (b : Bool) (n : ℕ)
        → (taken input (cond b None (Some (n, 4)))
        >>= (λ sized. (let u : Reading ℕ = cond (nat_le first_reserved_length sized.0 || nat_lt (length (left_of sized.1.at)) sized.0) (Err input.missing) (Ok (sized.0, sized.1)) in u))
        >>= λ sized. parted sized.0 sized.1) ≡ Err fault
        → fault ≡ input.missing
    from true n e = err_is _ _ e
    from false n e = sized (nat_le first_reserved_length n || nat_lt (length (left_of (moved 4 input.at))) n) n (record input { at = moved 4 input.at }) e

-- ---- entries lie one after the other

chain_rises : (z : ZeroLength) (n : ℕ) (input : Input FrameFault) → AreRising input.at.offset (map (λ e. e.offset) (chain_from z n input).0)
unfolding chain_from
chain_rises z zero input = tt
chain_rises z (suc n) input = go (length (left_of input.at) == 0) (part_from (marked input)) refl (λ next. chain_rises z n next)
  where
    Rises : ℕ → List Extent × Option FrameFault → Type 0
    Rises low found = AreRising low (map (λ e. e.offset) found.0)

    over : (y : ZeroLength) (low : ℕ) (others : List Extent × Option FrameFault) → Rises low others → Rises low (at_zero y others)
    over zero_lengths.PassedOver low others up = up
    over zero_lengths.EndsList low others up = tt

    sized : (b : Bool) (body rest : Input FrameFault) → part_from (marked input) ≡ Ok (body, rest) → Rises rest.at.offset (chain_from z n rest)
        → Rises input.at.offset (cond b (at_zero z (chain_from z n rest)) (before_others (entry_between input rest) (chain_from z n rest)))
    sized true body rest is up =
        let order = (follows (marked input) body rest is).order in
        over z input.at.offset (chain_from z n rest) (from_lower input.at.offset rest.at.offset (map (λ e. e.offset) (chain_from z n rest).0) (omega arith) up)
    sized false body rest is up = let order = (follows (marked input) body rest is).order in (omega arith, from_lower (input.at.offset + 1) rest.at.offset (map (λ e. e.offset) (chain_from z n rest).0) (omega arith) up)

    linked : (r : Reading (Input FrameFault)) → part_from (marked input) ≡ r → ((next : Input FrameFault) → Rises next.at.offset (chain_from z n next))
        → Rises input.at.offset (chained z input (λ next. chain_from z n next) r)
    linked (Err fault) is up = tt
    linked (Ok found) is up = sized (length (left_of found.0.at) == 0) found.0 found.1 is (up found.1)

    go : (b : Bool) (r : Reading (Input FrameFault)) → part_from (marked input) ≡ r → ((next : Input FrameFault) → Rises next.at.offset (chain_from z n next))
        → Rises input.at.offset (cond b ([], None) (chained z input (λ next. chain_from z n next) r))
    go true r is up = tt
    go false r is up = linked r is up

pub in_order : (z : ZeroLength) (section : List ℕ) (found : List Extent × Option FrameFault) → found ≡ extents_by z section → AreRising 0 (map (λ e. e.offset) found.0)
in_order z section found is = rw is (chain_rises z (length section) (record { at = record { whole = section; offset = 0 }; missing = record { offset = 0 } }))

-- ---- a part as it was read

pub part_read : (input before body after : Input FrameFault) (r : Result (Input FrameFault) FrameFault) → before ≡ marked input → (r, after) ≡ answered before (part_from before) → r ≡ Ok body → part_from (marked input) ≡ Ok (body, after)
part_read input before body after r same e is =
    let P : Input FrameFault → Type 0 = λ b. part_from b ≡ Ok (body, after) in
    subst P same (was_read r body before after (part_from before) e is)

pub part_fault : (input before after : Input FrameFault) (fault : FrameFault) (r : Result (Input FrameFault) FrameFault) → before ≡ marked input → (r, after) ≡ answered before (part_from before) → r ≡ Err fault → part_from (marked input) ≡ Err (fault_here input)
part_fault input before after fault r same e is =
    let P : Input FrameFault → Type 0 = λ b. part_from b ≡ Err fault in
    let faulty : part_from (marked input) ≡ Err fault = subst P same (was_fault r fault before after (part_from before) e is) in
    faulty ∙ ap (λ (f : FrameFault). Err f) (fault_is (marked input) fault faulty)

-- ---- a number of four bytes as it was read

pub number_read : (before body after : Input FrameFault) (r : Result ℕ FrameFault) (n : ℕ) → before ≡ body → (r, after) ≡ answered before (number_from 4 before) → r ≡ Ok n → number_from 4 body ≡ Ok (n, after)
number_read before body after r n same e is =
    let P : Input FrameFault → Type 0 = λ b. number_from 4 b ≡ Ok (n, after) in
    subst P same (was_read r n before after (number_from 4 before) e is)

pub number_fault : (before body after : Input FrameFault) (r : Result ℕ FrameFault) (fault : FrameFault) → before ≡ body → (r, after) ≡ answered before (number_from 4 before) → r ≡ Err fault → number_from 4 body ≡ Err fault
number_fault before body after r fault same e is =
    let P : Input FrameFault → Type 0 = λ b. number_from 4 b ≡ Err fault in
    subst P same (was_fault r fault before after (number_from 4 before) e is)
