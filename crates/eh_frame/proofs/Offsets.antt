-- A chain of entries from an offset in a section on.
use Rattle.std.proofs.Common.{◌≡◌, ℕ, zero, suc, ◌+◌, ◌*◌, ◌-◌, ◌≤◌, ◌<◌, Bool, true, false, List, [], ◌∷◌, ◌++◌, length, length-append, length-drop, take, drop, Option, Some, None, Ok, Err, inl, inr, refl, sym, ap, subst, ◌∙◌, append_assoc, arith}
use Rattle.std.specs.Prelude.{◌⊎◌, ◌==◌, nat_lt, nat_le, replicate}
use Rattle.std.proofs.lemmas.Bool.Decides.{nat_tests}
use Rattle.std.proofs.lemmas.List.{length-take, drop-append-le, replicate-append-replicate}
use Rattle.std.proofs.lemmas.Bool.{eqb-true, eq-eqb}
use Rattle.byteorder.specs.Numbers.{little_from-append}
use Rattle.prof_bytes.specs.Number.{number_in}
use Rattle.prof_bytes.specs.Fields.{Input, part_from, first_reserved_length}
use Rattle.prof_bytes.proofs.Tests.{not_zero, above_zero}
use Rattle.cfi_table.specs.declared.fault.FrameFault.{FrameFault}
use Rattle.cfi_table.specs.declared.extent.Extent.{Extent}
use Rattle.cfi_table.specs.declared.extent.ZeroLength.{ZeroLength}
use Rattle.cfi_table.specs.declared.extent.ZeroLength.TheVariants.{PassedOver, EndsList}
use Rattle.cfi_table.specs.Entries.{before_others, at_zero, chain_from, extents_of}
use Rattle.cfi_table.proofs.Chains.{step_end}
use Rattle.eh_frame.proofs.Members.{IsIn}
use Rattle.eh_frame.proofs.ReadBack.{drop_on, drop_front}

abbrev pub at_offset : List ℕ → ℕ → FrameFault → Input FrameFault
at_offset section p missing = record { at = record { whole = section; offset = p }; missing = missing }

-- ---- a length at an offset

pub record Sized (section : List ℕ) (p : ℕ) : Type 0 where
  pub size : ℕ
  pub is : number_in 4 (drop p section) ≡ size
  pub free : size < first_reserved_length
  pub within : size + 4 ≤ length (drop p section)

abbrev part_body : List ℕ → ℕ → ℕ → FrameFault → Input FrameFault
part_body section p size missing = at_offset (take (p + 4 + size) section) (p + 4) missing

pub part_sized : (section : List ℕ) (p : ℕ) (missing : FrameFault) (s : Sized section p) → part_from (at_offset section p missing) ≡ Ok (part_body section p s.size missing, at_offset section (p + 4 + s.size) missing)
part_sized section p missing s =
    let within = s.within in
    let small = s.free in
    let long : nat_lt (length (drop p section)) 4 ≡ false = grind (arith, nat_tests) in
    let unreserved : nat_le first_reserved_length s.size ≡ false = grind (arith, nat_tests) in
    let behind : length (drop (p + 4) section) ≡ length section - (p + 4) = length-drop (p + 4) section in
    let here : length (drop p section) ≡ length section - p = length-drop p section in
    let enough : s.size ≤ length (drop (p + 4) section) = omega arith in
    let fits : nat_lt (length (drop (p + 4) section)) s.size ≡ false = grind (arith, nat_tests) in
    rw (long, s.is, unreserved, fits) refl

pub part_either : (section : List ℕ) (p : ℕ) (missing : FrameFault) → Sized section p ⊎ (part_from (at_offset section p missing) ≡ Err missing)
part_either section p missing = from (nat_lt (length (drop p section)) 4) refl
  where
    sized : (a b : Bool) → nat_lt (length (drop p section)) 4 ≡ false → nat_le first_reserved_length (number_in 4 (drop p section)) ≡ a → nat_lt (length (drop (p + 4) section)) (number_in 4 (drop p section)) ≡ b
        → Sized section p ⊎ (part_from (at_offset section p missing) ≡ Err missing)
    sized true b four reserved short = inr (rw (four, reserved) refl)
    sized false true four reserved short = inr (rw (four, reserved, short) refl)
    sized false false four reserved short =
        let behind : length (drop (p + 4) section) ≡ length section - (p + 4) = length-drop (p + 4) section in
        let here : length (drop p section) ≡ length section - p = length-drop p section in
        let some : 4 ≤ length (drop p section) = grind (arith, nat_tests) in
        let unreserved : number_in 4 (drop p section) < first_reserved_length = grind (arith, nat_tests) in
        let fits : number_in 4 (drop p section) ≤ length (drop (p + 4) section) = grind (arith, nat_tests) in
        inl (record { size = number_in 4 (drop p section); is = refl; free = unreserved; within = omega arith })

    from : (b : Bool) → nat_lt (length (drop p section)) 4 ≡ b → Sized section p ⊎ (part_from (at_offset section p missing) ≡ Err missing)
    from true few = inr (rw few refl)
    from false four = sized (nat_le first_reserved_length (number_in 4 (drop p section))) (nat_lt (length (drop (p + 4) section)) (number_in 4 (drop p section))) four refl refl

-- ---- steps of the chain

pub sized_length : (section : List ℕ) (p : ℕ) (s : Sized section p) → length (drop (p + 4) (take (p + 4 + s.size) section)) ≡ s.size
sized_length section p s =
    let within = s.within in
    omega (arith, length-drop (p + 4) (take (p + 4 + s.size) section), length-take (p + 4 + s.size) section, length-drop p section)

pub step_zero : (z : ZeroLength) (m : ℕ) (section : List ℕ) (p : ℕ) (missing : FrameFault) (s : Sized section p) → s.size ≡ 0 → chain_from z (suc m) (at_offset section p missing) ≡ at_zero z (chain_from z m (at_offset section (p + 4 + s.size) (record { offset = p })))
unfolding chain_from
step_zero z m section p missing s none =
    let within = s.within in
    rw (not_zero (length (drop p section)) (omega arith), part_sized section p (record { offset = p }) s, eq-eqb (length (drop (p + 4) (take (p + 4 + s.size) section))) 0 (sized_length section p s ∙ none)) refl

pub step_on : (z : ZeroLength) (m : ℕ) (section : List ℕ) (p : ℕ) (missing : FrameFault) (s : Sized section p) → 0 < s.size
    → chain_from z (suc m) (at_offset section p missing) ≡ before_others (record { offset = p; end = p + 4 + s.size }) (chain_from z m (at_offset section (p + 4 + s.size) (record { offset = p })))
unfolding chain_from
step_on z m section p missing s some =
    let within = s.within in
    let long = sized_length section p s in
    rw (not_zero (length (drop p section)) (omega arith), part_sized section p (record { offset = p }) s, not_zero (length (drop (p + 4) (take (p + 4 + s.size) section))) (omega arith)) refl

step_fault : (z : ZeroLength) (m : ℕ) (section : List ℕ) (p : ℕ) (missing : FrameFault) → 0 < length (drop p section) → part_from (at_offset section p (record { offset = p })) ≡ Err (record { offset = p }) → chain_from z (suc m) (at_offset section p missing) ≡ ([], Some (record { offset = p }))
unfolding chain_from
step_fault z m section p missing some faulty = rw (not_zero (length (drop p section)) some, faulty) refl

-- ---- the entries from an offset on, to the section's end

abbrev pub Chain : List ℕ → ℕ → List Extent → Type 0
Chain section p es = (missing : FrameFault) (room : ℕ) → length (drop p section) ≤ room → chain_from PassedOver room (at_offset section p missing) ≡ (es, None)

pub chain_end : (section : List ℕ) (p : ℕ) → length section ≤ p → Chain section p []
chain_end section p le missing room enough = step_end PassedOver room (at_offset section p missing) (omega (arith, length-drop p section))

pub chain_over : (section : List ℕ) (p : ℕ) (es : List Extent) (s : Sized section p) → s.size ≡ 0 → Chain section (p + 4 + s.size) es → Chain section p es
chain_over section p es s none then missing zero enough = let within = s.within in absurd (omega arith)
chain_over section p es s none then missing (suc room) enough =
    let within = s.within in
    step_zero PassedOver room section p missing s none ∙ then (record { offset = p }) room (omega (arith, length-drop p section, length-drop (p + 4 + s.size) section))

pub chain_on : (section : List ℕ) (p : ℕ) (es : List Extent) (s : Sized section p) → 0 < s.size → Chain section (p + 4 + s.size) es → Chain section p (record { offset = p; end = p + 4 + s.size } ∷ es)
chain_on section p es s some then missing zero enough = let within = s.within in absurd (omega arith)
chain_on section p es s some then missing (suc room) enough =
    let within = s.within in
    step_on PassedOver room section p missing s some
    ∙ ap (before_others (record { offset = p; end = p + 4 + s.size })) (then (record { offset = p }) room (omega (arith, length-drop p section, length-drop (p + 4 + s.size) section)))

pub chain_whole : (section : List ℕ) (es : List Extent) → Chain section 0 es → extents_of section ≡ (es, None)
chain_whole section es chain = chain (record { offset = 0 }) (length section) (omega arith)

pub chain_moved : (section : List ℕ) (p q : ℕ) (es : List Extent) → p ≡ q → Chain section p es → Chain section q es
chain_moved section p q es same chain = let P : ℕ → Type 0 = λ n. Chain section n es in subst P same chain

-- ---- zeros are passed over

pub drop_behind : (section : List ℕ) (p : ℕ) (front rest : List ℕ) → drop p section ≡ front ++ rest → drop (p + length front) section ≡ rest
drop_behind section p front rest is = drop_on p (length front) section ∙ ap (λ (xs : List ℕ). drop (length front) xs) is ∙ drop_front front rest

pub chain_zeros : (k : ℕ) (section : List ℕ) (p : ℕ) (es : List Extent) (rest : List ℕ) → drop p section ≡ replicate (4 * k) 0 ++ rest → Chain section (p + 4 * k) es → Chain section p es
chain_zeros zero section p es rest is then = chain_moved section (p + 4 * 0) p es (omega arith) then
chain_zeros (suc k) section p es rest is then =
    chain_over section p es here refl (chain_zeros k section (p + 4 + 0) es rest behind (chain_moved section (p + 4 * suc k) (p + 4 + 0 + 4 * k) es (omega arith) then))
  where
    front : List ℕ
    front = 0 ∷ 0 ∷ 0 ∷ 0 ∷ []

    split : drop p section ≡ (0 ∷ 0 ∷ 0 ∷ 0 ∷ []) ++ (replicate (4 * k) 0 ++ rest)
    split =
        is
        ∙ ap (λ (n : ℕ). replicate n 0 ++ rest) (let e : 4 * suc k ≡ 4 + 4 * k = omega arith in e)
        ∙ ap (λ (xs : List ℕ). xs ++ rest) (sym (replicate-append-replicate 4 (4 * k) 0))
        ∙ append_assoc (replicate 4 0) (replicate (4 * k) 0) rest

    here : Sized section p
    here = record {
      size = 0;
      is = ap (λ (xs : List ℕ). number_in 4 xs) split ∙ (let e : number_in 4 ((0 ∷ 0 ∷ 0 ∷ 0 ∷ []) ++ (replicate (4 * k) 0 ++ rest)) ≡ 0 = omega arith in e);
      free = omega arith;
      within = let size : length (drop p section) ≡ 4 + length (replicate (4 * k) 0 ++ rest) = ap (λ (xs : List ℕ). length xs) split ∙ (omega arith) in omega arith;
    }

    behind : drop (p + 4 + 0) section ≡ replicate (4 * k) 0 ++ rest
    behind = ap (λ (n : ℕ). drop n section) (let e : p + 4 + 0 ≡ p + 4 = omega arith in e) ∙ drop_behind section p (0 ∷ 0 ∷ 0 ∷ 0 ∷ []) (replicate (4 * k) 0 ++ rest) split

-- ---- the entries of a front stay

abbrev pub sized_joined : (section behind : List ℕ) (p : ℕ) → p ≤ length section → Sized section p → Sized (section ++ behind) p
sized_joined section behind p le s =
    let within = s.within in
    let longer : drop p (section ++ behind) ≡ drop p section ++ behind = drop-append-le p section behind le in
    let count : length (drop p (section ++ behind)) ≡ length (drop p section) + length behind = ap (λ (xs : List ℕ). length xs) longer ∙ length-append (drop p section) behind in
    record {
      size = s.size;
      is = ap (λ (xs : List ℕ). number_in 4 xs) longer ∙ little_from-append 4 (drop p section) behind (omega arith) ∙ s.is;
      free = s.free;
      within = omega arith;
    }

no_more : (es : List Extent) → (let u : List Extent × Option FrameFault = ([], None) in u) ≡ (es, None) → [] ≡ es
no_more es e = ap (λ (x : List Extent × Option FrameFault). x.0) e

joined_end : (section behind : List ℕ) (p : ℕ) (es later : List Extent) → [] ≡ es → p ≤ length section → length (drop p section) ≡ 0 → Chain (section ++ behind) (length section) later → Chain (section ++ behind) p (es ++ later)
joined_end section behind p es later none le empty then =
    let here : length section ≡ p = omega (arith, length-drop p section) in
    let P : List Extent → Type 0 = λ xs. Chain (section ++ behind) p (xs ++ later) in
    subst P none (chain_moved (section ++ behind) (length section) p later here then)

pub chain_joined : (n : ℕ) (section behind : List ℕ) (p : ℕ) (missing : FrameFault) (es later : List Extent) → p ≤ length section → length (drop p section) ≤ n → chain_from PassedOver n (at_offset section p missing) ≡ (es, None)
    → Chain (section ++ behind) (length section) later → Chain (section ++ behind) p (es ++ later)
chain_joined zero section behind p missing es later le enough e then =
    let empty : length (drop p section) ≡ 0 = omega arith in
    joined_end section behind p es later (no_more es (sym (step_end PassedOver zero (at_offset section p missing) empty) ∙ e)) le empty then
chain_joined (suc n) section behind p missing es later le enough e then =
    go (length (drop p section) == 0) refl (part_either section p (record { offset = p })) (λ q more inside few read. chain_joined n section behind q (record { offset = p }) more later inside few read then)
  where
    Again : Type 0
    Again = (q : ℕ) (more : List Extent) → q ≤ length section → length (drop q section) ≤ n → chain_from PassedOver n (at_offset section q (record { offset = p })) ≡ (more, None) → Chain (section ++ behind) q (more ++ later)

    over : (s : Sized section p) → s.size ≡ 0 → Again → Chain (section ++ behind) p (es ++ later)
    over s none again =
        let within = s.within in
        let q : ℕ = p + 4 + s.size in
        chain_over (section ++ behind) p (es ++ later) (sized_joined section behind p le s) none
        (again q es (omega (arith, length-drop p section)) (omega (arith, length-drop p section, length-drop (p + 4 + s.size) section)) (sym (step_zero PassedOver n section p missing s none) ∙ e))

    on : (s : Sized section p) → 0 < s.size → Again → Chain (section ++ behind) p (es ++ later)
    on s some again =
        let within = s.within in
        let q : ℕ = p + 4 + s.size in
        let others : List Extent × Option FrameFault = chain_from PassedOver n (at_offset section q (record { offset = p })) in
        let first : Extent = record { offset = p; end = q } in
        let read : before_others first others ≡ (es, None) = sym (step_on PassedOver n section p missing s some) ∙ e in
        let whole : first ∷ others.0 ≡ es = ap (λ (x : List Extent × Option FrameFault). x.0) read in
        let sound : others ≡ (others.0, None) = ap (λ (x : List Extent × Option FrameFault). (others.0, x.1)) read in
        let P : List Extent → Type 0 = λ xs. Chain (section ++ behind) p (xs ++ later) in
        subst P whole (chain_on (section ++ behind) p (others.0 ++ later) (sized_joined section behind p le s) some
        (again q others.0 (omega (arith, length-drop p section)) (omega (arith, length-drop p section, length-drop (p + 4 + s.size) section)) sound))

    sized : (s : Sized section p) (b : Bool) → (s.size == 0) ≡ b → Again → Chain (section ++ behind) p (es ++ later)
    sized s true none again = over s (eqb-true s.size 0 none) again
    sized s false some again = on s (above_zero s.size some) again

    go : (b : Bool) → (length (drop p section) == 0) ≡ b → Sized section p ⊎ (part_from (at_offset section p (record { offset = p })) ≡ Err (record { offset = p })) → Again → Chain (section ++ behind) p (es ++ later)
    go true none either again =
        let empty = eqb-true (length (drop p section)) 0 none in
        joined_end section behind p es later (no_more es (sym (step_end PassedOver (suc n) (at_offset section p missing) empty) ∙ e)) le empty then
    go false some (inl s) again = sized s (s.size == 0) refl again
    go false some (inr faulty) again =
        let wrong : (let u : List Extent × Option FrameFault = ([], Some (record { offset = p })) in u) ≡ (es, None) = sym (step_fault PassedOver n section p missing (above_zero (length (drop p section)) some) faulty) ∙ e in
        let broken : (let u : Option FrameFault = Some (record { offset = p }) in u) ≡ None = ap (λ (x : List Extent × Option FrameFault). x.1) wrong in
        absurd cc

pub ends_within : (z : ZeroLength) (n : ℕ) (section : List ℕ) (p : ℕ) (missing : FrameFault) (x : Extent) → p ≤ length section → IsIn x (chain_from z n (at_offset section p missing)).0 → x.end ≤ length section
unfolding chain_from
ends_within z zero section p missing x le is = absurd is
ends_within z (suc n) section p missing x le is =
    go (length (drop p section) == 0) refl (part_either section p (record { offset = p })) (λ q inside there. ends_within z n section q (record { offset = p }) x inside there)
  where
    P : List Extent × Option FrameFault → Type 0
    P c = IsIn x c.0

    Again : Type 0
    Again = (q : ℕ) → q ≤ length section → P (chain_from z n (at_offset section q (record { offset = p }))) → x.end ≤ length section

    first : (s : Sized section p) → ((let e : Extent = record { offset = p; end = p + 4 + s.size } in e) ≡ x) ⊎ P (chain_from z n (at_offset section (p + 4 + s.size) (record { offset = p }))) → Again → x.end ≤ length section
    first s (inl same) again =
        let within = s.within in
        let end : p + 4 + s.size ≡ x.end = ap (λ (y : Extent). y.end) same in
        omega (arith, length-drop p section)
    first s (inr there) again = let within = s.within in again (p + 4 + s.size) (omega (arith, length-drop p section)) there

    over : (y : ZeroLength) (others : List Extent × Option FrameFault) → P (at_zero y others) → (P others → x.end ≤ length section) → x.end ≤ length section
    over PassedOver others there again = again there
    over EndsList others there again = absurd there

    sized : (s : Sized section p) (b : Bool) → (s.size == 0) ≡ b → Again → x.end ≤ length section
    sized s true none again =
        let within = s.within in
        over z (chain_from z n (at_offset section (p + 4 + s.size) (record { offset = p }))) (subst P (step_zero z n section p missing s (eqb-true s.size 0 none)) is)
        (λ there. again (p + 4 + s.size) (omega (arith, length-drop p section)) there)
    sized s false some again = first s (subst P (step_on z n section p missing s (above_zero s.size some)) is) again

    go : (b : Bool) → (length (drop p section) == 0) ≡ b → Sized section p ⊎ (part_from (at_offset section p (record { offset = p })) ≡ Err (record { offset = p })) → Again → x.end ≤ length section
    go true none either again = absurd (subst P (step_end z (suc n) (at_offset section p missing) (eqb-true (length (drop p section)) 0 none)) is)
    go false some (inl s) again = sized s (s.size == 0) refl again
    go false some (inr faulty) again = absurd (subst P (step_fault z n section p missing (above_zero (length (drop p section)) some) faulty) is)
