-- What may not be written does not change.
use Rattle.std.proofs.Common.{◌≡◌, ℕ, zero, suc, ◌+◌, ◌*◌, ◌-◌, ◌%◌, ◌^◌, ◌<◌, ◌≤◌, ◌==◌, ◌&&◌, Bool, true, false, cond, List, map, length, slice_index, Some, None, option_map, Result, Ok, Err, IfOk, OnErr, nat_le, nat_lt, refl, sym, ap, ap₂, subst, ◌∙◌, arith}
use Rattle.std.specs.List.{range_with_len}
use Rattle.std.proofs.lemmas.Bool.{leb-true, ltb-true, and_parts}
use Rattle.std.proofs.lemmas.List.{ext_get_or}
use Rattle.std.proofs.lemmas.List.FromFn.{get_or-map-range_with_len, length-map-range_with_len}
use Rattle.prof_bytes.specs.declared.fail.Memory.{Memory}
use Rattle.prof_bytes.specs.Number.{number_in}
use Rattle.elf_image.specs.declared.part.Segment.{Segment}
use Rattle.elf_image.specs.declared.elf.TheConstants.{PF_W}
use Rattle.rv_table.specs.declared.inst.Inst.{Inst}
use Rattle.rv_table.specs.Table.{decoded}
use Rattle.rv_memory.specs.AddressSpace.{AddressSpace, byte_at, byte_after, fetched_at, is_fetched_from, may, may_all, region_at, stored, written}
use Rattle.rv_memory.proofs.Bytes.{byte-each}
use Rattle.rv_memory.proofs.Contiguous.{all-each}
use Rattle.rv_hart.specs.declared.outcome.Stepped.{Stepped}
use Rattle.rv_hart.specs.declared.decoded_code.DecodedCode.{DecodedCode}
use Rattle.rv_hart.specs.Running.{after_steps, Ran}
use Rattle.rv_hart.specs.Step.{State, finishes_store, step_of}
use Rattle.rv_hart.specs.private.Decoding.{KeepsFixed, IsDecodedAt, IsCode, AreCode}
use Rattle.rv_hart.proofs.Runs.{ran-none}
use Rattle.rv_hart.proofs.StepCases.{HoldsOfEnds, of_step}

pub fixed-same : (m : AddressSpace) → KeepsFixed m m
fixed-same m = record { regions = refl; bytes = λ at low fixed. refl }

fixed-twice : (m n o : AddressSpace) → KeepsFixed m n → KeepsFixed n o → KeepsFixed m o
fixed-twice m n o first second = record {
  regions = second.regions ∙ first.regions;
  bytes = λ at low fixed. second.bytes at low (ap (λ (r : List Segment). may PF_W r at) first.regions ∙ fixed) ∙ first.bytes at low fixed;
}

-- ---- a store

-- whether an address is one of those written
out-of : (start at count : ℕ) → (start ≤ at → at < start + count → ⊥) → (nat_le start at && nat_lt at (start + count)) ≡ false
out-of start at count none = by_case (nat_le start at && nat_lt at (start + count)) refl
  where
    by_case : (b : Bool) → (nat_le start at && nat_lt at (start + count)) ≡ b → (nat_le start at && nat_lt at (start + count)) ≡ false
    by_case false e = e
    by_case true e = let tests = and_parts _ _ e in absurd (none (leb-true start at tests.0) (ltb-true at (start + count) tests.1))

byte-kept : (m : AddressSpace) (start at : ℕ) (bytes : List ℕ) → may_all PF_W m start (length bytes) ≡ true → at < 2 ^ 32 → may PF_W m.regions at ≡ false → byte_at (written m start bytes) at ≡ byte_at m at
byte-kept m start at bytes granted low fixed =
    byte-each (byte_after m start bytes) at low
    ∙ ap (λ (t : Bool). cond t (slice_index bytes (at - start)) (byte_at m at))
    (out-of start at (length bytes) (λ above below.
    let same : start + (at - start) ≡ at = omega (arith, above) in
    let writable : may PF_W m.regions at ≡ true = ap (may PF_W m.regions) (sym same) ∙ all-each (may PF_W m.regions) start (length bytes) (at - start) granted (omega (arith, above, below)) in
    let clash : true ≡ false = sym writable ∙ fixed in
    absurd cc))

stored-fixed : (m : AddressSpace) (start : ℕ) (bytes : List ℕ) → KeepsFixed m (stored m start bytes).1
stored-fixed m start bytes = by_case (may_all PF_W m start (length bytes)) refl
  where
    by_case : (b : Bool) → may_all PF_W m start (length bytes) ≡ b → KeepsFixed m (stored m start bytes).1
    by_case true e =
        subst (λ (t : Bool). let q : Bool × AddressSpace = cond t (true, written m start bytes) (false, m) in KeepsFixed m q.1) (sym e)
        record { regions = refl; bytes = λ at low fixed. byte-kept m start at bytes e low fixed }
    by_case false e =
        subst (λ (t : Bool). let q : Bool × AddressSpace = cond t (true, written m start bytes) (false, m) in KeepsFixed m q.1) (sym e) (fixed-same m)

pub store-fixed : (m n : AddressSpace) (start : ℕ) (bytes : List ℕ) (r : Result Bool Memory) → IfOk r (λ answer. ◌≡◌ {A = Bool × AddressSpace} (answer, n) (stored m start bytes)) → OnErr r (n ≡ m) → KeepsFixed m n
store-fixed m n start bytes (Ok answer) ok err = subst (λ (q : Bool × AddressSpace). KeepsFixed m q.1) (sym ok) (stored-fixed m start bytes)
store-fixed m n start bytes (Err e) ok err = subst (KeepsFixed m) (sym err) (fixed-same m)

-- ---- a step

abbrev pub FixedBy : State → State × Stepped → Type 0
FixedBy s r = KeepsFixed s.memory r.0.memory

put : (answer : Bool × AddressSpace) (s : State) → KeepsFixed s.memory answer.1 → FixedBy s (finishes_store answer s)
put (true, m) s kept = kept
put (false, m) s kept = fixed-same s.memory

ends : (s : State) → HoldsOfEnds (FixedBy s) s
ends s = record {
  trap = λ why. fixed-same s.memory;
  call = fixed-same s.memory;
  stop = fixed-same s.memory;
  result = λ inst value next. fixed-same s.memory;
  going_on = λ next. fixed-same s.memory;
  store = λ at bytes. put (stored s.memory at bytes) s (stored-fixed s.memory at bytes);
}

steps-fixed : (count : ℕ) (s : State) → KeepsFixed s.memory (after_steps count s).memory
unfolding after_steps
steps-fixed zero s = fixed-same s.memory
steps-fixed (suc count) s =
    fixed-twice s.memory (after_steps count s).memory (step_of (after_steps count s)).0.memory (steps-fixed count s)
    (of_step (FixedBy (after_steps count s)) (after_steps count s) (ends (after_steps count s)))

pub ran-fixed : (count : ℕ) (s t : State) → Ran count s t → KeepsFixed s.memory t.memory
ran-fixed count s t ran = subst (λ (u : State). KeepsFixed s.memory u.memory) (sym ran.state) (steps-fixed count s)

-- an instruction that ran, or changed nothing
pub one-fixed : (is : Bool) (s t : State) → (is ≡ true → Ran 1 s t) → (is ≡ false → t ≡ s) → KeepsFixed s.memory t.memory
one-fixed true s t ran same = ran-fixed 1 s t (ran refl)
one-fixed false s t ran same = ran-fixed 0 s t (subst (Ran 0 s) (sym (same refl)) (ran-none s))

-- ---- what is decoded

number-kept : (m n : AddressSpace) (at : ℕ) → KeepsFixed m n → at + 4 ≤ 2 ^ 32 → ((i : ℕ) → i < 4 → may PF_W m.regions (at + i) ≡ false) → map (byte_at n) (range_with_len at 4) ≡ map (byte_at m) (range_with_len at 4)
number-kept m n at kept low fixed =
    ext_get_or 0 (map (byte_at n) (range_with_len at 4)) (map (byte_at m) (range_with_len at 4))
    (length-map-range_with_len (byte_at n) at 4 ∙ sym (length-map-range_with_len (byte_at m) at 4))
    (λ i within.
    let few : i < 4 = omega (arith, within, length-map-range_with_len (byte_at n) at 4) in
    get_or-map-range_with_len (byte_at n) at 4 i (at + i) 0 few refl
    ∙ kept.bytes (at + i) (omega (arith, few, low)) (fixed i few)
    ∙ sym (get_or-map-range_with_len (byte_at m) at 4 i (at + i) 0 few refl))

fetched-kept : (m n : AddressSpace) (at : ℕ) → KeepsFixed m n → at + 4 ≤ 2 ^ 32 → ((i : ℕ) → i < 4 → may PF_W m.regions (at + i) ≡ false) → fetched_at n at ≡ fetched_at m at
fetched-kept m n at kept low fixed =
    ap₂ (λ (r : List Segment) (b : List ℕ). cond (at % 4 == 0 && is_fetched_from at (region_at r at)) (Some (number_in 4 b)) None) kept.regions (number-kept m n at kept low fixed)

decoded-kept : (m n : AddressSpace) (at : ℕ) (inst : Inst) → KeepsFixed m n → IsDecodedAt m at inst → IsDecodedAt n at inst
decoded-kept m n at inst kept is = record {
  low = is.low;
  fixed = λ i few. ap (λ (r : List Segment). may PF_W r (at + i)) kept.regions ∙ is.fixed i few;
  word = ap (option_map decoded) (fetched-kept m n at kept is.low is.fixed) ∙ is.word;
}

pub code-kept : (m n : AddressSpace) (base : ℕ) (items : List Inst) → KeepsFixed m n → IsCode m base items → IsCode n base items
code-kept m n base items kept is = record {
  aligned = is.aligned;
  kept = λ k d few. record {
    registers = (is.kept k d few).registers;
    followed = (is.kept k d few).followed;
    decoded = λ other. decoded-kept m n (base + 4 * k) _ kept ((is.kept k d few).decoded other);
  };
}

pub codes-kept : (m n : AddressSpace) (codes : List DecodedCode) → KeepsFixed m n → AreCode m codes → AreCode n codes
codes-kept m n codes kept all = λ k d few. code-kept m n _ _ kept (all k d few)
