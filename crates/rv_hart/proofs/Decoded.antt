-- What is kept decoded is what a fetch gives.
use Rattle.std.proofs.Common.{◌≡◌, ◌≢◌, true, ℕ, suc, ◌+◌, ◌*◌, ◌%◌, ◌^◌, ◌<◌, ◌≤◌, ◌&&◌, inl, inr, ◌⊎◌, Bool, List, [], ◌∷◌, cond, length, take, drop, get_or, Option, Some, None, IfSome, Bor, option_map, refl, sym, ap, ap₂, subst, ◌∙◌, arith}
use Rattle.std.specs.Option.{option_copied}
use Rattle.std.proofs.lemmas.Bool.{cases_eq, eq-eqb, le-leb}
use Rattle.std.proofs.lemmas.List.{get_or-replicate, get_or-set_other, get_or-set_same, length-replicate, length-set}
use Rattle.std.proofs.lemmas.List.Elements.{All-get_or}
use Rattle.std.proofs.lemmas.Option.{get_or_from_slice_get, slice_get_within}
use Rattle.std.specs.Prelude.{replicate, slice_get}
use Rattle.std.proofs.Math.ListN.{set}
use Rattle.prof_bytes.specs.Number.{number_in}
use Rattle.elf_image.specs.declared.part.Segment.{Segment}
use Rattle.elf_image.specs.declared.elf.TheConstants.{PF_W}
use Rattle.rv_table.specs.declared.inst.Inst.{Inst}
use Rattle.rv_table.specs.declared.inst.Op.TheVariants as ops
use Rattle.rv_table.specs.Table.{HasRegisters, decoded}
use Rattle.rv_memory.specs.AddressSpace.{AddressSpace, byte_at, fetched_at, grants, is_fetched_from, memory_number, region_at, IsRegionOf}
use Rattle.rv_memory.proofs.Contiguous.{spelled, part-get, part-length}
use Rattle.rv_hart.specs.declared.decoded_code.DecodedCode.{DecodedCode}
use Rattle.rv_hart.specs.private.Decoding.{end, IsFixedCode, IsDecodedAt, IsKeptAt, IsCode, AreCode, IsWordAt, HasWordAt, HasInstructionAt}
use Rattle.rv_hart.specs.private.Indexing.{word_address}

-- the word among bytes of memory
word-number : (memory : AddressSpace) (base k : ℕ) (bytes : List ℕ) → ((i : ℕ) → i < length bytes → get_or bytes i 0 ≡ byte_at memory (base + i)) → 4 * k + 4 ≤ length bytes → number_in 4 (take 4 (drop (4 * k) bytes)) ≡ memory_number memory (base + 4 * k) 4
word-number memory base k bytes each within =
    ap (number_in 4)
    (spelled (take 4 (drop (4 * k) bytes)) (byte_at memory) (base + 4 * k) 4 (part-length bytes (4 * k) 4 within)
    (λ i few.
    part-get bytes (4 * k) 4 i few
    ∙ each (4 * k + i) (omega (arith, few, within))
    ∙ ap (byte_at memory) (let e : base + (4 * k + i) ≡ base + 4 * k + i = omega arith in e)))

-- an address that a region holds has it as its region
held : (regions : List Segment) (region : Segment) (at : ℕ) → IsRegionOf regions region → region.start ≤ at → at < region.end → region_at regions at ≡ Some region
held regions region at own low high = own at (ap₂ (λ (a b : Bool). a && b) (le-leb region.start at low) (le-leb (suc at) region.end high))

-- a word of a region that may be executed and not written
pub word-decoded : (memory : AddressSpace) (region : Segment) (base k : ℕ) (bytes : List ℕ) (inst : Inst) → IsRegionOf memory.regions region → IsFixedCode region base → base % 4 ≡ 0 → base + length bytes ≤ region.end → ((i : ℕ) → i < length bytes → get_or bytes i 0 ≡ byte_at memory (base + i)) → 4 * k + 4 ≤ length bytes
    → inst ≡ decoded (number_in 4 (take 4 (drop (4 * k) bytes))) → IsDecodedAt memory (base + 4 * k) inst
word-decoded memory region base k bytes inst own code aligned inside each within is =
    let at : ℕ = base + 4 * k in
    let start = code.low in
    let top = code.top in
    let low : at + 4 ≤ 2 ^ 32 = omega (arith, top, inside, within) in
    let found : (i : ℕ) → i < 4 → region_at memory.regions (at + i) ≡ Some region =
    λ i few. held memory.regions region (at + i) own (omega (arith, start)) (omega (arith, few, inside, within)) in
    let here : region_at memory.regions at ≡ Some region = held memory.regions region at own (omega (arith, start)) (omega (arith, inside, within)) in
    let fetched : is_fetched_from at (region_at memory.regions at) ≡ true =
    ap (is_fetched_from at) here ∙ ap₂ (λ (a b : Bool). a && b) code.executable (le-leb (at + 4) region.end (omega (arith, inside, within))) in
    let divided : at % 4 ≡ 0 = omega (arith, aligned) in
    record {
      low = low;
      fixed = λ i few. ap (grants PF_W) (found i few) ∙ code.fixed;
      word =
          ap (λ (t : Bool). option_map decoded (cond t (Some (memory_number memory at 4)) None)) (ap₂ (λ (a b : Bool). a && b) (eq-eqb (at % 4) 0 divided) fetched)
          ∙ ap (λ (n : ℕ). Some (decoded n)) (sym (word-number memory base k bytes each within))
          ∙ ap (λ (i : Inst). Some i) (sym is);
    }

-- no instruction at an index
none-at : (memory : AddressSpace) (base count index : ℕ) → IsKeptAt memory base count index end
none-at memory base count index =
    record {
      registers = record { rd = omega arith; rs1 = omega arith; rs2 = omega arith };
      followed = λ other. absurd (other refl);
      decoded = λ other. absurd (other refl);
    }

-- words of which none is decoded yet
pub none-decoded : (memory : AddressSpace) (base count : ℕ) → base % 4 ≡ 0 → IsCode memory base (replicate count end)
none-decoded memory base count aligned = record {
  aligned = aligned;
  kept = λ k d few.
      subst (IsKeptAt memory base (length (replicate count end)) k)
      (sym (get_or-replicate count k end d (subst (λ (n : ℕ). k < n) (length-replicate count end) few)))
      (none-at memory base (length (replicate count end)) k);
}

-- one more word is decoded
pub more-decoded : (memory : AddressSpace) (base index : ℕ) (items : List Inst) (inst : Inst) → IsCode memory base items → index + 1 < length items → HasRegisters inst → IsDecodedAt memory (base + 4 * index) inst → IsCode memory base (set items index inst)
more-decoded memory base index items inst code within registers here = record {
  aligned = code.aligned;
  kept = λ k d few.
      subst (λ (n : ℕ). IsKeptAt memory base n k (get_or (set items index inst) k d)) (sym (length-set items index inst))
      (at k d (subst (λ (n : ℕ). k < n) (length-set items index inst) few) (cases_eq k index));
}
  where
    at : (k : ℕ) (d : Inst) → k < length items → (k ≡ index) ⊎ (k ≢ index) → IsKeptAt memory base (length items) k (get_or (set items index inst) k d)
    at k d few (inl same) =
        subst (λ (j : ℕ). IsKeptAt memory base (length items) j (get_or (set items index inst) j d)) (sym same)
        (subst (IsKeptAt memory base (length items) index) (sym (get_or-set_same items index inst d (omega (arith, within))))
        record { registers = registers; followed = λ _. within; decoded = λ _. here })
    at k d few (inr other) =
        subst (IsKeptAt memory base (length items) k) (sym (get_or-set_other items index k inst d other)) (code.kept k d few)

-- what is found is what was kept
pub found-code : (memory : AddressSpace) (codes : List DecodedCode) (i : ℕ) (found : Option (Bor DecodedCode)) → AreCode memory codes → option_copied found ≡ slice_get codes i → IfSome found (λ code. IsCode memory code.now.base code.now.items.items)
found-code memory codes i None all is = tt
found-code memory codes i (Some code) all is =
    subst (λ (c : DecodedCode). IsCode memory c.base c.items.items) (get_or_from_slice_get codes i code.now code.now (sym is))
    (All-get_or (λ c. IsCode memory c.base c.items.items) codes i code.now (slice_get_within codes i code.now (sym is)) all)

-- at each index is a word of its region, or no instruction
pub words-at : (memory : AddressSpace) (base : ℕ) (items : List Inst) → IsCode memory base items → (index : ℕ) → index < length items → (d : Inst) → IsWordAt memory base items index (get_or items index d)
words-at memory base items code index within d =
    let kept : IsKeptAt memory base (length items) index (get_or items index d) = code.kept index d within in
    record {
      registers = kept.registers;
      followed = kept.followed;
      word = λ other.
          let here : IsDecodedAt memory (base + 4 * index) (get_or items index d) = kept.decoded other in
          let low = here.low in
          let at : word_address base index ≡ base + 4 * index = omega (arith, low) in
          ap (λ (a : ℕ). option_map decoded (fetched_at memory a)) at ∙ here.word;
    }

-- a word at an index
pub word-here : (memory : AddressSpace) (base : ℕ) (items : List Inst) (index : ℕ) (inst : Inst) → HasWordAt memory base items index → ((d : Inst) → inst ≡ get_or items index d) → IsWordAt memory base items index inst
word-here memory base items index inst has is = subst (IsWordAt memory base items index) (sym (is inst)) (has.1 inst)

-- the one word of a run of one instruction
pub one-word : (memory : AddressSpace) (pc : ℕ) (inst : Inst) → word_address pc 0 ≡ pc → option_map decoded (fetched_at memory pc) ≡ Some inst → HasRegisters inst → inst.op ≢ ops.Illegal → HasInstructionAt memory pc (inst ∷ end ∷ []) 0
one-word memory pc inst here fetched registers other =
    ((omega arith, λ d. record { registers = registers; followed = λ _. omega arith; word = λ _. ap (λ (a : ℕ). option_map decoded (fetched_at memory a)) here ∙ fetched }), λ d. other)
