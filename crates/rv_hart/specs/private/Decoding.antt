-- Words that are kept decoded. They lie in regions that may be executed and not written, so that no store changes them.
use Rattle.std.specs.Prelude.{◌≡◌, ◌≢◌, ℕ, ◌+◌, ◌*◌, ◌%◌, ◌^◌, ◌<◌, ◌≤◌, true, false, List, length, All}
use Rattle.std.specs.Prelude.{Some, option_map}
use Rattle.std.specs.List.{slice_index_or}
use Rattle.elf_image.specs.declared.part.Segment.{Segment}
use Rattle.elf_image.specs.declared.elf.TheConstants.{PF_W, PF_X}
use Rattle.rv_table.specs.declared.inst.Inst.{Inst}
use Rattle.rv_table.specs.declared.inst.Op.TheVariants as ops
use Rattle.rv_table.specs.Table.{HasRegisters, decoded}
use Rattle.rv_memory.specs.AddressSpace.{AddressSpace, byte_at, fetched_at, has, may}
use Rattle.rv_hart.specs.declared.decoded_code.DecodedCode.{DecodedCode}
use Rattle.rv_hart.specs.private.Indexing.{word_address}

-- memory with the same regions, and the same bytes where nothing may be written
pub record KeepsFixed (old new : AddressSpace) : Type 0 where
  pub regions : new.regions ≡ old.regions
  pub bytes : (at : ℕ) → at < 2 ^ 32 → may PF_W old.regions at ≡ false → byte_at new at ≡ byte_at old at

-- a region that may be executed and not written, and an address in it or at its end
pub record IsFixedCode (region : Segment) (base : ℕ) : Type 0 where
  pub executable : has PF_X region ≡ true
  pub fixed : has PF_W region ≡ false
  pub low : region.start ≤ base
  pub high : base ≤ region.end
  pub top : region.end < 2 ^ 32

-- the word that is fetched at an address, decoded, where nothing may be written
pub record IsDecodedAt (memory : AddressSpace) (at : ℕ) (inst : Inst) : Type 0 where
  pub low : at + 4 ≤ 2 ^ 32
  pub fixed : (i : ℕ) → i < 4 → may PF_W memory.regions (at + i) ≡ false
  pub word : option_map decoded (fetched_at memory at) ≡ Some inst

-- no instruction
abbrev pub end : Inst
end = record { op = ops.Illegal; rd = 0; rs1 = 0; rs2 = 0; imm = 0 }

-- what is kept at an index of so many words from an address on: no instruction, or the word that is fetched there,
-- decoded, which is not the last
pub record IsKeptAt (memory : AddressSpace) (base count index : ℕ) (inst : Inst) : Type 0 where
  pub registers : HasRegisters inst
  pub followed : inst.op ≢ ops.Illegal → index + 1 < count
  pub decoded : inst.op ≢ ops.Illegal → IsDecodedAt memory (base + 4 * index) inst

-- words from an address on, one for each four addresses
pub record IsCode (memory : AddressSpace) (base : ℕ) (items : List Inst) : Type 0 where
  pub aligned : base % 4 ≡ 0
  pub kept : (k : ℕ) (d : Inst) → k < length items → IsKeptAt memory base (length items) k (slice_index_or items k d)

-- what is kept of several regions
abbrev pub AreCode : AddressSpace → List DecodedCode → Type 0
AreCode memory codes = All (λ code. IsCode memory code.base code.items.items) codes

-- there is an instruction at this index
abbrev pub IsInstruction : List Inst → ℕ → Type 0
IsInstruction items index = (d : Inst) → (slice_index_or items index d).op ≢ ops.Illegal

-- what is kept at an index is the word that is fetched there, and it is not the last, unless it is no instruction
pub record IsWordAt (memory : AddressSpace) (base : ℕ) (items : List Inst) (index : ℕ) (inst : Inst) : Type 0 where
  pub registers : HasRegisters inst
  pub followed : inst.op ≢ ops.Illegal → index + 1 < length items
  pub word : inst.op ≢ ops.Illegal → option_map decoded (fetched_at memory (word_address base index)) ≡ Some inst

-- there is a word at this index
abbrev pub HasWordAt : AddressSpace → ℕ → List Inst → ℕ → Type 0
HasWordAt memory base items index =
    (index < length items) × ((d : Inst) → IsWordAt memory base items index (slice_index_or items index d))

-- there is one at this index, and it is an instruction
abbrev pub HasInstructionAt : AddressSpace → ℕ → List Inst → ℕ → Type 0
HasInstructionAt memory base items index = HasWordAt memory base items index × IsInstruction items index

-- the instruction at an address, by its index among what is kept
pub record IsFoundAt (memory : AddressSpace) (code : DecodedCode) (index at : ℕ) : Type 0 where
  pub is : IsCode memory code.base code.items.items
  pub address : word_address code.base index ≡ at
  pub first : HasInstructionAt memory code.base code.items.items index
