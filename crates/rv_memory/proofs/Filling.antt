-- The bytes of a page that a region holds whole.
use Rattle.std.proofs.Common.{◌≡◌, ℕ, suc, ◌+◌, ◌-◌, ◌<◌, ◌≤◌, inl, inr, Bool, List, cond, true, length, take, drop, min, get_or, Some, sym, ap, ◌∙◌, arith}
use Rattle.std.proofs.Math.ListN.{get_or-eq_default}
use Rattle.std.proofs.lemmas.Bool.{and_parts, leb-true}
use Rattle.std.proofs.lemmas.Bool.Decides.{leb_tells}
use Rattle.std.proofs.lemmas.List.{length-take, length-drop}
use Rattle.elf_image.specs.declared.part.Segment.{Segment}
use Rattle.rv_memory.specs.AddressSpace.{byte_in}
use Rattle.rv_memory.specs.private.Paging.{covers_all}
use Rattle.rv_memory.proofs.Contiguous.{part-get}

-- a page that begins with a part of the file, and has zeros after it
pub record IsFilled (file bytes : List ℕ) (start end : ℕ) : Type 0 where
  pub part : (k : ℕ) → k < end - start → get_or bytes k 0 ≡ get_or file (start + k) 0
  pub zeros : (k : ℕ) → end - start ≤ k → k < 4096 → get_or bytes k 0 ≡ 0

pub filled-by : (file part before after : List ℕ) (start end many : ℕ) → part ≡ take (end - start) (drop start file) → end ≤ length file → end - start ≤ 4096 → before ≡ part → many ≡ length before
    → ((k : ℕ) (d : ℕ) → k < 4096 → k < many → get_or after k d ≡ get_or before k d) → ((k : ℕ) (d : ℕ) → many ≤ k → k < 4096 → get_or after k d ≡ 0) → IsFilled file after start end
filled-by file part before after start end many are low few same long below behind =
    let length_is : length before ≡ end - start = ap length (same ∙ are) ∙ (let t = length-take (end - start) (drop start file) in let u = length-drop start file in omega (arith, t, u)) in
    record {
      part = λ k inside.
          below k 0 (omega arith) (omega (arith, long, length_is)) ∙ ap (λ (xs : List ℕ). get_or xs k 0) (same ∙ are) ∙ part-get file start (end - start) k inside;
      zeros = λ k past small. behind k 0 (omega (arith, long, length_is, past)) small;
    }

in-file : (file bytes : List ℕ) (start end offset count i : ℕ) → IsFilled file bytes start end → start ≡ min offset (length file) → end ≡ min (offset + count) (length file) → i < count → i < 4096 → get_or bytes i 0 ≡ get_or file (offset + i) 0
in-file file bytes start end offset count i is from to few small =
    elim (leb_tells (suc i) (end - start)) [
      | inl inside ↦ is.part i inside.1 ∙ ap (λ (k : ℕ). get_or file k 0) (let e : start + i ≡ offset + i = omega (arith, inside.1, from, to) in e)
      | inr past ↦
          let behind : length file ≤ offset + i = omega (arith, past.1, from, to, few) in
          is.zeros i (omega (arith, past.1)) small ∙ sym (get_or-eq_default file 0 behind)
    ]

behind-file : (file bytes : List ℕ) (start end offset count i : ℕ) → IsFilled file bytes start end → start ≡ min offset (length file) → end ≡ min (offset + count) (length file) → count ≤ i → i < 4096 → get_or bytes i 0 ≡ 0
behind-file file bytes start end offset count i is from to past small = is.zeros i (omega (arith, from, to, past)) small

pub filled-page : (file bytes : List ℕ) (region : Segment) (low start end i : ℕ) → covers_all region low 4096 ≡ true → IsFilled file bytes start end → start ≡ min (region.offset + (low - region.start)) (length file) → end ≡ min (region.offset + (low - region.start) + min (region.filled - (low - region.start)) 4096) (length file) → i < 4096
    → get_or bytes i 0 ≡ byte_in file (low + i) (Some region)
filled-page file bytes region low start end i covered is from to small =
    let above : region.start ≤ low = leb-true region.start low (and_parts _ _ covered).0 in
    let depth : low + i - region.start ≡ low - region.start + i = omega arith in
    elim (leb_tells (suc (low + i - region.start)) region.filled) [
      | inl inside ↦
          in-file file bytes start end (region.offset + (low - region.start)) (min (region.filled - (low - region.start)) 4096) i is from to (omega (arith, inside.1, depth)) small
          ∙ ap (λ (k : ℕ). get_or file k 0) (let e : region.offset + (low - region.start) + i ≡ region.offset + (low + i - region.start) = omega (arith, depth) in e)
          ∙ sym (ap (λ (t : Bool). cond t (get_or file (region.offset + (low + i - region.start)) 0) 0) inside.0)
      | inr past ↦
          behind-file file bytes start end (region.offset + (low - region.start)) (min (region.filled - (low - region.start)) 4096) i is from to (omega (arith, past.1, depth)) small
          ∙ sym (ap (λ (t : Bool). cond t (get_or file (region.offset + (low + i - region.start)) 0) 0) past.0)
    ]
