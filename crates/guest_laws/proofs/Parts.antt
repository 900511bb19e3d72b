-- Fields of a file that lie in one of its parts.
use Rattle.std.proofs.Common.{◌≡◌, ℕ, zero, suc, ◌+◌, ◌*◌, ◌<◌, ◌≤◌, nat_le, Bool, true, cond, List, [], ◌++◌, length, take, drop, slice_index, refl, sym, ap, ap₂, ◌∙◌, arith, append_assoc, length-append, length-drop}
use Rattle.std.proofs.Math.Seq.{drop-append-add, take-append_seam}
use Rattle.std.proofs.lemmas.Bool.{le-leb}
use Rattle.std.proofs.lemmas.List.{drop-append-le, get_or-append-add, get_or_append_left}
use Rattle.byteorder.specs.Endian.{little_from}
use Rattle.elf_image.specs.Fields.{number_of}

-- a part of a file, from an offset on
pub record HasPart (file part : List ℕ) (offset : ℕ) : Type 0 where
  pub before : List ℕ
  pub after : List ℕ
  pub is : file ≡ before ++ (part ++ after)
  pub at : length before ≡ offset

-- a number reads no byte after its own
number_front : (i n : ℕ) (xs ys : List ℕ) → i + n ≤ length xs → little_from i n (xs ++ ys) ≡ little_from i n xs
number_front i zero xs ys within = refl
number_front i (suc n) xs ys within =
    ap₂ (λ (a b : ℕ). a + 256 * b) (get_or_append_left xs ys 0 i (omega arith)) (number_front (suc i) n xs ys (omega arith))

-- a number in a part
pub number_in_part : (file part : List ℕ) (offset : ℕ) → HasPart file part offset → (count k at : ℕ) → k + count ≤ length part → at ≡ offset + k → number_of count file at ≡ number_of count part k
unfolding number_of
number_in_part file part offset h count k at within is =
    let b : List ℕ = h.before in
    let a : List ℕ = h.after in
    let la = length-append h.before (part ++ h.after) in
    let lb = length-append part h.after in
    let lw = ap (λ (l : List ℕ). length l) h.is in
    let place = h.at in
    let long : nat_le (at + count) (length file) ≡ true = le-leb (at + count) (length file) (omega (arith, la, lb, lw, place, is, within)) in
    let short : nat_le (k + count) (length part) ≡ true = le-leb (k + count) (length part) within in
    let from : drop at file ≡ drop k part ++ h.after =
    ap₂ (λ (n : ℕ) (l : List ℕ). drop n l) (is ∙ ap (λ (n : ℕ). n + k) (sym h.at)) h.is ∙ drop-append-add h.before (part ++ h.after) k ∙ drop-append-le k part h.after (omega (arith, within)) in
    let left : count ≤ length (drop k part) = omega (arith, within, length-drop k part) in
    let same : little_from 0 count (drop at file) ≡ little_from 0 count (drop k part) = ap (little_from 0 count) from ∙ number_front 0 count (drop k part) h.after (omega (arith, left)) in
    ap (λ (t : Bool). cond t (little_from 0 count (drop at file)) 0) long ∙ same ∙ sym (ap (λ (t : Bool). cond t (little_from 0 count (drop k part)) 0) short)

-- a byte in a part
pub byte_in_part : (file part : List ℕ) (offset : ℕ) → HasPart file part offset → (k at : ℕ) → k < length part → at ≡ offset + k → slice_index file at ≡ slice_index part k
byte_in_part file part offset h k at within is =
    ap₂ (λ (n : ℕ) (l : List ℕ). slice_index l n) (is ∙ ap (λ (n : ℕ). n + k) (sym h.at)) h.is
    ∙ get_or-append-add h.before (part ++ h.after) k 0 ∙ get_or_append_left part h.after 0 k within

-- all of a part
pub bytes_of_part : (file part : List ℕ) (offset size : ℕ) → HasPart file part offset → length part ≡ size → take size (drop offset file) ≡ part
bytes_of_part file part offset size h long =
    let zero_on : drop (offset + 0) file ≡ part ++ h.after =
    ap₂ (λ (n : ℕ) (l : List ℕ). drop n l) (ap (λ (n : ℕ). n + 0) (sym h.at)) h.is ∙ drop-append-add h.before (part ++ h.after) 0 in
    let from : drop offset file ≡ part ++ h.after = ap (λ (n : ℕ). drop n file) (let e : offset ≡ offset + 0 = omega arith in e) ∙ zero_on in
    ap₂ (λ (n : ℕ) (l : List ℕ). take n l) (sym long) from ∙ take-append_seam part h.after

-- the first part, and those after it
pub first_part : (part after : List ℕ) → HasPart (part ++ after) part 0
first_part part after = record { before = []; after = after; is = refl; at = refl }

pub later_part : (front rest part : List ℕ) (size offset : ℕ) → length front ≡ size → HasPart rest part offset → HasPart (front ++ rest) part (size + offset)
later_part front rest part size offset long h =
    let both = length-append front h.before in
    let place = h.at in
    record {
      before = front ++ h.before;
      after = h.after;
      is = ap (λ (l : List ℕ). front ++ l) h.is ∙ sym (append_assoc front h.before (part ++ h.after));
      at = omega (arith, both, place, long);
    }
